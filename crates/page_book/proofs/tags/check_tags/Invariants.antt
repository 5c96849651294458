-- No record so far has a tag that stands in an earlier one.
use Rattle.page_book.proofs.tags.check_tags.Given as goal
use Rattle.page_book.specs.Lowest.{lowest}
use Rattle.page_book.specs.Refused.{twice_at}
use Rattle.std.proofs.Common.{◌≡◌, None}

abbrev pub invariant-loop-k : goal.invariant-loop-k
invariant-loop-k l = lowest (twice_at l.page) l.k ≡ None
