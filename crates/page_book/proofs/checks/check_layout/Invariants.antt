-- No record so far is against the layout.
use Rattle.page_book.proofs.checks.check_layout.Given as goal
use Rattle.page_book.specs.Lowest.{lowest}
use Rattle.page_book.specs.Refused.{layout_at}
use Rattle.std.proofs.Common.{◌≡◌, None}

abbrev pub invariant-loop-k : goal.invariant-loop-k
invariant-loop-k l = lowest (layout_at l.page l.width) l.k ≡ None
