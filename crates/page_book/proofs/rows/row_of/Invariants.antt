-- The tests so far.
use Rattle.page_book.proofs.rows.row_of.Given as goal
use Rattle.page_book.specs.Rows.{apart}
use Rattle.std.proofs.Common.{◌≡◌, ◌++◌}

abbrev pub invariant-loop-place : goal.invariant-loop-place
invariant-loop-place l = l.row ≡ apart (l.other ++ l.later) 0 1 l.place
