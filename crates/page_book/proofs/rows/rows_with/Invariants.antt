-- The rows with the records so far are written, and the count stands after them.
use Rattle.std.proofs.Common.{◌≡◌, ◌+◌, length, take}
use Rattle.page_book.proofs.rows.rows_with.Given as goal
use Rattle.page_book.specs.Earlier.{rows_after}
use lib.Seq.{sets}

abbrev pub invariant-loop-other : goal.invariant-loop-other
invariant-loop-other l =
    (l.count ≡ l.from + length (rows_after l.later (take l.other-index l.earlier)))
    × (l.rows ≡ sets l.initial.rows l.from (rows_after l.later (take l.other-index l.earlier)))
