-- The rows of the records so far are written, and the count stands after them.
use Rattle.page_book.proofs.rows.write_rows.Given as goal
use Rattle.page_book.specs.Rows.{matrix_to}
use Rattle.std.proofs.Common.{◌≡◌, length}
use lib.Seq.{sets}

abbrev pub invariant-loop-k : goal.invariant-loop-k
invariant-loop-k l =
    (l.count ≡ length (matrix_to l.page l.k))
    × (l.rows ≡ sets l.initial.rows 0 (matrix_to l.page l.k))
