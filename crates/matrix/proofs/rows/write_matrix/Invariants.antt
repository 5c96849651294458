-- What is left to write from here is what was to be written at the start.
use Rattle.std.proofs.Common.{◌-◌, length}
use Rattle.matrix.proofs.rows.write_matrix.Given as goal
use Rattle.matrix.specs.Rows.{matrix_of}
use Rattle.matrix.specs.Walks.{Remains, above}
use lib.Seq.{sets}

abbrev pub invariant-loop-tag : goal.invariant-loop-tag
invariant-loop-tag g l =
    let kind = g.B.Reading.Reading.kind in
    let held = (g.B.Shown.means l.book).held in
    Remains (matrix_of kind (above l.last held)) l.count l.rows
    (length (matrix_of kind (above 0 held))) (sets l.initial.rows 0 (matrix_of kind (above 0 held)))

abbrev pub decreases-loop-tag : goal.decreases-loop-tag
decreases-loop-tag g l = 65536 - l.last
