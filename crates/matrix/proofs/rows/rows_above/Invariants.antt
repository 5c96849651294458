-- What is left to write from here is what was to be written at the start.
use Rattle.std.proofs.Common.{◌+◌, ◌-◌, length}
use Rattle.books.specs.Questions.{find}
use Rattle.matrix.proofs.rows.rows_above.Given as goal
use Rattle.matrix.specs.Rows.{rows_of}
use Rattle.matrix.specs.Walks.{Remains, above}
use lib.Seq.{sets}

abbrev pub invariant-loop-other : goal.invariant-loop-other
invariant-loop-other g l =
    let kind = g.B.Reading.Reading.kind in
    let held = (g.B.Shown.means l.book).held in
    Remains (rows_of kind (above l.last held) (find l.tag held)) l.count l.rows
    (l.from + length (rows_of kind (above l.above held) (find l.tag held)))
    (sets l.initial.rows l.from (rows_of kind (above l.above held) (find l.tag held)))

abbrev pub decreases-loop-other : goal.decreases-loop-other
decreases-loop-other g l = 65536 - l.last
