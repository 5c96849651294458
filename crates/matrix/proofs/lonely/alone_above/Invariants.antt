-- What is gathered so far, joined with the core of what is left, is the whole.
use Rattle.std.proofs.Common.{◌≡◌, ◌-◌}
use Rattle.books.specs.Questions.{find}
use Rattle.covers.specs.Plans.{core_of}
use Rattle.matrix.proofs.lonely.alone_above.Given as goal
use Rattle.matrix.specs.Rows.{rows_of}
use Rattle.matrix.specs.Walks.{above}
use lib.Bits.{bit_or}

abbrev pub invariant-loop-other : goal.invariant-loop-other
invariant-loop-other g l =
    let kind = g.B.Reading.Reading.kind in
    let held = (g.B.Shown.means l.book).held in
    bit_or l.alone (core_of (rows_of kind (above l.last held) (find l.tag held))) ≡ core_of (rows_of kind (above l.tag held) (find l.tag held))

abbrev pub decreases-loop-other : goal.decreases-loop-other
decreases-loop-other g l = 65536 - l.last
