-- What is gathered so far, joined with the core of what is left, is the whole.
use Rattle.std.proofs.Common.{◌≡◌, ◌-◌}
use Rattle.covers.specs.Plans.{core_of}
use Rattle.matrix.proofs.lonely.alone_in.Given as goal
use Rattle.matrix.specs.Rows.{matrix_of}
use Rattle.matrix.specs.Walks.{above}
use lib.Bits.{bit_or}

abbrev pub invariant-loop-tag : goal.invariant-loop-tag
invariant-loop-tag g l =
    let kind = g.B.Reading.Reading.kind in
    let held = (g.B.Shown.means l.book).held in
    bit_or l.alone (core_of (matrix_of kind (above l.last held))) ≡ core_of (matrix_of kind (above 0 held))

abbrev pub decreases-loop-tag : goal.decreases-loop-tag
decreases-loop-tag g l = 65536 - l.last
