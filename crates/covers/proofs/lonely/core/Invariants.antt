-- What is done so far, joined with the rows that are left, is the whole.
use Rattle.covers.proofs.lonely.core.Given as goal
use Rattle.covers.specs.Plans.{core_of}
use lib.Bits.{bit_or}
use Rattle.std.proofs.Common.{◌≡◌, drop}

abbrev pub invariant-loop-row : goal.invariant-loop-row
invariant-loop-row l = bit_or l.alone (core_of (drop l.row-index l.rows)) ≡ core_of l.rows
