-- What is left of the rows, counted on, still decides.
use Rattle.covers.proofs.listing.check.Given as goal
use Rattle.covers.specs.Answers.{wide_row}
use Rattle.std.proofs.Common.{◌≡◌, drop}

abbrev pub invariant-loop-i : goal.invariant-loop-i
invariant-loop-i l = wide_row l.fn.width l.i (drop l.i l.rows) ≡ wide_row l.fn.width 0 l.rows
