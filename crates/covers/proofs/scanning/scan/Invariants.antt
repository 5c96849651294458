-- What is done so far, joined with the rows that are left, is the whole.
use Rattle.covers.proofs.scanning.scan.Given as goal
use Rattle.covers.specs.Plans.{covers, owned}
use lib.Bits.{bit_or}
use Rattle.std.proofs.Common.{◌≡◌, ◌&&◌, drop}

abbrev pub invariant-loop-row : goal.invariant-loop-row
invariant-loop-row l =
    ((l.coverable && covers (drop l.row-index l.rows) l.reach) ≡ covers l.rows l.reach)
    × ((l.covered && covers (drop l.row-index l.rows) l.chosen) ≡ covers l.rows l.chosen)
    × (bit_or l.owned (owned (drop l.row-index l.rows) l.chosen) ≡ owned l.rows l.chosen)
