-- The tests above the one at hand.
use Rattle.books.specs.Questions.{find}
use Rattle.matrix.proofs.pairs.row_of.Given as goal
use Rattle.matrix.specs.Rows.{apart}
use Rattle.matrix.specs.Walks.{readings_in}
use Rattle.std.proofs.Common.{◌≡◌, drop}

abbrev pub invariant-loop-test : goal.invariant-loop-test
invariant-loop-test g l =
    l.row
    ≡ apart g.B.Reading.Reading.kind
    (drop l.test (readings_in (find l.a (g.B.Shown.means l.book).held)))
    (drop l.test (readings_in (find l.b (g.B.Shown.means l.book).held)))

abbrev pub decreases-loop-test : goal.decreases-loop-test
decreases-loop-test g l = l.test
