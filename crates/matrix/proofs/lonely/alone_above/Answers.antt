-- The next tag brings one row or none.
use Rattle.matrix.proofs.Cores.{core_done, core_pass, core_put}
use Rattle.matrix.proofs.Walks.{next_held}
use Rattle.matrix.proofs.lonely.alone_above.Goals as goal
use Rattle.std.proofs.Common.{arith}

pub loop-other-smaller-then-differ : goal.loop-other-smaller-then-differ
loop-other-smaller-then-differ g c =
    let n = next_held g.B.Reading.Reading.kind (g.B.Shown.means c.args.book.now) (g.met.B.Shown.sound c.args.book.now)
    c.loop-other.last c.in-Some.other c.in-Some.ensures in
    omega (arith, n.further)

pub loop-other-preserved-then-differ : goal.loop-other-preserved-then-differ
loop-other-preserved-then-differ g c =
    core_put g.B.Reading.Reading.kind (g.B.Shown.means c.args.book.now) (g.met.B.Shown.sound c.args.book.now)
    c.loop-other.last c.loop-other.alone _ _ c.in-Some.other c.row_of.result c.single-alone.result
    c.loop-other.invariant c.in-Some.ensures c.if-differ.ensures c.row_of.ensures c.single-alone.ensures

pub loop-other-smaller : goal.loop-other-smaller
loop-other-smaller g c =
    let n = next_held g.B.Reading.Reading.kind (g.B.Shown.means c.args.book.now) (g.met.B.Shown.sound c.args.book.now)
    c.loop-other.last c.in-Some.other c.in-Some.ensures in
    omega (arith, n.further)

pub loop-other-preserved : goal.loop-other-preserved
loop-other-preserved g c =
    core_pass g.B.Reading.Reading.kind (g.B.Shown.means c.args.book.now) (g.met.B.Shown.sound c.args.book.now)
    c.loop-other.last c.loop-other.alone _ _ c.in-Some.other
    c.loop-other.invariant c.in-Some.ensures c.if-differ.ensures

pub returns : goal.returns
returns g c =
    core_done g.B.Reading.Reading.kind (g.B.Shown.means c.args.book.now) (g.met.B.Shown.sound c.args.book.now)
    c.loop-other.last c.loop-other.alone _ _ c.loop-other.invariant c.in_default.ensures
