-- The next tag brings one row or none.
use Rattle.books.specs.Questions.{find}
use Rattle.matrix.proofs.Walks.{next_held}
use Rattle.matrix.proofs.Writes.{rows_done, rows_of_few, rows_pass, rows_put}
use Rattle.matrix.proofs.rows.rows_above.Goals as goal
use Rattle.std.proofs.Common.{arith, refl}

pub overflow_add-count : goal.overflow_add-count
overflow_add-count g c =
    let m = g.B.Shown.means c.args.book.now in
    let few = rows_of_few g.B.Reading.Reading.kind m (g.met.B.Shown.sound c.args.book.now) c.args.above (find c.args.tag m.held) in
    omega (arith, c.loop-other.invariant.0)

pub loop-other-smaller-then-differ : goal.loop-other-smaller-then-differ
loop-other-smaller-then-differ g c =
    let n = next_held g.B.Reading.Reading.kind (g.B.Shown.means c.args.book.now) (g.met.B.Shown.sound c.args.book.now)
    c.loop-other.last c.in-Some.other c.in-Some.ensures in
    omega (arith, n.further)

pub loop-other-preserved-then-differ : goal.loop-other-preserved-then-differ
loop-other-preserved-then-differ g c =
    rows_put g.B.Reading.Reading.kind (g.B.Shown.means c.args.book.now) (g.met.B.Shown.sound c.args.book.now)
    c.loop-other.last c.loop-other.count c.loop-other.rows _ _ _ c.in-Some.other _ c.put_row.new.rows
    c.loop-other.invariant c.in-Some.ensures c.if-differ.ensures refl c.put_row.ensures

pub loop-other-smaller : goal.loop-other-smaller
loop-other-smaller g c =
    let n = next_held g.B.Reading.Reading.kind (g.B.Shown.means c.args.book.now) (g.met.B.Shown.sound c.args.book.now)
    c.loop-other.last c.in-Some.other c.in-Some.ensures in
    omega (arith, n.further)

pub loop-other-preserved : goal.loop-other-preserved
loop-other-preserved g c =
    rows_pass g.B.Reading.Reading.kind (g.B.Shown.means c.args.book.now) (g.met.B.Shown.sound c.args.book.now)
    c.loop-other.last c.loop-other.count c.loop-other.rows _ _ _ c.in-Some.other
    c.loop-other.invariant c.in-Some.ensures c.if-differ.ensures

pub returns : goal.returns
returns g c =
    let p = rows_done g.B.Reading.Reading.kind (g.B.Shown.means c.args.book.now) (g.met.B.Shown.sound c.args.book.now)
    c.loop-other.last c.loop-other.count c.loop-other.rows _ _ _ c.loop-other.invariant c.in_default.ensures in
    record { count = p.0; after = p.1 }
