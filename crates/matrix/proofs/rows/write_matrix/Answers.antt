-- The next tag brings the rows of its record with the records above it.
use Rattle.matrix.proofs.Matrices.{matrix_is}
use Rattle.matrix.proofs.Sizes.{matrix_narrow}
use Rattle.matrix.proofs.Walks.{matrix_from_zero, next_held}
use Rattle.matrix.proofs.Writes.{held_few, matrix_done, matrix_put}
use Rattle.matrix.proofs.rows.write_matrix.Goals as goal
use Rattle.std.proofs.Common.{length, ap, ◌∙◌, arith}
use lib.Seq.{sets}

pub rows_above-count-requires : goal.rows_above-count-requires
rows_above-count-requires g c =
    let m = g.B.Shown.means c.args.book.now in
    let s = g.met.B.Shown.sound c.args.book.now in
    omega (arith, c.loop-tag.invariant.0, held_few g.B.Reading.Reading.kind m s, ap length (matrix_from_zero g.B.Reading.Reading.kind m s))

pub loop-tag-smaller : goal.loop-tag-smaller
loop-tag-smaller g c =
    let n = next_held g.B.Reading.Reading.kind (g.B.Shown.means c.args.book.now) (g.met.B.Shown.sound c.args.book.now)
    c.loop-tag.last c.in-Some.tag c.in-Some.ensures in
    omega (arith, n.further)

pub loop-tag-preserved : goal.loop-tag-preserved
loop-tag-preserved g c =
    matrix_put g.B.Reading.Reading.kind (g.B.Shown.means c.args.book.now) (g.met.B.Shown.sound c.args.book.now)
    c.loop-tag.last c.loop-tag.count c.loop-tag.rows _ _ c.in-Some.tag c.rows_above-count.result c.rows_above-count.new.rows
    c.loop-tag.invariant c.in-Some.ensures c.rows_above-count.ensures.count c.rows_above-count.ensures.after

pub returns : goal.returns
returns g c =
    let kind = g.B.Reading.Reading.kind in
    let m = g.B.Shown.means c.args.book.now in
    let s = g.met.B.Shown.sound c.args.book.now in
    let p = matrix_done kind m s c.loop-tag.last c.loop-tag.count c.loop-tag.rows _ _ c.loop-tag.invariant c.in_default.ensures in
    let e = matrix_from_zero kind m s in
    record {
      count = p.0 ∙ ap length e;
      after = p.1 ∙ ap (sets c.args.rows.now 0) e;
      few = omega (arith, p.0 ∙ ap length e, held_few kind m s);
      means = matrix_is kind g.met.B.Reading.Reading.lawful m.held;
      narrow = matrix_narrow kind m s;
    }
