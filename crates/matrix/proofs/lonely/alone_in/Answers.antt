-- The next tag brings the rows of its record with the records above it.
use Rattle.std.proofs.Common.{ℕ, sym, ap, ◌∙◌, subst, arith}
use Rattle.covers.proofs.Least.{core_common}
use Rattle.covers.specs.Plans.{core_of}
use Rattle.covers.specs.Theorems.{Common}
use Rattle.matrix.proofs.Cores.{core_alone, cores_done, cores_put}
use Rattle.matrix.proofs.Matrices.{matrix_is}
use Rattle.matrix.proofs.Walks.{matrix_from_zero, next_held}
use Rattle.matrix.proofs.lonely.alone_in.Goals as goal
use Rattle.matrix.specs.Rows.{matrix_of}

pub loop-tag-smaller : goal.loop-tag-smaller
loop-tag-smaller g c =
    let n = next_held g.B.Reading.Reading.kind (g.B.Shown.means c.args.book.now) (g.met.B.Shown.sound c.args.book.now)
    c.loop-tag.last c.in-Some.tag c.in-Some.ensures in
    omega (arith, n.further)

pub loop-tag-preserved : goal.loop-tag-preserved
loop-tag-preserved g c =
    cores_put g.B.Reading.Reading.kind (g.B.Shown.means c.args.book.now) (g.met.B.Shown.sound c.args.book.now)
    c.loop-tag.last c.loop-tag.alone _ c.in-Some.tag c.alone_above-alone.result
    c.loop-tag.invariant c.in-Some.ensures c.alone_above-alone.ensures

pub returns : goal.returns
returns g c =
    let kind = g.B.Reading.Reading.kind in
    let m = g.B.Shown.means c.args.book.now in
    let s = g.met.B.Shown.sound c.args.book.now in
    let is =
    cores_done kind m s c.loop-tag.last c.loop-tag.alone _ c.loop-tag.invariant c.in_default.ensures
    ∙ ap core_of (matrix_from_zero kind m s) in
    record {
      answer = is;
      alone = core_alone kind m.held (matrix_of kind m.held) (matrix_is kind g.met.B.Reading.Reading.lawful m.held) c.loop-tag.alone is;
      common = subst (λ (x : ℕ). Common (matrix_of kind m.held) x) (sym is) (core_common (matrix_of kind m.held));
    }
