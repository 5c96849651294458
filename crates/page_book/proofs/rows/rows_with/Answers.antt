-- One more record brings one row or none.
use Rattle.std.proofs.Common.{◌<◌, [], ◌∷◌, length, set, take, sym, refl, ap, ◌∙◌, add-zero, arith}
use Rattle.page_book.proofs.Matrix.{written_more}
use Rattle.page_book.proofs.Pairs.{after_none, after_one, length_after}
use Rattle.page_book.proofs.rows.rows_with.Goals as goal
use Rattle.page_book.proofs.rows.rows_with.Goals.{else-differ, then-differ}
use Rattle.page_book.specs.Earlier.{rows_after}
use Rattle.std.proofs.lemmas.List.{length-take-le}

pub loop-other-init : goal.loop-other-init
unfolding rows_after
loop-other-init c = (sym (add-zero c.args.from), refl)

-- there is room for one more
room : (c : goal.After-row_of) → c.loop-other.count < length c.loop-other.rows
room c = omega (arith, length_after c.args.later.now (take c.loop-other.other-index c.args.earlier.now), length-take-le c.loop-other.other-index c.args.earlier.now (omega arith))

pub offset_bounds-rows-count : goal.offset_bounds-rows-count
offset_bounds-rows-count c = omega (arith, room c)

pub bounds-rows-count : goal.bounds-rows-count
bounds-rows-count c = room c

pub overflow_add-count : goal.overflow_add-count
overflow_add-count c = omega (arith, room c)

pub loop-other-preserved : goal.loop-other-preserved
loop-other-preserved c =
    let i = c.loop-other.other-index in
    elim c.if-differ.branch [
      | then-differ w ↦
          (let e = after_one c.args.later.now c.args.earlier.now [] i (omega arith) w.if-differ.ensures in
          let p = written_more c.args.rows.now c.loop-other.rows _ (_ ∷ []) _ c.args.from c.loop-other.count c.loop-other.invariant.0 c.loop-other.invariant.1 e in
          (omega (arith, p.0, w.count-is), w.rows-is ∙ ap (set c.loop-other.rows c.loop-other.count) w.row_of.ensures ∙ p.1))
      | else-differ w ↦
          (let e = after_none c.args.later.now c.args.earlier.now [] i (omega arith) w.if-differ.ensures in
          (w.count-is ∙ rw e c.loop-other.invariant.0, w.rows-is ∙ rw e c.loop-other.invariant.1))
    ]
