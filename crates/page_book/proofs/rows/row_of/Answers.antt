-- Each test adds its own power of two where the readings are not compatible.
use Rattle.page_book.proofs.Matrix.{apart_lt, row_more, row_same}
use Rattle.page_book.proofs.Pairs.{first_code, second_code}
use Rattle.page_book.proofs.rows.row_of.Goals as goal
use Rattle.page_book.proofs.rows.row_of.Goals.{else-not-compatible, then-not-compatible}
use Rattle.page_book.specs.Rows.{apart}
use Rattle.std.proofs.lemmas.Nat.{one_shl, pow_below}
use Rattle.std.proofs.Common.{◌++◌, refl, sym, ◌∙◌, rules, arith}

pub loop-place-init : goal.loop-place-init
unfolding apart
loop-place-init c = refl

pub overflow_add-row : goal.overflow_add-row
overflow_add-row c =
    let below = apart_lt (c.args.other.now ++ c.args.later.now) 0 1 c.loop-place.place in
    omega (arith, c.loop-place.invariant, one_shl c.loop-place.place 32 (omega arith), pow_below c.loop-place.place 24 (omega arith))

pub loop-place-preserved : goal.loop-place-preserved
loop-place-preserved c =
    let first = c.code.ensures ∙ sym (first_code c.args.other.now c.args.later.now (search rules) c.loop-place.place (omega arith)) in
    let second = c.code-in-loop-place.ensures ∙ sym (second_code c.args.other.now c.args.later.now (search rules) c.loop-place.place) in
    elim c.if-not-compatible.branch [
      | then-not-compatible w ↦
          (let more = row_more (c.args.other.now ++ c.args.later.now) 0 1 c.loop-place.place _ _ c.loop-place.row
          first second w.if-not-compatible.ensures (omega arith) c.loop-place.invariant in
          omega (arith, w.row-is))
      | else-not-compatible w ↦
          (let same = row_same (c.args.other.now ++ c.args.later.now) 0 1 c.loop-place.place _ _ c.loop-place.row
          first second w.if-not-compatible.ensures c.loop-place.invariant in
          omega (arith, w.row-is))
    ]
