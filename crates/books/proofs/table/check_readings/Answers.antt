use Rattle.std.proofs.Common.{◌≡◌, ◌+◌, false, not, ◌&&◌, sym, ap, ◌∙◌}
use Rattle.books.proofs.Closed.{closed_found, closed_more, closed_none}
use Rattle.books.proofs.table.check_readings.Goals as goal
use Rattle.books.proofs.table.check_readings.Goals.{else-closed_test-via-then-closed_test+else-not-is_blank, else-closed_test-via-else-closed_test}
use Rattle.refusals.specs.Faults.{passed}
use Rattle.std.proofs.lemmas.Bool.{and_from, and_left, and_right, not_from_false, not_from_true}

pub returns-then-not-is_blank : goal.returns-then-not-is_blank
returns-then-not-is_blank g c =
    let closed = (g.B.Shown.means c.args.book.now).closed_test in
    ap passed
    (sym
    (sym c.loop-place.invariant
    ∙ closed_found g.B.Reading.Reading.kind closed (c.loop-place.place + 1) c.args.readings.now c.loop-place.place
    c.index-readings-place.result c.loop-place-test.true c.index-readings-place.is
    (and_from (closed (c.loop-place.place + 1)) (not (g.B.Reading.Reading.kind.is_blank c.index-readings-place.result))
    (sym c.if-closed_test.ensures) (not_from_false _ (sym c.if-not-is_blank.ensures)))))

pub loop-place-preserved : goal.loop-place-preserved
loop-place-preserved g c =
    let closed = (g.B.Shown.means c.args.book.now).closed_test in
    let open-or-blank : (closed (c.loop-place.place + 1) && not (g.B.Reading.Reading.kind.is_blank c.index-readings-place.result)) ≡ false =
    elim c.else-closed_test.branch [
      | else-closed_test-via-then-closed_test+else-not-is_blank w ↦
          and_right (closed (c.loop-place.place + 1)) _ (not_from_true _ (sym w.is_blank.ensures ∙ w.if-not-is_blank.false))
      | else-closed_test-via-else-closed_test w ↦ and_left (closed (c.loop-place.place + 1)) _ (sym c.closed_test.ensures ∙ w.if-closed_test.false)
    ] in
    sym
    (closed_more g.B.Reading.Reading.kind closed (c.loop-place.place + 1) c.args.readings.now c.loop-place.place
    c.index-readings-place.result c.loop-place-test.true c.index-readings-place.is open-or-blank)
    ∙ c.loop-place.invariant

pub returns : goal.returns
returns g c =
    ap passed
    (sym
    (sym c.loop-place.invariant
    ∙ closed_none g.B.Reading.Reading.kind (g.B.Shown.means c.args.book.now).closed_test (c.loop-place.place + 1) c.args.readings.now
    c.loop-place.place c.loop-place-test.false))
