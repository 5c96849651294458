-- Each test down doubles the row and adds its own digit.
use Rattle.books.specs.Questions.{find, reading_of}
use Rattle.matrix.proofs.Digits.{apart_down, apart_end, clashing_le, found_full, row_room}
use Rattle.matrix.proofs.pairs.row_of.Goals as goal
use Rattle.matrix.specs.Walks.{readings_in}
use Rattle.std.proofs.Common.{◌≡◌, ℕ, Bool, true, false, cond, drop, sym, ◌∙◌, arith}
use mir.Val.{bool_byte}

pub loop-test-init : goal.loop-test-init
loop-test-init g c =
    let m = g.B.Shown.means c.args.book.now in
    sym
    (apart_end g.B.Reading.Reading.kind c.width-test.result (readings_in (find c.args.a m.held))
    (drop c.width-test.result (readings_in (find c.args.b m.held)))
    (omega (arith, c.width-test.ensures, found_full g.B.Reading.Reading.kind m (g.met.B.Shown.sound c.args.book.now) c.args.a)))

pub overflow_mul-row : goal.overflow_mul-row
overflow_mul-row g c =
    omega (
      arith,
      row_room g.B.Reading.Reading.kind (g.B.Shown.means c.args.book.now) (g.met.B.Shown.sound c.args.book.now)
          c.args.a c.args.b c.loop-test.test c.loop-test.row c.loop-test-test.true c.loop-test.invariant,
    )

-- the digit that a test adds
digit : (b : Bool) (n d : ℕ) → n ≡ bool_byte b → cond b 1 0 ≡ d → n ≡ d
digit true n d e f = e ∙ f
digit false n d e f = e ∙ f

pub overflow_add-row : goal.overflow_add-row
overflow_add-row g c =
    let m = g.B.Shown.means c.args.book.now in
    let room = row_room g.B.Reading.Reading.kind m (g.met.B.Shown.sound c.args.book.now)
    c.args.a c.args.b c.loop-test.test c.loop-test.row c.loop-test-test.true c.loop-test.invariant in
    let small = clashing_le g.B.Reading.Reading.kind (reading_of m c.args.a c.loop-test.test) (reading_of m c.args.b c.loop-test.test) in
    let e = digit c.tells.result c.from.result _ c.from.ensures c.tells.ensures in
    omega (arith, e)

pub loop-test-preserved : goal.loop-test-preserved
loop-test-preserved g c =
    let m = g.B.Shown.means c.args.book.now in
    apart_down g.B.Reading.Reading.kind (find c.args.a m.held) (find c.args.b m.held) c.loop-test.test c.loop-test.row c.from.result
    c.loop-test-test.true c.loop-test.invariant (digit c.tells.result c.from.result _ c.from.ensures c.tells.ensures)
