use Rattle.std.proofs.Common.{◌≡◌, ℕ, ◌≤◌, Some, sym, length, replicate, ap, ◌∙◌, arith}
use Rattle.bench.proofs.Singles.{single_count}
use Rattle.bench.proofs.Written.{narrow_written, plans_written}
use Rattle.bench.proofs.single.list_single.Goals as goal
use Rattle.books.specs.Questions.{find}
use Rattle.covers.specs.Answers.{listed, told}
use Rattle.matrix.specs.Rows.{rows_of}

pub cover_written-requires : goal.cover_written-requires
cover_written-requires g c =
    let m = c.rows_of.ensures in
    let n = c.unwrap-count.result in
    let is : c.rows_of.result ≡ Some n = c.unwrap-count.ensures in
    let few : n ≤ 64 = rw is at m.few in
    let counted = sym is ∙ m.answer in
    let book = g.B.Shown.means c.args.book.now in
    let one = find c.args.tag book.held in
    let wide = (g.met.B.Shown.sound c.args.book.now).wide in (
      (omega (arith, wide, c.width.ensures), omega (arith, wide, c.width.ensures)),
      (
        omega (arith, c.requires.0, c.rows_of.auto.rows),
        narrow_written c.args.work.now (rows_of g.B.Reading.Reading.kind book.held one) c.rows_of.new.rows n
            m.after (single_count g.B.Reading.Reading.kind book one n counted) (omega arith) c.requires.0
            c.width.result book.width c.width.ensures m.narrow,
      ),
    )

pub returns : goal.returns
returns g c =
    let m = c.rows_of.ensures in
    let n = c.unwrap-count.result in
    let is : c.rows_of.result ≡ Some n = c.unwrap-count.ensures in
    let few : n ≤ 64 = rw is at m.few in
    let counted = sym is ∙ m.answer in
    let book = g.B.Shown.means c.args.book.now in
    let one = find c.args.tag book.held in
    let same = plans_written c.args.work.now (rows_of g.B.Reading.Reading.kind book.held one) c.rows_of.new.rows n
    m.after (single_count g.B.Reading.Reading.kind book one n counted) (omega arith) c.requires.0
    c.width.result book.width c.width.ensures in
    record {
      answer = c.cover_written.ensures.answer ∙ ap (told (length c.args.list.now)) same;
      after = c.cover_written.ensures.after ∙ ap (listed (length c.args.list.now)) same;
      cleared = c.cover_written.ensures.cleared ∙ ap (λ (n : ℕ). replicate {A = ℕ} n 0) c.rows_of.auto.rows;
    }
