use Rattle.std.proofs.Common.{ℕ, length, replicate, ap, ◌∙◌, arith}
use Rattle.bench.proofs.Written.{narrow_written, plans_written}
use Rattle.bench.proofs.bench.list_plans.Goals as goal
use Rattle.covers.specs.Answers.{listed, told}
use Rattle.matrix.specs.Rows.{matrix_of}

pub cover_written-requires : goal.cover_written-requires
cover_written-requires g c =
    let m = c.matrix-count.ensures in
    let book = g.B.Shown.means c.args.book.now in
    let wide = (g.met.B.Shown.sound c.args.book.now).wide in (
      (omega (arith, wide, c.width.ensures), omega (arith, wide, c.width.ensures)),
      (
        omega (arith, m.few, c.requires, c.matrix-count.auto.rows),
        narrow_written c.args.work.now (matrix_of g.B.Reading.Reading.kind book.held) c.matrix-count.new.rows c.matrix-count.result
            m.after m.count m.few c.requires c.width.result book.width c.width.ensures m.narrow,
      ),
    )

pub returns : goal.returns
returns g c =
    let m = c.matrix-count.ensures in
    let book = g.B.Shown.means c.args.book.now in
    let same = plans_written c.args.work.now (matrix_of g.B.Reading.Reading.kind book.held) c.matrix-count.new.rows c.matrix-count.result
    m.after m.count m.few c.requires c.width.result book.width c.width.ensures in
    record {
      answer = c.cover_written.ensures.answer ∙ ap (told (length c.args.list.now)) same;
      after = c.cover_written.ensures.after ∙ ap (listed (length c.args.list.now)) same;
      cleared = c.cover_written.ensures.cleared ∙ ap (λ (n : ℕ). replicate {A = ℕ} n 0) c.matrix-count.auto.rows;
    }
