use Rattle.bench.proofs.Known.{all_plans}
use Rattle.bench.proofs.Stepping.{exit_book, exit_listed, roomy}
use Rattle.bench.proofs.bench.list_changed.Goals as goal
use Rattle.matrix.proofs.Matrices.{matrix_is}
use Rattle.std.proofs.lemmas.Result.{err_from_is_err_and}
use Rattle.std.proofs.Common.{length, Err, refl, ap, ◌∙◌}

pub returns-in_err-changed : goal.returns-in_err-changed
returns-in_err-changed g c change was promise =
    let p = err_from_is_err_and c.from_residual.result c.from_residual.ensures.1 in
    exit_book g.B.Reading.Reading.kind g.B.Shown.means g.B.Book.rewrites change
    (record { book = was; count = c.args.bench.now.count; over = c.args.bench.now.over }) c.args.bench.now
    c.args.list.now c.args.list.now c.args.work.now c.args.work.now (roomy (length c.args.work.now) c.requires)
    c.args.changed c.in_err-changed.field-0.0 promise c.in_err-changed.was refl refl refl
    c.from_residual.result (p.1 ∙ ap Err p.2)

pub returns : goal.returns
returns g c change was promise =
    let m = g.B.Shown.means c.args.bench.now.book in
    exit_listed g.B.Reading.Reading.kind g.B.Shown.means g.B.Book.rewrites change
    (record { book = was; count = c.args.bench.now.count; over = c.args.bench.now.over }) c.list_again.new.bench
    c.args.list.now c.list_again.new.list c.args.work.now c.list_again.new.work
    (roomy (length c.args.work.now) c.requires) c.args.bench.now c.args.changed c.list_again.result
    (all_plans g.B.Reading.Reading.kind m (g.met.B.Shown.sound c.args.bench.now.book))
    (matrix_is g.B.Reading.Reading.kind g.met.B.Reading.Reading.lawful m.held)
    promise c.in_ok-changed.was c.list_again.ensures
