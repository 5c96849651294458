use Rattle.bench.proofs.Known.{all_plans}
use Rattle.bench.proofs.Stepping.{exit_shelved, exit_short}
use Rattle.bench.proofs.bench.shelve_on.Goals as goal
use Rattle.bench.specs.Ledger.{shelve}
use Rattle.matrix.proofs.Matrices.{matrix_is}
use Rattle.std.proofs.lemmas.Result.{err_from_is_err_and}
use Rattle.std.proofs.Common.{length, Err, refl, ap, ◌∙◌}

pub returns-in_err-check_work : goal.returns-in_err-check_work
returns-in_err-check_work g c =
    let p = err_from_is_err_and c.from_residual.result c.from_residual.ensures.1 in
    exit_short g.B.Reading.Reading.kind g.B.Shown.means g.B.Book.rewrites (shelve (length c.args.work.now)) c.args.bench.now
    c.args.list.now c.args.work.now c.from_residual.result c.in_err-check_work.field-0.0 refl c.in_err-check_work.ensures (p.1 ∙ ap Err p.2)

pub returns : goal.returns
returns g c =
    let m = g.B.Shown.means c.args.bench.now.book in
    exit_shelved g.B.Reading.Reading.kind g.B.Shown.means g.B.Book.rewrites c.args.bench.now c.list_again.new.bench
    c.args.list.now c.list_again.new.list c.args.work.now c.list_again.new.work c.list_again.result
    (all_plans g.B.Reading.Reading.kind m (g.met.B.Shown.sound c.args.bench.now.book))
    (matrix_is g.B.Reading.Reading.kind g.met.B.Reading.Reading.lawful m.held)
    c.in_ok-check_work.ensures c.list_again.ensures
