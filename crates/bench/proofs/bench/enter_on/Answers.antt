use Rattle.bench.proofs.Stepping.{exit_short}
use Rattle.bench.proofs.bench.enter_on.Goals as goal
use Rattle.bench.specs.Ledger.{change}
use Rattle.books.specs.Changes.{enter}
use Rattle.std.proofs.lemmas.Result.{err_from_is_err_and}
use Rattle.std.proofs.Common.{length, Err, refl, ap, ◌∙◌}

pub returns-in_err-check_work : goal.returns-in_err-check_work
returns-in_err-check_work g c =
    let p = err_from_is_err_and c.from_residual.result c.from_residual.ensures.1 in
    exit_short g.B.Reading.Reading.kind g.B.Shown.means g.B.Book.rewrites
    (change (length c.args.work.now) (enter c.args.tag c.args.part c.args.readings.now)) c.args.bench.now c.args.list.now c.args.work.now
    c.from_residual.result c.in_err-check_work.field-0.0 refl c.in_err-check_work.ensures (p.1 ∙ ap Err p.2)

pub returns : goal.returns
returns g c = c.list_changed.ensures (enter c.args.tag c.args.part c.args.readings.now) c.args.bench.now.book c.enter-changed.ensures
