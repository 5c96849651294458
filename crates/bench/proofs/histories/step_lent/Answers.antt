use Rattle.std.proofs.Common.{◌≡◌, ℕ, min, length, ap, ◌∙◌, rules}
use Rattle.bench.proofs.Replays.{lent_step}
use Rattle.bench.proofs.histories.step_lent.Goals as goal

pub returns : goal.returns
returns g c =
    let lent : c.min-lent.result ≡ min c.wanted_by.result (length c.args.work.now) = search rules in
    lent_step g.B.Reading.Reading.kind g.B.Shown.means g.B.Book.rewrites c.args.call.now c.args.bench.now c.step.new.bench
    c.args.list.now c.step.new.list c.args.work.now c.step.new.work c.min-lent.result c.step.result c.number_of.result
    (lent ∙ ap (λ (n : ℕ). min n (length c.args.work.now)) c.wanted_by.ensures) c.step.ensures c.step.auto.work c.number_of.ensures
