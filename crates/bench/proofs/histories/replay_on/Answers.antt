use Rattle.std.proofs.Common.{◌≡◌, ◌<◌, min, length, refl, ◌∙◌, rules, arith}
use Rattle.std.proofs.lemmas.List.{get_or-take, length-take}
use Rattle.bench.proofs.Replays.{history_more, history_new, replayed, rest_stays}
use Rattle.bench.proofs.histories.replay_on.Goals as goal

pub loop-i-init : goal.loop-i-init
loop-i-init g c =
    (history_new g.B.Reading.Reading.kind g.B.Shown.means g.B.Book.rewrites c.new-bench.result c.args.book c.args.list.now c.args.work.now c.new-bench.ensures, refl)

pub loop-i-preserved : goal.loop-i-preserved
loop-i-preserved g c =
    let n = c.min-count.result in
    let count : n ≡ min (length c.args.calls.now) (length c.args.told.now) = search rules in
    let long = c.loop-i.auto.told in
    let below : c.loop-i.i < n = omega (arith, length-take n c.args.calls.now, c.loop-i-test.true) in (
      history_more g.B.Reading.Reading.kind g.B.Shown.means g.B.Book.rewrites (g.B.Shown.means c.new-bench.result.book)
          (record { bench = c.new-bench.result; list = c.args.list.now; work = c.args.work.now })
          (record { bench = c.loop-i.bench; list = c.loop-i.list; work = c.loop-i.work })
          (record { bench = c.step_lent.new.bench; list = c.step_lent.new.list; work = c.step_lent.new.work })
          c.args.calls.now c.loop-i.told c.loop-i.i (length c.args.work.now) c.step_lent.result c.call-item.result
          c.loop-i.invariant.0 c.step_lent.ensures c.loop-i.auto.work
          (omega (arith, count)) (omega (arith, count, long))
          (c.call-item.is ∙ get_or-take n c.args.calls.now c.loop-i.i c.call-item.result below),
      rest_stays c.loop-i.told c.args.told.now c.loop-i.i c.step_lent.result
          (omega (arith, count, long)) c.loop-i.invariant.1,
    )

pub returns : goal.returns
returns g c =
    let n = min (length c.args.calls.now) (length c.args.told.now) in
    let count : c.min-count.result ≡ n = search rules in
    let end : c.loop-i.i ≡ n = omega (arith, count, length-take c.min-count.result c.args.calls.now, c.loop-i.auto.i-end, c.loop-i-test.false) in
    replayed g.B.Reading.Reading.kind g.B.Shown.means g.B.Book.rewrites c.new-bench.result c.args.book
    c.args.list.now c.args.work.now c.args.told.now c.loop-i.list c.loop-i.work c.loop-i.told c.loop-i.bench
    c.args.calls.now c.loop-i.i c.new-bench.ensures end c.loop-i.invariant.0 c.loop-i.invariant.1
