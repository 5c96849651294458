use Rattle.bench.proofs.Likeness.{histories_agree}
use Rattle.bench.proofs.histories.run_two.Goals as goal
use Rattle.bench.specs.Histories.{run}
use Rattle.std.proofs.Common.{length, take}

pub returns : goal.returns
returns g c =
    let calls = run c.args.calls.now c.args.work.now c.args.told.now in
    let calls2 = run c.args.calls2.now c.args.work2.now c.args.told2.now in
    record {
      one = c.replay-one.ensures;
      two = c.replay-two.ensures;
      alike = histories_agree g.B.Reading.Reading.kind g.met.B.Reading.Reading.lawful
          (g.B.Shown.means c.args.book) (g.C.Shown.means c.args.book2) calls calls2
          (take (length calls) c.replay-one.new.told) (take (length calls2) c.replay-two.new.told)
          (g.B.Shown.means c.replay-one.result.book) (g.C.Shown.means c.replay-two.result.book)
          c.replay-one.result.count c.replay-two.result.count c.replay-one.result.over c.replay-two.result.over
          c.replay-one.new.list c.replay-two.new.list c.replay-one.ensures.stands c.replay-two.ensures.stands;
    }
