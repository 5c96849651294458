use Rattle.bench.proofs.Singles.{single_held, singled}
use Rattle.bench.proofs.single.plans_for.Goals as goal
use Rattle.bench.specs.Single.{plans_for}
use Rattle.covers.specs.Answers.{listed, told}
use Rattle.std.proofs.Common.{length, refl}

pub returns-clause-plans : goal.returns-clause-plans
returns-clause-plans g c none =
    let kind = g.B.Reading.Reading.kind in
    let m = g.B.Shown.means c.args.book.now in
    let places = length c.args.list.now in
    singled kind m (g.met.B.Shown.sound c.args.book.now) c.args.tag places (told places (plans_for kind m c.args.tag))
    (listed places (plans_for kind m c.args.tag)) refl refl (single_held kind m c.args.tag (length c.args.work.now) none)
