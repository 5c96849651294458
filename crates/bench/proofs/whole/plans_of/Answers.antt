use Rattle.bench.proofs.Known.{all_plans}
use Rattle.bench.proofs.Shelving.{listing}
use Rattle.bench.proofs.whole.plans_of.Goals as goal
use Rattle.matrix.proofs.Matrices.{matrix_is}
use Rattle.matrix.specs.Apart.{Different}
use Rattle.matrix.specs.Rows.{matrix_of}
use Rattle.std.proofs.Common.{length}

pub returns-in_err-check_work-clause-plans : goal.returns-in_err-check_work-clause-plans
returns-in_err-check_work-clause-plans g c =
    let m = g.B.Shown.means c.args.book.now in
    let kind = g.B.Reading.Reading.kind in
    listing kind (Different m.held) (matrix_of kind m.held) m.width
    (all_plans kind m (g.met.B.Shown.sound c.args.book.now)) (matrix_is kind g.met.B.Reading.Reading.lawful m.held) (length c.args.list.now)

pub returns-clause-plans : goal.returns-clause-plans
returns-clause-plans g c =
    let m = g.B.Shown.means c.args.book.now in
    let kind = g.B.Reading.Reading.kind in
    listing kind (Different m.held) (matrix_of kind m.held) m.width
    (all_plans kind m (g.met.B.Shown.sound c.args.book.now)) (matrix_is kind g.met.B.Reading.Reading.lawful m.held) (length c.args.list.now)
