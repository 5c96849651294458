use Rattle.covers.proofs.Calls.{opened_by}
use Rattle.covers.proofs.listing.cover.Goals as goal

pub returns-clause-plans : goal.returns-clause-plans
returns-clause-plans c = opened_by c.args.width c.args.rows.now _ c.in_ok-check.ensures
