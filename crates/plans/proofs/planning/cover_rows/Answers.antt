-- The cover call refuses no rows without a test past a fair width.
use Rattle.plans.proofs.planning.cover_rows.Goals as goal
use Rattle.covers.proofs.Calls.{cover_answers}

pub unwrap-requires : goal.unwrap-requires
unwrap-requires c = cover_answers c.args.width c.args.rows.now c.cover.result c.requires.0 c.requires.1 c.cover.ensures.plans
