use Rattle.slot_book.proofs.Lowest.{lowest_is}
use Rattle.slot_book.proofs.slots.lowest_tag.Goals as goal
use Rattle.std.proofs.Common.{rules}
use Rattle.std.proofs.iter.runs.Made.{chains}

pub returns : goal.returns
returns c = lowest_is c.args.above c.args.slots.now c.min.result (search (rules, chains))
