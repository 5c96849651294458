use Rattle.slot_book.proofs.Opening.{none_gathered}
use Rattle.slot_book.proofs.memory.opened.open.Goals as goal
use Rattle.std.proofs.Common.{arith}

pub returns-then-is_err : goal.returns-then-is_err
returns-then-is_err g c = grind (arith, none_gathered)
