use Rattle.layers.proofs.Handed.{assembly_handed}
use Rattle.layers.proofs.assembly.AssemblyBook.enter.Goals as goal
use Rattle.std.proofs.Common.{refl}

pub returns : goal.returns
returns g c = assembly_handed _ _ _ _ _ _ _ refl c.in_ok-check_enter.ensures c.enter.ensures
