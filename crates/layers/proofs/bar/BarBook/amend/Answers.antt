use Rattle.layers.proofs.Handed.{bar_handed}
use Rattle.layers.proofs.bar.BarBook.amend.Goals as goal
use Rattle.std.proofs.Common.{refl}

pub returns : goal.returns
returns g c = bar_handed _ _ _ _ _ _ _ g.met.B.Reading.Reading.lawful refl c.in_ok-check_amend.ensures c.amend.ensures
