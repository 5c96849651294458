-- The refusal table's lines for the checks of the layers: number, origin, place.
use Rattle.layers.specs.declared.faults.AssemblyFault.TheVariants.{Wrong}
use Rattle.layers.specs.declared.faults.AssemblyFault.{AssemblyFault}
use Rattle.layers.specs.declared.faults.BarFault.TheVariants.{Outside}
use Rattle.layers.specs.declared.faults.BarFault.{BarFault}
use Rattle.refusals.specs.declared.Origin.TheVariants.{Assembly, Bar}
use Rattle.refusals.specs.declared.Place.TheVariants.{At}
use Rattle.refusals.specs.declared.Refusal.{Refusal}

-- 8: a test outside the width of the book below
abbrev pub bar_line : BarFault → Refusal
bar_line (Outside test) = record { number = 8; origin = Bar; place = At test }

-- 15: a part whose entry is wrong
abbrev pub assembly_line : AssemblyFault → Refusal
assembly_line (Wrong part) = record { number = 15; origin = Assembly; place = At part }
