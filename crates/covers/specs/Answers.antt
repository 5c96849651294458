-- What the cover call answers and leaves in the list, and the refusal table's lines for it.
use Rattle.std.specs.Prelude.{ℕ, ◌+◌, ◌-◌, ◌^◌, cond, ◌&&◌, List, [], ◌∷◌, ◌++◌, length, replicate, Some, None, Option, nat_le, nat_lt}
use Rattle.covers.specs.declared.faults.CoverFault.TheVariants.{Row, Width}
use Rattle.covers.specs.declared.faults.CoverFault.{CoverFault}
use Rattle.refusals.specs.declared.Origin.TheVariants.{Cover}
use Rattle.refusals.specs.declared.Place.TheVariants.{At}
use Rattle.refusals.specs.declared.Refusal.{Refusal}

-- 1: the width is not 1 to 24; 18: a row has a test above the width, the place being the first such row, from 0
abbrev pub cover_line : CoverFault → Refusal
cover_line Width = record { number = 1; origin = Cover; place = At 0 }
cover_line (Row k) = record { number = 18; origin = Cover; place = At k }

-- the first row with a test above the width, where the rows are counted from k
unfoldable pub wide_row : ℕ → ℕ → List ℕ → Option CoverFault
wide_row width k [] = None
wide_row width k (row ∷ rows) = cond (nat_lt row (2 ^ width)) (wide_row width (k + 1) rows) (Some (Row k))

-- the fault of a width and rows, in the table's order, or none
unfoldable pub cover_fault : ℕ → List ℕ → Option CoverFault
cover_fault width rows = cond (nat_le 1 width && nat_le width 24) (wide_row width 0 rows) (Some Width)

-- 1 where there are more plans than places, else 0
unfoldable pub over : ℕ → List ℕ → ℕ
over places plans = cond (nat_le (length plans) places) 0 1

-- the two numbers of an answer: how many plans, and over
abbrev pub told : ℕ → List ℕ → ℕ × ℕ
told places plans = (length plans, over places plans)

-- the plans and zeros after them, or, where they are more than the places, zeros alone
unfoldable pub listed : ℕ → List ℕ → List ℕ
listed places plans = cond (nat_le (length plans) places) (plans ++ replicate (places - length plans) 0) (replicate places 0)
