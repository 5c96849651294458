-- The lowest number at which something is found, as a loop from 0 up finds it.
use Rattle.std.specs.Prelude.{ℕ, zero, suc, None, Option}
use Rattle.refusals.specs.Faults.{or_else}

-- what f gives at the lowest number below n at which it gives anything
unfoldable pub lowest : {A : Type 0} → (ℕ → Option A) → ℕ → Option A
lowest f zero = None
lowest f (suc n) = or_else (lowest f n) (f n)
