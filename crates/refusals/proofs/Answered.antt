-- What an answer says of the fault behind it.
use Rattle.refusals.specs.Faults.{answered}
use Rattle.std.proofs.Common.{◌≡◌, Some, None, Ok, Err, Option, refl}

-- an accepted call found no fault, and answers what it should
pub answered_ok : {X E : Type 0} (o : Option E) (x y : X) → Ok x ≡ answered o y → (o ≡ None) × (x ≡ y)
answered_ok None x y e = (refl, cc)
answered_ok (Some fault) x y e = (cc, cc)

-- a refused call found the fault that it tells
pub answered_err : {X E : Type 0} (o : Option E) (fault : E) (y : X) → Err fault ≡ answered o y → o ≡ Some fault
answered_err None fault y e = cc
answered_err (Some found) fault y e = cc
