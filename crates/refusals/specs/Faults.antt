-- What a call answers that may find a fault.
use Rattle.std.specs.Prelude.{Bool, true, false, Some, None, Ok, Err, Option, Result}

-- a fault, where the test holds
abbrev pub when : {E : Type 0} → Bool → E → Option E
when true fault = Some fault
when false fault = None

-- the first of two faults that is there
abbrev pub or_else : {E : Type 0} → Option E → Option E → Option E
or_else (Some fault) other = Some fault
or_else None other = other

-- a call that finds a fault refuses with it, and one that finds none answers
abbrev pub answered : {X E : Type 0} → Option E → X → Result X E
answered (Some fault) x = Err fault
answered None x = Ok x

-- what a check answers
abbrev pub passed : {E : Type 0} → Option E → Result (Unit {0}) E
passed fault = answered fault tt

-- what memory then is: as it was where there is a fault, else what the call makes of it
abbrev pub leaves : {M E : Type 0} → Option E → M → M → M
leaves (Some fault) before after = before
leaves None before after = after
