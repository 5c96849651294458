-- What a line is refused for, in rising order of the refusals' numbers, and what a call then answers and leaves.
use Rattle.std.specs.Prelude.{ℕ, cond, List, [], ◌∷◌, ◌++◌, length, drop, Some, None, Ok, Err, Option, Result, nat_lt}
use Rattle.refusals.specs.Faults.{or_else}
use Rattle.refusals.specs.declared.Origin.TheVariants.{Text}
use Rattle.refusals.specs.declared.Place.TheVariants.{At}
use Rattle.refusals.specs.declared.Refusal.{Refusal}
use Rattle.text.specs.Sets.{tests_from}
use Rattle.text.specs.declared.faults.TextFault.TheVariants.{Outside, Room}
use Rattle.text.specs.declared.faults.TextFault.{TextFault}

-- 8: a plan with tests above 24, named by the lowest of them; 16: a buffer in which not every line fits
abbrev pub text_line : TextFault → Refusal
text_line (Outside j) = record { number = 8; origin = Text; place = At j }
text_line Room = record { number = 16; origin = Text; place = At 0 }

-- the lowest of the tests that are too high
abbrev pub lowest_outside : List ℕ → Option TextFault
lowest_outside [] = None
lowest_outside (j ∷ js) = Some (Outside j)

-- a plan's tests are 1 to 24; a 32-bit set can also have the eight from 25 on
abbrev pub test_fault : ℕ → Option TextFault
test_fault s = lowest_outside (tests_from 25 8 s)

-- a buffer has 64 bytes or more
abbrev pub room_fault : ℕ → Option TextFault
room_fault size = cond (nat_lt size 64) (Some Room) None

-- the test's number is the lower one, so it is looked at first
abbrev pub plan_fault : ℕ → ℕ → Option TextFault
plan_fault s size = or_else (test_fault s) (room_fault size)

-- a line at the start of a buffer, with the bytes after it as they were
abbrev pub laid : List ℕ → List ℕ → List ℕ
laid line bytes = line ++ drop (length line) bytes

-- the buffer after the call: a refused line changes nothing
abbrev pub written : Result ℕ TextFault → List ℕ → List ℕ → List ℕ
written (Ok n) line bytes = laid line bytes
written (Err fault) line bytes = bytes
