-- What a plan line tells of its set, in the words of sets.
use Rattle.std.specs.Prelude.{ℕ, ◌<◌, ◌≤◌, List, Ok, Err, Result}
use Rattle.sets.specs.Lists.{In, Rising}
use Rattle.text.specs.Sets.{Has, tests_from}
use Rattle.text.specs.declared.faults.TextFault.TheVariants.{Outside, Room}
use Rattle.text.specs.declared.faults.TextFault.{TextFault}

-- the list has the tests of the set, each once, the lowest first
pub record Lists (js : List ℕ) (s : ℕ) : Type 0 where
  pub rising : Rising js
  pub listed : (j : ℕ) → In js j → (1 ≤ j) × Has j s
  pub whole : (j : ℕ) → 1 ≤ j → Has j s → In js j

-- the set has no test above 24
abbrev pub Plain : ℕ → Type 0
Plain s = (j : ℕ) → 24 < j → Has j s → ⊥

-- j is the lowest test above 24
pub record Lowest (j s : ℕ) : Type 0 where
  pub outside : 24 < j
  pub has : Has j s
  pub lowest : (k : ℕ) → 24 < k → Has k s → j ≤ k

-- what a refusal says of the set: the test that it names is the lowest above 24, or there is none
abbrev pub Refuses : ℕ → TextFault → Type 0
Refuses s (Outside j) = Lowest j s
Refuses s Room = Plain s

-- a written line lists the tests of the set
abbrev pub Tells : ℕ → Result ℕ TextFault → Type 0
Tells s (Ok n) = Lists (tests_from 1 24 s) s
Tells s (Err fault) = Refuses s fault

-- for the code, which checks first: a check that passes finds no test above 24
abbrev pub Passes : ℕ → Result (Unit {0}) TextFault → Type 0
Passes s (Ok u) = Plain s
Passes s (Err fault) = Refuses s fault
