-- The tests of a set by their numbers, from 1: test j is at place j - 1.
use Rattle.std.specs.Prelude.{ℕ, zero, suc, ◌+◌, ◌-◌, Bool, cond, List, [], ◌∷◌, ◌==◌}
use Rattle.sets.specs.Sets.{bit, Has as At-place}

-- test j is in the set s
abbrev pub Has : ℕ → ℕ → Type 0
Has j s = At-place (j - 1) s

-- the same as a test that computes
abbrev pub is_in : ℕ → ℕ → Bool
is_in j s = bit (j - 1) s == 1

-- those of the n tests from first on that are in the set s, the lowest first
unfoldable pub tests_from : ℕ → ℕ → ℕ → List ℕ
tests_from first zero s = []
tests_from first (suc n) s =
    cond (is_in first s) (first ∷ tests_from (first + 1) n s) (tests_from (first + 1) n s)
