-- Plans: the minimal covers of a matrix, which the field calls reducts. A row is the set of tests that tell two records apart.
use Rattle.std.specs.Prelude.{ℕ, ◌^◌, Bool, true, ◌&&◌, List, [], ◌∷◌, filter, ◌==◌, bit_and, bit_or}
use Rattle.sets.specs.Sets.{Proper, Shares, alone, meets}
use Rattle.std.specs.List.{range_with_len, AllByRecursion as Every}

-- s has a test in common with every row
abbrev pub Covers : List ℕ → ℕ → Type 0
Covers rows s = Every (λ row. Shares row s) rows

-- a cover none of whose proper subsets covers
abbrev pub Plan : List ℕ → ℕ → Type 0
Plan rows s = Covers rows s × ((t : ℕ) → Proper t s → Covers rows t → ⊥)

-- the same by computing: does s have a test in common with every row
unfoldable pub covers : List ℕ → ℕ → Bool
covers [] s = true
covers (row ∷ rows) s = meets row s && covers rows s

-- the tests of s that have a row of their own: one that no other test of s covers
unfoldable pub owned : List ℕ → ℕ → ℕ
owned [] s = 0
owned (row ∷ rows) s = bit_or (alone (bit_and row s)) (owned rows s)

-- does s cover, and does each of its tests have a row of its own
unfoldable pub is_plan : List ℕ → ℕ → Bool
is_plan rows s = covers rows s && owned rows s == s

-- the plans among lo, lo + 1, .. , lo + n - 1, rising
unfoldable pub plans_in : List ℕ → ℕ → ℕ → List ℕ
plans_in rows lo n = filter (is_plan rows) (range_with_len lo n)

-- all plans of a matrix whose tests are within the width, rising
unfoldable pub plans_of : List ℕ → ℕ → List ℕ
plans_of rows width = plans_in rows 0 (2 ^ width)

-- the core: the tests that stand alone in some row
unfoldable pub core_of : List ℕ → ℕ
core_of [] = 0
core_of (row ∷ rows) = bit_or (alone row) (core_of rows)
