-- Sets of tests. A set is a number: the test at place j, counted from 0, counts 2 ^ j. The user's test 1 is at place 0.
use Rattle.std.specs.Prelude.{◌≡◌, ℕ, ◌+◌, ◌-◌, ◌/◌, ◌%◌, ◌^◌, ◌<◌, Bool, cond, not, ◌&&◌, Some, None, Option, ◌≢◌, ◌==◌, bit_and, count_ones, nat_le}
use Rattle.std.specs.Int.Count.{count_trailing_zeros}

-- the digit of s at place j
abbrev pub bit : ℕ → ℕ → ℕ
bit j s = s / 2 ^ j % 2

-- s has the test at place j
abbrev pub Has : ℕ → ℕ → Type 0
Has j s = bit j s ≡ 1

-- every test of t is in s: t is a subset of s
abbrev pub Within : ℕ → ℕ → Type 0
Within t s = (j : ℕ) → Has j t → Has j s

-- a subset that is not the whole
abbrev pub Proper : ℕ → ℕ → Type 0
Proper t s = Within t s × (t ≢ s)

-- s and t have a test in common
abbrev pub Shares : ℕ → ℕ → Type 0
Shares s t = (j : ℕ) × Has j s × Has j t

-- the same by computing
abbrev pub meets : ℕ → ℕ → Bool
meets s t = not (bit_and s t == 0)

-- x where it is a single test, else the empty set
abbrev pub alone : ℕ → ℕ
alone x = cond (count_ones x == 1) x 0

-- a set of 32 tests has this one, by its number from 1
abbrev pub has_test : ℕ → ℕ → Bool
has_test s test = (nat_le 1 test && nat_le test 32) && bit (test - 1) s == 1

-- the lowest test of a set above a width, by its number from 1
abbrev pub first_above : ℕ → ℕ → Option ℕ
first_above s width = cond (s / 2 ^ width == 0) None (Some (width + 1 + count_trailing_zeros 32 (s / 2 ^ width)))

-- none: the set has no test above the width; else it has this one, and no lower one that is above the width
abbrev pub LowestAbove : ℕ → ℕ → Option ℕ → Type 0
LowestAbove s width None = (test : ℕ) → width < test → Has (test - 1) s → ⊥
LowestAbove s width (Some test) =
    (width < test) × Has (test - 1) s × ((lower : ℕ) → width < lower → lower < test → Has (lower - 1) s → ⊥)
