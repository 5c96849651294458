-- The bar: a layer that closes a set of tests. A test j, from 1, counts 2 ^ (j - 1) in the set.
use Rattle.std.specs.Prelude.{◌≡◌, ℕ, suc, ◌-◌, ◌/◌, ◌^◌, ◌<◌, ◌≤◌, Bool, cond, ◌&&◌, ◌||◌, List, [], ◌∷◌, map, Ok, Err, Option, Result, ◌==◌}
use Rattle.books.specs.Meanings.{Meaning, Rec, is_test}
use Rattle.layers.specs.declared.faults.BarFault.TheVariants.{Outside}
use Rattle.layers.specs.declared.faults.BarFault.{BarFault}
use Rattle.readings.specs.Kinds.{Kind}
use Rattle.sets.specs.Sets.{Has, bit, first_above}
use Rattle.std.specs.Option.{option_map}

-- the set holds no test above the width
abbrev pub in_width : ℕ → ℕ → Bool
in_width width tests = tests / 2 ^ width == 0

-- 8: the lowest test of the set above the width
abbrev pub bar_fault : ℕ → ℕ → Option BarFault
bar_fault width tests = option_map Outside (first_above tests width)

-- what the check tells. Passed: every test of the set is within the width. Refused: the named test is of the set and outside the
-- width, and the set has no lower one outside
abbrev pub BarTold : ℕ → ℕ → Result (Unit {0}) BarFault → Type 0
BarTold width tests (Ok u) = (test : ℕ) → 1 ≤ test → Has (test - 1) tests → test ≤ width
BarTold width tests (Err (Outside test)) =
    (width < test) × Has (test - 1) tests × ((lower : ℕ) → width < lower → lower < test → Has (lower - 1) tests → ⊥)

-- the set a bar is made with: as given where the check passes it, else the empty set
abbrev pub admitted : ℕ → ℕ → ℕ
admitted width tests = cond (in_width width tests) tests 0

-- a test of the width that the set has
abbrev pub barred : ℕ → ℕ → ℕ → Bool
barred width tests test = is_test width test && bit (test - 1) tests == 1

-- a reading as it is shown at a test: the blank where the test is shut
abbrev pub covered : {R : Type 0} → Kind R → (ℕ → Bool) → ℕ → R → R
covered kind shut test x = cond (shut test) kind.blank x

-- readings from this test on, with the blank at every shut test
unfoldable pub blanked : {R : Type 0} → Kind R → (ℕ → Bool) → ℕ → List R → List R
blanked kind shut test [] = []
blanked kind shut test (x ∷ xs) = covered kind shut test x ∷ blanked kind shut (suc test) xs

-- a record as a bar shows it
abbrev pub under_bar : {R : Type 0} → Kind R → (ℕ → Bool) → Rec R → Rec R
under_bar kind shut x = record { tag = x.tag; part = x.part; readings = blanked kind shut 1 x.readings }

-- what a bar means, from what the book below means
abbrev pub bar_means : {R : Type 0} → Kind R → ℕ → Meaning R → Meaning R
bar_means kind tests m = record {
  width = m.width;
  capacity = m.capacity;
  closed_test = λ test. barred m.width tests test || m.closed_test test;
  closed_part = m.closed_part;
  held = map (under_bar kind (barred m.width tests)) m.held;
}

-- a bar of one set over a bar of another means what one bar of a third set means
abbrev pub TwoAsOne : {R : Type 0} → Kind R → ℕ → ℕ → ℕ → Meaning R → Type 0
TwoAsOne kind lower upper both m = bar_means kind both m ≡ bar_means kind upper (bar_means kind lower m)
