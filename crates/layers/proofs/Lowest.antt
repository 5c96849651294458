-- What the lowest test above a width tells of a bar, and a bar's tests as those of a set.
use Rattle.std.proofs.Common.{◌≡◌, ℕ, ◌+◌, ◌-◌, ◌^◌, ◌<◌, ◌≤◌, Bool, true, false, ◌&&◌, ◌⊎◌, Some, None, Option, inl, inr, eqb, leb, refl, ap, subst, sym, arith}
use Rattle.layers.specs.Bars.{BarTold, bar_fault, barred}
use Rattle.layers.specs.declared.faults.BarFault.TheVariants.{Outside}
use Rattle.refusals.specs.Faults.{passed}
use Rattle.sets.specs.Sets.{Has, LowestAbove, bit, first_above, has_test}
use Rattle.std.proofs.Math.Pow.{pow_mono}
use Rattle.std.proofs.lemmas.Bool.{cases_lt, false≢true, le-leb, leb-false}
use Rattle.std.proofs.lemmas.Nat.{shr_below}
use Rattle.std.specs.Option.{option_map}

-- no test is above the width, or the named one is the lowest
pub bar_told : (w width tests : ℕ) → w ≡ width → LowestAbove tests w (first_above tests w) → BarTold width tests (passed (bar_fault width tests))
bar_told w width tests e h = go (first_above tests width) (subst (λ (n : ℕ). LowestAbove tests n (first_above tests n)) e h)
  where
    within : LowestAbove tests width None → (test : ℕ) → Has (test - 1) tests → (width < test) ⊎ (test ≤ width) → test ≤ width
    within none test has (inl l) = absurd (none test l has)
    within none test has (inr l) = l

    go : (o : Option ℕ) → LowestAbove tests width o → BarTold width tests (passed (option_map Outside o))
    go None none = λ test first has. within none test has (cases_lt width test)
    go (Some found) lowest = lowest

-- a set of 32 tests has none above 32
none_past : (tests test : ℕ) → tests < 2 ^ 32 → 32 < test → eqb (bit (test - 1) tests) 1 ≡ false
none_past tests test small far =
    let past : 32 ≤ test - 1 = omega arith in
    let wide : 2 ^ 32 ≤ 2 ^ (test - 1) = pow_mono {i = 32} {j = test - 1} past in
    let same : test - 1 ≡ 0 + (test - 1) = omega arith in
    let below : tests < 2 ^ (test - 1) = omega (arith, wide) in
    let gone = shr_below tests 0 (test - 1) (subst (λ (k : ℕ). tests < 2 ^ k) same below) in
    let none : bit (test - 1) tests ≡ 0 = omega (arith, gone) in
    ap (λ (n : ℕ). eqb n 1) none

-- a test within the width that the set has
pub barred_is : (width tests test : ℕ) → test ≤ width → tests < 2 ^ 32 → has_test tests test ≡ barred width tests test
barred_is width tests test l small =
    go (leb test width) (leb 1 test) (leb test 32) (eqb (bit (test - 1) tests) 1) (le-leb test width l)
    (λ e. none_past tests test small (leb-false test 32 e))
  where
    go : (a b c d : Bool) → a ≡ true → (c ≡ false → d ≡ false) → ((b && c) && d) ≡ ((b && a) && d)
    go true true true d e h = refl
    go true true false true e h = sym (h refl)
    go true true false false e h = refl
    go true false c d e h = refl
    go false b c d e h = absurd (false≢true e)
