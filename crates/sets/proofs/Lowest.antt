-- The lowest test of a set above a width, as the number of zeros below it tells.
use Rattle.std.proofs.Common.{subst, ◌==◌, cond, Some, None, Option, ◌≡◌, ℕ, zero, suc, ◌+◌, ◌-◌, ◌/◌, ◌%◌, ◌^◌, ◌<◌, ◌≤◌, Bool, true, false, ◌≢◌, sym, refl, ap, ◌∙◌, pow-suc, arith}
use Rattle.sets.proofs.Bits.{bit_suc, bit_zero}
use Rattle.sets.proofs.Places.{has_not}
use Rattle.sets.specs.Sets.{Has, LowestAbove, bit, first_above}
use Rattle.std.proofs.lemmas.Nat.{shr_below, shr_le, shr-shr}
use Rattle.std.proofs.Math.Pow.{pow_mono}
use Rattle.std.specs.Option.{SomeIff, unwrap_or}
use Rattle.std.proofs.lemmas.Bool.{eqb-false, eqb-true}
use lib.Count.{count_trailing_zeros, under}

trailing_has : (k n : ℕ) → n < 2 ^ k → n ≢ 0 → Has (count_trailing_zeros k n) n
unfolding count_trailing_zeros
trailing_has zero n l ne = absurd (ne (omega arith))
trailing_has (suc k) n l ne = go (n % 2) refl (trailing_has k (n / 2))
  where
    go : (d : ℕ) → n % 2 ≡ d → (n / 2 < 2 ^ k → n / 2 ≢ 0 → Has (count_trailing_zeros k (n / 2)) (n / 2)) → Has (under d (count_trailing_zeros k (n / 2))) n
    go zero e above =
        let half : n / 2 < 2 ^ k = omega (arith, pow-suc 2 k) in
        bit_suc (count_trailing_zeros k (n / 2)) n ∙ above half (λ z. ne (omega arith))
    go (suc d) e above = omega arith

trailing_low : (k n j : ℕ) → j < count_trailing_zeros k n → bit j n ≡ 0
unfolding count_trailing_zeros
trailing_low zero n j l = absurd (omega arith)
trailing_low (suc k) n j l = go (n % 2) refl j l (trailing_low k (n / 2))
  where
    go : (d : ℕ) → n % 2 ≡ d → (i : ℕ) → i < under d (count_trailing_zeros k (n / 2))
        → ((h : ℕ) → h < count_trailing_zeros k (n / 2) → bit h (n / 2) ≡ 0) → bit i n ≡ 0
    go zero e zero h above = omega arith
    go zero e (suc i) h above = bit_suc i n ∙ above i (omega arith)
    go (suc d) e i h above = absurd (omega arith)

-- the digits above the width, counted from the width
bit_above : (width tests i : ℕ) → bit i (tests / 2 ^ width) ≡ bit (width + i) tests
bit_above width tests i = ap (λ (n : ℕ). n % 2) (shr-shr tests width i)

module _ (width s : ℕ) (small : s < 2 ^ 32) where
  pub none_above : s / 2 ^ width ≡ 0 → LowestAbove s width None
  none_above z test l h =
      let e : width + (test - 1 - width) ≡ test - 1 = omega arith in
      let none = ap (bit (test - 1 - width)) z ∙ bit_zero (test - 1 - width) in
      has_not (test - 1) s h (ap (λ (j : ℕ). bit j s) (sym e) ∙ sym (bit_above width s (test - 1 - width)) ∙ none)

  is_there : s / 2 ^ width ≢ 0 → Has (width + 1 + count_trailing_zeros 32 (s / 2 ^ width) - 1) s
  is_there ne =
      let t = count_trailing_zeros 32 (s / 2 ^ width) in
      let e : width + 1 + t - 1 ≡ width + t = omega arith in
      let l : s / 2 ^ width < 2 ^ 32 = omega (arith, shr_le s width) in
      ap (λ (j : ℕ). bit j s) e ∙ sym (bit_above width s t) ∙ trailing_has 32 (s / 2 ^ width) l ne

  none_lower : (lower : ℕ) → width < lower → lower < width + 1 + count_trailing_zeros 32 (s / 2 ^ width) → Has (lower - 1) s → ⊥
  none_lower lower above below h =
      let e : width + (lower - 1 - width) ≡ lower - 1 = omega arith in
      let l : lower - 1 - width < count_trailing_zeros 32 (s / 2 ^ width) = omega arith in
      let none = trailing_low 32 (s / 2 ^ width) (lower - 1 - width) l in
      has_not (lower - 1) s h (ap (λ (j : ℕ). bit j s) (sym e) ∙ sym (bit_above width s (lower - 1 - width)) ∙ none)

  pub first_told : LowestAbove s width (first_above s width)
  first_told = go (s / 2 ^ width == 0) refl
    where
      go : (b : Bool) → (s / 2 ^ width == 0) ≡ b
          → LowestAbove s width (cond b None (Some (width + 1 + count_trailing_zeros 32 (s / 2 ^ width))))
      go true e = none_above (eqb-true (s / 2 ^ width) 0 e)
      go false e = (omega arith, is_there (eqb-false (s / 2 ^ width) 0 e), none_lower)

-- what is left of a set above a width, however wide
pub above_is : (s width : ℕ) (o : Option ℕ) → s < 2 ^ 32 → SomeIff o (width < 32) (s / 2 ^ width) → unwrap_or o 0 ≡ s / 2 ^ width
above_is s width (Some x) small h = h.1
above_is s width None small h =
    let far : 32 ≤ width = omega arith in
    let wide : 2 ^ 32 ≤ 2 ^ width = pow_mono {i = 32} {j = width} far in
    let same : width ≡ 0 + width = omega arith in
    let below : s < 2 ^ width = omega (arith, wide) in
    let gone = shr_below s 0 width (subst (λ (k : ℕ). s < 2 ^ k) same below) in
    omega (arith, gone)
