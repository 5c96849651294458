-- The digits of a set: of a half, an intersection, a union; sets with the same digits are the same.
use Rattle.std.proofs.Common.{◌≡◌, ℕ, zero, suc, ◌/◌, ◌%◌, ◌^◌, ◌<◌, min, max, ◌≢◌, ◌⊎◌, sym, refl, ap, ◌∙◌, inl, inr, one-add, arith, shr-shr}
use Rattle.sets.specs.Sets.{bit, Has, Within}
use lib.Arith.{bin_ind}
use lib.Bits.{bit_and, bit_or, and_shr, and_step, or_shr, or_step}
use native.Mathlib.Nat.{zero-div}

pub bit_zero : (j : ℕ) → bit j 0 ≡ 0
bit_zero j = ap (λ (x : ℕ). x % 2) (zero-div (2 ^ j))

pub bit_suc : (j s : ℕ) → bit (suc j) s ≡ bit j (s / 2)
bit_suc j s = sym (ap (λ (x : ℕ). x % 2) (shr-shr s 1 j ∙ ap (λ (k : ℕ). s / 2 ^ k) (one-add j)))

pub bit_cases : (j s : ℕ) → Has j s ⊎ (bit j s ≡ 0)
bit_cases j s = go (bit j s) (omega arith)
  where
    go : (b : ℕ) → b < 2 → (b ≡ 1) ⊎ (b ≡ 0)
    go zero h = inr refl
    go (suc b) h = inl (omega arith)

and_digit : (a b : ℕ) → bit_and a b % 2 ≡ min (a % 2) (b % 2)
and_digit a b = omega (arith, and_step a b)

or_digit : (a b : ℕ) → bit_or a b % 2 ≡ max (a % 2) (b % 2)
or_digit a b = omega (arith, or_step a b)

pub bit_of_and : (j a b : ℕ) → bit j (bit_and a b) ≡ min (bit j a) (bit j b)
bit_of_and j a b = ap (λ (x : ℕ). x % 2) (and_shr a b j) ∙ and_digit (a / 2 ^ j) (b / 2 ^ j)

pub bit_of_or : (j a b : ℕ) → bit j (bit_or a b) ≡ max (bit j a) (bit j b)
bit_of_or j a b = ap (λ (x : ℕ). x % 2) (or_shr a b j) ∙ or_digit (a / 2 ^ j) (b / 2 ^ j)

all_zero : (s : ℕ) → ((j : ℕ) → bit j s ≡ 0) → s ≡ 0
all_zero = bin_ind (λ s. ((j : ℕ) → bit j s ≡ 0) → s ≡ 0) (λ h. refl)
    (λ s ih h. let low : s / 2 ≡ 0 = ih (λ j. sym (bit_suc j s) ∙ h (suc j)) in omega (arith, h 0))

pub bit_ext : (a b : ℕ) → ((j : ℕ) → bit j a ≡ bit j b) → a ≡ b
bit_ext = bin_ind (λ a. (b : ℕ) → ((j : ℕ) → bit j a ≡ bit j b) → a ≡ b)
    (λ b h. sym (all_zero b (λ j. sym (h j) ∙ bit_zero j)))
    (λ a ih b h.
    let low : a / 2 ≡ b / 2 = ih (b / 2) (λ j. sym (bit_suc j a) ∙ h (suc j) ∙ bit_suc j b) in
    omega (arith, h 0))

-- a set with a test has one that can be named
pub some_bit : (s : ℕ) → s ≢ 0 → (j : ℕ) × Has j s
some_bit = bin_ind (λ s. s ≢ 0 → (j : ℕ) × Has j s) (λ h. absurd (h refl)) step
  where
    step : (s : ℕ) → (s / 2 ≢ 0 → (j : ℕ) × Has j (s / 2)) → s ≢ 0 → (j : ℕ) × Has j s
    step s ih h = go (s % 2) refl
      where
        go : (b : ℕ) → s % 2 ≡ b → (j : ℕ) × Has j s
        go zero e = let p = ih (λ z. h (omega arith)) in (suc p.0, bit_suc p.0 s ∙ p.1)
        go (suc b) e = (0, omega arith)

pub within_same : (s t : ℕ) → Within s t → Within t s → s ≡ t
within_same s t p q = bit_ext s t (λ j. same j (bit_cases j s) (bit_cases j t))
  where
    same : (j : ℕ) → Has j s ⊎ (bit j s ≡ 0) → Has j t ⊎ (bit j t ≡ 0) → bit j s ≡ bit j t
    same j (inl a) (inl b) = a ∙ sym b
    same j (inl a) (inr b) = a ∙ sym (p j a)
    same j (inr a) (inl b) = q j b ∙ sym b
    same j (inr a) (inr b) = a ∙ sym b
