-- Sets by their tests: intersections, unions, single tests, a test struck out, complements, bounds.
use Rattle.std.proofs.Common.{◌≡◌, ℕ, zero, suc, ◌+◌, ◌-◌, ◌*◌, ◌/◌, ◌%◌, ◌^◌, ◌<◌, ◌≤◌, min, max, Bool, true, false, cond, not, eqb, ◌≢◌, ◌⊎◌, sym, refl, ap, ◌∙◌, subst, inl, inr, le_trans, pow-suc, arith, pow_mono}
use Rattle.sets.proofs.Bits.{bit_of_and, bit_cases, bit_of_or, bit_suc, bit_zero, some_bit}
use Rattle.sets.specs.Sets.{Has, Shares, Within, alone, bit, meets}
use Rattle.std.proofs.lemmas.Bool.{cases_Bool, eqb-true, eqb-false, eq-eqb, ne_eqb, not-true, cases_lt, cases_eq}
use lib.Arith.{bin_ind}
use lib.Bits.{bit_and, bit_or}
use lib.Count.{ones, ones_step}
use native.Mathlib.Nat.{div-eq_of_lt}

pub has_not : (j s : ℕ) → Has j s → bit j s ≡ 0 → ⊥
has_not j s h z = omega arith

-- ---- intersections and unions

pub and_parts : (j a b : ℕ) → Has j (bit_and a b) → Has j a × Has j b
and_parts j a b h = let e : min (bit j a) (bit j b) ≡ 1 = sym (bit_of_and j a b) ∙ h in (omega arith, omega arith)

pub and_has : (j a b : ℕ) → Has j a → Has j b → Has j (bit_and a b)
and_has j a b p q = let e : min (bit j a) (bit j b) ≡ 1 = omega arith in bit_of_and j a b ∙ e

pub or_has : (j a b : ℕ) → Has j a ⊎ Has j b → Has j (bit_or a b)
or_has j a b (inl p) = let e : max (bit j a) (bit j b) ≡ 1 = omega arith in bit_of_or j a b ∙ e
or_has j a b (inr p) = let e : max (bit j a) (bit j b) ≡ 1 = omega arith in bit_of_or j a b ∙ e

pub or_cases : (j a b : ℕ) → Has j (bit_or a b) → Has j a ⊎ Has j b
or_cases j a b h = go (bit_cases j a)
  where
    go : Has j a ⊎ (bit j a ≡ 0) → Has j a ⊎ Has j b
    go (inl p) = inl p
    go (inr z) = let e : max (bit j a) (bit j b) ≡ 1 = sym (bit_of_or j a b) ∙ h in inr (omega arith)

pub shares_meets : (s t : ℕ) → Shares s t → meets s t ≡ true
shares_meets s t (j, p, q) = ap not (ne_eqb (bit_and s t) 0 (λ z. has_not j (bit_and s t) (and_has j s t p q) (ap (bit j) z ∙ bit_zero j)))

pub meets_shares : (s t : ℕ) → meets s t ≡ true → Shares s t
meets_shares s t h =
    let p = some_bit (bit_and s t) (eqb-false (bit_and s t) 0 (not-true (eqb (bit_and s t) 0) h)) in
    let q = and_parts p.0 s t p.1 in
    (p.0, q.0, q.1)

-- ---- a set of one test

-- j is the one test of x
abbrev pub Lone : ℕ → ℕ → Type 0
Lone j x = Has j x × ((i : ℕ) → Has i x → i ≡ j)

ones_none : (x : ℕ) → ones x ≡ 0 → x ≡ 0
ones_none = bin_ind (λ x. ones x ≡ 0 → x ≡ 0) (λ h. refl)
    (λ x ih h. let s = ones_step x in let z : x / 2 ≡ 0 = ih (omega arith) in omega arith)

none_ones : (x : ℕ) → x ≡ 0 → ones x ≡ 0
unfolding ones
none_ones x e = ap ones e

-- no test but the first
first_only : (x : ℕ) → x / 2 ≡ 0 → (i : ℕ) → Has i x → i ≡ 0
first_only x z zero h = refl
first_only x z (suc i) h = absurd (has_not (suc i) x h (bit_suc i x ∙ ap (bit i) z ∙ bit_zero i))

pub ones_lone : (x : ℕ) → ones x ≡ 1 → (j : ℕ) × Lone j x
ones_lone = bin_ind (λ x. ones x ≡ 1 → (j : ℕ) × Lone j x) (λ h. absurd (zero_not h)) step
  where
    zero_not : ones 0 ≡ 1 → ⊥
    zero_not h = let z : ones 0 ≡ 0 = none_ones 0 refl in omega arith

    step : (x : ℕ) → (ones (x / 2) ≡ 1 → (j : ℕ) × Lone j (x / 2)) → ones x ≡ 1 → (j : ℕ) × Lone j x
    step x ih h = go (x % 2) refl
      where
        up : (j : ℕ) → x % 2 ≡ 0 → ((i : ℕ) → Has i (x / 2) → i ≡ j) → (i : ℕ) → Has i x → i ≡ suc j
        up j e f zero k = absurd (has_not 0 x k (omega arith))
        up j e f (suc i) k = ap suc (f i (sym (bit_suc i x) ∙ k))

        go : (b : ℕ) → x % 2 ≡ b → (j : ℕ) × Lone j x
        go zero e =
            let p = ih (omega (arith, ones_step x)) in
            (suc p.0, (bit_suc p.0 x ∙ p.1.0, up p.0 e p.1.1))
        go (suc b) e =
            let z : x / 2 ≡ 0 = ones_none (x / 2) (omega (arith, ones_step x)) in
            (0, (omega arith, first_only x z))

pub lone_ones : (x j : ℕ) → Lone j x → ones x ≡ 1
lone_ones = bin_ind (λ x. (j : ℕ) → Lone j x → ones x ≡ 1) (λ j h. absurd (has_not j 0 h.0 (bit_zero j))) step
  where
    step : (x : ℕ) → ((j : ℕ) → Lone j (x / 2) → ones (x / 2) ≡ 1) → (j : ℕ) → Lone j x → ones x ≡ 1
    step x ih zero h = let s = ones_step x in let b : x % 2 ≡ 1 = omega (arith, h.0) in omega (arith, none_ones (x / 2) z)
      where
        no_other : x / 2 ≢ 0 → ⊥
        no_other ne = let p = some_bit (x / 2) ne in let q = h.1 (suc p.0) (bit_suc p.0 x ∙ p.1) in omega arith

        z : x / 2 ≡ 0
        z = go (cases_Bool (eqb (x / 2) 0))
          where
            go : (eqb (x / 2) 0 ≡ true) ⊎ (eqb (x / 2) 0 ≡ false) → x / 2 ≡ 0
            go (inl e) = eqb-true (x / 2) 0 e
            go (inr e) = absurd (no_other (eqb-false (x / 2) 0 e))
    step x ih (suc j) h = let s = ones_step x in omega (arith, even (bit_cases 0 x), below)
      where
        even : Has 0 x ⊎ (bit 0 x ≡ 0) → x % 2 ≡ 0
        even (inl k) = let q = h.1 0 k in omega arith
        even (inr z) = omega arith

        below : ones (x / 2) ≡ 1
        below = ih j (sym (bit_suc j x) ∙ h.0, λ i k. let q = h.1 (suc i) (bit_suc i x ∙ k) in omega arith)

pub alone_lone : (j x : ℕ) → Has j (alone x) → Lone j x
alone_lone j x = go (eqb (ones x) 1) refl
  where
    go : (b : Bool) → eqb (ones x) 1 ≡ b → Has j (cond b x 0) → Lone j x
    go false e h = absurd (has_not j 0 h (bit_zero j))
    go true e h =
        let p = ones_lone x (eqb-true (ones x) 1 e) in
        let same : j ≡ p.0 = p.1.1 j h in
        subst (λ (k : ℕ). Lone k x) (sym same) p.1

pub lone_alone : (j x : ℕ) → Lone j x → alone x ≡ x
lone_alone j x h = ap (λ (b : Bool). cond b x 0) (eq-eqb (ones x) 1 (lone_ones x j h))

-- ---- a test struck out

unfoldable pub without : ℕ → ℕ → ℕ
without zero s = s / 2 * 2
without (suc j) s = without j (s / 2) * 2 + s % 2

without_same : (j s : ℕ) → bit j (without j s) ≡ 0
unfolding without
without_same zero s = omega arith
without_same (suc j) s =
    bit_suc j (without j (s / 2) * 2 + s % 2) ∙ ap (bit j) half ∙ without_same j (s / 2)
  where
    half : (without j (s / 2) * 2 + s % 2) / 2 ≡ without j (s / 2)
    half = omega arith

without_other : (i j s : ℕ) → i ≢ j → bit i (without j s) ≡ bit i s
unfolding without
without_other zero zero s ne = absurd (ne refl)
without_other (suc i) zero s ne = bit_suc i (s / 2 * 2) ∙ ap (bit i) half ∙ sym (bit_suc i s)
  where
    half : s / 2 * 2 / 2 ≡ s / 2
    half = omega arith
without_other zero (suc j) s ne = omega arith
without_other (suc i) (suc j) s ne =
    bit_suc i (without j (s / 2) * 2 + s % 2) ∙ ap (bit i) half ∙ without_other i j (s / 2) (λ e. ne (ap suc e)) ∙ sym (bit_suc i s)
  where
    half : (without j (s / 2) * 2 + s % 2) / 2 ≡ without j (s / 2)
    half = omega arith

pub without_has : (i j s : ℕ) → Has i s → i ≢ j → Has i (without j s)
without_has i j s h ne = without_other i j s ne ∙ h

pub without_lacks : (j s : ℕ) → Has j (without j s) → ⊥
without_lacks j s h = has_not j (without j s) h (without_same j s)

pub without_within : (j s : ℕ) → Within (without j s) s
without_within j s i h = go (cases_eq i j)
  where
    go : (i ≡ j) ⊎ (i ≢ j) → Has i s
    go (inl e) = absurd (without_lacks j s (subst (λ (k : ℕ). Has k (without j s)) e h))
    go (inr ne) = sym (without_other i j s ne) ∙ h

-- ---- the tests below place k that s lacks

unfoldable pub lacking : ℕ → ℕ → ℕ
lacking zero s = 0
lacking (suc k) s = lacking k (s / 2) * 2 + (1 - s % 2)

pub lacking_lacks : (i k s : ℕ) → Has i (lacking k s) → bit i s ≡ 0
unfolding lacking
lacking_lacks i zero s h = absurd (has_not i 0 h (bit_zero i))
lacking_lacks zero (suc k) s h = omega arith
lacking_lacks (suc i) (suc k) s h =
    bit_suc i s ∙ lacking_lacks i k (s / 2) (ap (bit i) (sym half) ∙ sym (bit_suc i (lacking k (s / 2) * 2 + (1 - s % 2))) ∙ h)
  where
    half : (lacking k (s / 2) * 2 + (1 - s % 2)) / 2 ≡ lacking k (s / 2)
    half = omega arith

pub lacking_has : (i k s : ℕ) → i < k → bit i s ≡ 0 → Has i (lacking k s)
unfolding lacking
lacking_has i zero s l z = absurd (omega_none l)
  where
    omega_none : i < 0 → ⊥
    omega_none h = omega arith
lacking_has zero (suc k) s l z = omega arith
lacking_has (suc i) (suc k) s l z =
    bit_suc i (lacking k (s / 2) * 2 + (1 - s % 2)) ∙ ap (bit i) half ∙ lacking_has i k (s / 2) (omega arith) (sym (bit_suc i s) ∙ z)
  where
    half : (lacking k (s / 2) * 2 + (1 - s % 2)) / 2 ≡ lacking k (s / 2)
    half = omega arith

-- ---- sizes

pub below_place : (s j k : ℕ) → s < 2 ^ k → Has j s → j < k
below_place s j k l h = go (cases_lt j k)
  where
    go : (j < k) ⊎ (k ≤ j) → j < k
    go (inl p) = p
    go (inr q) = absurd (has_not j s h (ap (λ (x : ℕ). x % 2) (div-eq_of_lt (le_trans l (pow_mono q)))))

pub place_below : (k s : ℕ) → ((j : ℕ) → Has j s → j < k) → s < 2 ^ k
place_below zero s h = go (cases_eq s 0)
  where
    go : (s ≡ 0) ⊎ (s ≢ 0) → s < 1
    go (inl e) = omega arith
    go (inr ne) = let p = some_bit s ne in let q = h p.0 p.1 in absurd (omega_none q)
      where
        omega_none : (some_bit s ne).0 < 0 → ⊥
        omega_none z = omega arith
place_below (suc k) s h =
    let half : s / 2 < 2 ^ k = place_below k (s / 2) (λ j p. let q = h (suc j) (bit_suc j s ∙ p) in omega arith) in
    let e = pow-suc 2 k in
    omega arith

pub within_le : (t s : ℕ) → Within t s → t ≤ s
within_le = bin_ind (λ t. (s : ℕ) → Within t s → t ≤ s) (λ s h. omega arith) step
  where
    step : (t : ℕ) → ((s : ℕ) → Within (t / 2) s → t / 2 ≤ s) → (s : ℕ) → Within t s → t ≤ s
    step t ih s h = go (bit_cases 0 t)
      where
        half : t / 2 ≤ s / 2
        half = ih (s / 2) (λ j p. sym (bit_suc j s) ∙ h (suc j) (bit_suc j t ∙ p))

        go : Has 0 t ⊎ (bit 0 t ≡ 0) → t ≤ s
        go (inl p) = omega (arith, half, h 0 p)
        go (inr z) = omega (arith, half)
