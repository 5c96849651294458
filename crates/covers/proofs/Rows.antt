-- Covering, and rows of one's own: what is computed is what is meant.
use Rattle.std.proofs.Common.{◌≡◌, ℕ, zero, suc, ◌/◌, true, ◌≢◌, ◌⊎◌, List, [], ◌∷◌, sym, refl, ap, ◌∙◌, subst, inl, inr}
use Rattle.sets.proofs.Bits.{bit_cases, bit_suc, bit_zero, within_same}
use Rattle.sets.proofs.Places.{Lone, alone_lone, and_parts, has_not, lone_alone, meets_shares, or_cases, or_has, shares_meets}
use Rattle.covers.specs.Plans.{Covers, covers, owned}
use Rattle.sets.specs.Sets.{Has, Within, alone, bit, meets}
use Rattle.sets.specs.Lists.{In}
use Rattle.std.proofs.lemmas.Bool.{and_from, and_parts as both_true}
use lib.Arith.{bin_ind}
use lib.Bits.{bit_and}

-- ---- elements

-- ---- covering

pub covers_sound : (rows : List ℕ) (s : ℕ) → covers rows s ≡ true → Covers rows s
unfolding covers
covers_sound [] s h = tt
covers_sound (row ∷ rows) s h =
    let p = both_true (meets row s) (covers rows s) h in
    (meets_shares row s p.0, covers_sound rows s p.1)

pub covers_complete : (rows : List ℕ) (s : ℕ) → Covers rows s → covers rows s ≡ true
unfolding covers
covers_complete [] s h = refl
covers_complete (row ∷ rows) s h =
    and_from (meets row s) (covers rows s) (shares_meets row s h.0) (covers_complete rows s h.1)

pub covers_up : (rows : List ℕ) (t s : ℕ) → Within t s → Covers rows t → Covers rows s
covers_up [] t s w h = tt
covers_up (row ∷ rows) t s w ((j, p, q), h) = ((j, p, w j q), covers_up rows t s w h)

-- ---- rows of one's own

-- in some row, j is the one test of s
abbrev pub Own : List ℕ → ℕ → ℕ → Type 0
Own rows s j = (row : ℕ) × In rows row × Lone j (bit_and row s)

pub owned_own : (rows : List ℕ) (s j : ℕ) → Has j (owned rows s) → Own rows s j
unfolding owned
owned_own [] s j h = absurd (has_not j 0 h (bit_zero j))
owned_own (row ∷ rows) s j h = go (or_cases j (alone (bit_and row s)) (owned rows s) h) (owned_own rows s j)
  where
    go : Has j (alone (bit_and row s)) ⊎ Has j (owned rows s) → (Has j (owned rows s) → Own rows s j) → Own (row ∷ rows) s j
    go (inl p) f = (row, inl refl, alone_lone j (bit_and row s) p)
    go (inr q) f = let r = f q in (r.0, inr r.1, r.2)

pub own_owned : (rows : List ℕ) (s j row : ℕ) → In rows row → Lone j (bit_and row s) → Has j (owned rows s)
unfolding owned
own_owned [] s j row i l = absurd i
own_owned (x ∷ rows) s j row (inl e) l = or_has j (alone (bit_and x s)) (owned rows s) (inl (ap (bit j) (lone_alone j (bit_and x s) k) ∙ k.0))
  where
    k : Lone j (bit_and x s)
    k = subst (λ (r : ℕ). Lone j (bit_and r s)) (sym e) l
own_owned (x ∷ rows) s j row (inr i) l = or_has j (alone (bit_and x s)) (owned rows s) (inr (own_owned rows s j row i l))

pub owned_within : (rows : List ℕ) (s : ℕ) → Within (owned rows s) s
owned_within rows s j h = let r = owned_own rows s j h in (and_parts j r.0 s r.2.0).1

-- ---- a set within another, or a test that it lacks

pub within_or : (t s : ℕ) → Within t s ⊎ ((j : ℕ) × Has j t × (bit j s ≡ 0))
within_or = bin_ind (λ t. (s : ℕ) → Within t s ⊎ ((j : ℕ) × Has j t × (bit j s ≡ 0)))
    (λ s. inl (λ j h. absurd (has_not j 0 h (bit_zero j)))) step
  where
    step : (t : ℕ) → ((s : ℕ) → Within (t / 2) s ⊎ ((j : ℕ) × Has j (t / 2) × (bit j s ≡ 0))) → (s : ℕ) → Within t s ⊎ ((j : ℕ) × Has j t × (bit j s ≡ 0))
    step t ih s = go (bit_cases 0 t) (bit_cases 0 s) (ih (s / 2))
      where
        whole : (Has 0 t → Has 0 s) → Within (t / 2) (s / 2) → Within t s
        whole f w zero h = f h
        whole f w (suc j) h = bit_suc j s ∙ w j (sym (bit_suc j t) ∙ h)

        up : (Has 0 t → Has 0 s) → Within (t / 2) (s / 2) ⊎ ((j : ℕ) × Has j (t / 2) × (bit j (s / 2) ≡ 0)) → Within t s ⊎ ((j : ℕ) × Has j t × (bit j s ≡ 0))
        up f (inl w) = inl (whole f w)
        up f (inr (j, p, z)) = inr (suc j, bit_suc j t ∙ p, bit_suc j s ∙ z)

        go : Has 0 t ⊎ (bit 0 t ≡ 0) → Has 0 s ⊎ (bit 0 s ≡ 0) → Within (t / 2) (s / 2) ⊎ ((j : ℕ) × Has j (t / 2) × (bit j (s / 2) ≡ 0)) → Within t s ⊎ ((j : ℕ) × Has j t × (bit j s ≡ 0))
        go (inl p) (inr z) r = inr (0, p, z)
        go (inl p) (inl q) r = up (λ _. q) r
        go (inr z) _ r = up (λ h. absurd (has_not 0 t h z)) r

-- what a proper subset lacks
pub missing : (t s : ℕ) → Within t s → t ≢ s → (j : ℕ) × Has j s × (bit j t ≡ 0)
missing t s w ne = go (within_or s t)
  where
    go : Within s t ⊎ ((j : ℕ) × Has j s × (bit j t ≡ 0)) → (j : ℕ) × Has j s × (bit j t ≡ 0)
    go (inl v) = absurd (ne (within_same t s w v))
    go (inr r) = r
