-- Plans: minimal is the same as every test having a row of its own, every cover contains a plan, and the core.
use Rattle.std.proofs.Common.{◌≡◌, ℕ, zero, suc, ◌<◌, true, eqb, ◌≢◌, ◌⊎◌, List, [], ◌∷◌, sym, refl, ap, ◌∙◌, subst, inl, inr, arith}
use Rattle.sets.proofs.Bits.{bit_cases, bit_zero, some_bit, within_same}
use Rattle.sets.proofs.Members.{all_in, in_all}
use Rattle.covers.proofs.Rows.{covers_complete, covers_sound, missing, own_owned, owned_own, owned_within}
use Rattle.sets.proofs.Places.{Lone, alone_lone, and_has, and_parts, has_not, lone_alone, or_cases, or_has, within_le, without, without_has, without_lacks, without_within}
use Rattle.covers.specs.Plans.{Covers, Plan, core_of, covers, is_plan, owned}
use Rattle.sets.specs.Sets.{Has, Shares, Within, alone, bit}
use Rattle.covers.specs.Theorems.{Common}
use Rattle.sets.specs.Lists.{In}
use Rattle.std.proofs.lemmas.Bool.{and_from, and_parts as both_true, cases_eq, eq-eqb, eqb-true}
use lib.Bits.{bit_and, bit_or}

-- a subset of a set whose tests all have rows of their own is such a set too
pub own_down : (rows : List ℕ) (t s : ℕ) → Within t s → owned rows s ≡ s → owned rows t ≡ t
own_down rows t s w e = within_same (owned rows t) t (owned_within rows t) keeps
  where
    keeps : Within t (owned rows t)
    keeps j h =
        let r = owned_own rows s j (ap (bit j) e ∙ w j h) in
        let row = r.0 in
        let j-in = (and_parts j row s r.2.0).0 in
        own_owned rows t j row r.1 (
          and_has j row t j-in h,
          λ i k. let p = and_parts i row t k in r.2.1 i (and_has i row s p.0 (w i p.1)),
        )

-- a set whose tests all have rows of their own contains no other cover
pub own_least : (rows : List ℕ) (t s : ℕ) → owned rows s ≡ s → Within t s → Covers rows t → t ≡ s
own_least rows t s e w c = within_same t s w keeps
  where
    keeps : Within s t
    keeps j h =
        let r = owned_own rows s j (ap (bit j) e ∙ h) in
        let row = r.0 in
        let m = all_in (λ x. Shares x t) rows row c r.1 in
        let same : m.0 ≡ j = r.2.1 m.0 (and_has m.0 row s m.1 (w m.0 m.2)) in
        subst (λ (k : ℕ). Has k t) same m.2

-- x has another test than j, or no test but j
other_test : (j x : ℕ) → ((i : ℕ) × Has i x × (i ≢ j)) ⊎ ((i : ℕ) → Has i x → i ≡ j)
other_test j x = go (cases_eq (without j x) 0)
  where
    only : without j x ≡ 0 → (i : ℕ) → Has i x → i ≡ j
    only z i h = pick (cases_eq i j)
      where
        pick : (i ≡ j) ⊎ (i ≢ j) → i ≡ j
        pick (inl e) = e
        pick (inr ne) = absurd (has_not i (without j x) (without_has i j x h ne) (ap (bit i) z ∙ bit_zero i))

    go : (without j x ≡ 0) ⊎ (without j x ≢ 0) → ((i : ℕ) × Has i x × (i ≢ j)) ⊎ ((i : ℕ) → Has i x → i ≡ j)
    go (inl z) = inr (only z)
    go (inr ne) =
        let p = some_bit (without j x) ne in
        inl (p.0, without_within j x p.0 p.1, λ e. without_lacks j x (subst (λ (k : ℕ). Has k (without j x)) e p.1))

-- a test with no row of its own can be struck out
strike : (rows : List ℕ) (s j : ℕ) → Covers rows s → bit j (owned rows s) ≡ 0 → Covers rows (without j s)
strike rows s j c z = in_all (λ row. Shares row (without j s)) rows each
  where
    each : (row : ℕ) → In rows row → Shares row (without j s)
    each row i = go (other_test j (bit_and row s)) (all_in (λ x. Shares x s) rows row c i)
      where
        go : ((k : ℕ) × Has k (bit_and row s) × (k ≢ j)) ⊎ ((k : ℕ) → Has k (bit_and row s) → k ≡ j) → Shares row s → Shares row (without j s)
        go (inl (k, h, ne)) m = let p = and_parts k row s h in (k, p.0, without_has k j s p.1 ne)
        go (inr only) (k, p, q) =
            let h = and_has k row s p q in
            let l : Lone j (bit_and row s) = (subst (λ (x : ℕ). Has x (bit_and row s)) (only k h) h, only) in
            absurd (has_not j (owned rows s) (own_owned rows s j row i l) z)

-- ---- the executable twin

pub plan_sound : (rows : List ℕ) (s : ℕ) → is_plan rows s ≡ true → Plan rows s
unfolding is_plan
plan_sound rows s h =
    let p = both_true (covers rows s) (eqb (owned rows s) s) h in
    (covers_sound rows s p.0, λ t w c. w.1 (own_least rows t s (eqb-true (owned rows s) s p.1) w.0 c))

pub plan_owned : (rows : List ℕ) (s : ℕ) → is_plan rows s ≡ true → owned rows s ≡ s
unfolding is_plan
plan_owned rows s h = eqb-true (owned rows s) s (both_true (covers rows s) (eqb (owned rows s) s) h).1

pub owned_plan : (rows : List ℕ) (s : ℕ) → Covers rows s → owned rows s ≡ s → is_plan rows s ≡ true
unfolding is_plan
owned_plan rows s c e =
    and_from (covers rows s) (eqb (owned rows s) s) (covers_complete rows s c) (eq-eqb (owned rows s) s e)

pub plan_complete : (rows : List ℕ) (s : ℕ) → Plan rows s → is_plan rows s ≡ true
plan_complete rows s (c, least) = owned_plan rows s c (go (cases_eq (owned rows s) s))
  where
    go : (owned rows s ≡ s) ⊎ (owned rows s ≢ s) → owned rows s ≡ s
    go (inl e) = e
    go (inr ne) =
        let m = missing (owned rows s) s (owned_within rows s) ne in
        absurd (least (without m.0 s)
        (without_within m.0 s, λ e. without_lacks m.0 s (subst (λ (x : ℕ). Has m.0 x) (sym e) m.1))
        (strike rows s m.0 c m.2))

-- ---- every cover contains a plan

-- a cover that is no plan contains a smaller cover
smaller : (rows : List ℕ) (t : ℕ) → owned rows t ≢ t → Covers rows t → (u : ℕ) × (u < t) × Within u t × Covers rows u
smaller rows t ne d =
    let m = missing (owned rows t) t (owned_within rows t) ne in
    let u = without m.0 t in
    let w = without_within m.0 t in
    let le = within_le u t w in
    let other : u ≢ t = λ e. without_lacks m.0 t (subst (λ (x : ℕ). Has m.0 x) (sym e) m.1) in
    (u, omega arith, w, strike rows t m.0 d m.2)

inner_below : (rows : List ℕ) (n t : ℕ) → t < n → Covers rows t → (p : ℕ) × (is_plan rows p ≡ true) × Within p t
inner_below rows zero t l d = absurd (none l)
  where
    none : t < 0 → ⊥
    none h = omega arith
inner_below rows (suc n) t l d = pick (cases_eq (owned rows t) t) (inner_below rows n)
  where
    pick : (owned rows t ≡ t) ⊎ (owned rows t ≢ t)
        → ((u : ℕ) → u < n → Covers rows u → (p : ℕ) × (is_plan rows p ≡ true) × Within p u)
        → (p : ℕ) × (is_plan rows p ≡ true) × Within p t
    pick (inl e) f = (t, owned_plan rows t d e, λ j h. h)
    pick (inr ne) f =
        let u = smaller rows t ne d in
        let r = f u.0 (omega (arith, u.1)) u.3 in
        (r.0, r.1, λ j h. u.2 j (r.2 j h))

pub inner_plan : (rows : List ℕ) (s : ℕ) → Covers rows s → (p : ℕ) × (is_plan rows p ≡ true) × Within p s
inner_plan rows s c = inner_below rows (suc s) s (omega arith) c

-- ---- the core

pub core_lone : (rows : List ℕ) (j : ℕ) → Has j (core_of rows) → (row : ℕ) × In rows row × Lone j row
unfolding core_of
core_lone [] j h = absurd (has_not j 0 h (bit_zero j))
core_lone (row ∷ rows) j h = go (or_cases j (alone row) (core_of rows) h) (core_lone rows j)
  where
    go : Has j (alone row) ⊎ Has j (core_of rows) → (Has j (core_of rows) → (r : ℕ) × In rows r × Lone j r) → (r : ℕ) × In (row ∷ rows) r × Lone j r
    go (inl p) f = (row, inl refl, alone_lone j row p)
    go (inr q) f = let r = f q in (r.0, inr r.1, r.2)

pub lone_core : (rows : List ℕ) (j row : ℕ) → In rows row → Lone j row → Has j (core_of rows)
unfolding core_of
lone_core [] j row i l = absurd i
lone_core (x ∷ rows) j row (inl e) l = or_has j (alone x) (core_of rows) (inl (ap (bit j) (lone_alone j x k) ∙ k.0))
  where
    k : Lone j x
    k = subst (λ (r : ℕ). Lone j r) (sym e) l
lone_core (x ∷ rows) j row (inr i) l = or_has j (alone x) (core_of rows) (inr (lone_core rows j row i l))

-- all tests of all rows
union : List ℕ → ℕ
union [] = 0
union (row ∷ rows) = bit_or row (union rows)

in_union : (rows : List ℕ) (row j : ℕ) → In rows row → Has j row → Has j (union rows)
unfolding union
in_union [] row j i h = absurd i
in_union (x ∷ rows) row j (inl e) h = or_has j x (union rows) (inl (ap (bit j) e ∙ h))
in_union (x ∷ rows) row j (inr i) h = or_has j x (union rows) (inr (in_union rows row j i h))

-- without a test that stands alone in no row, the others still cover
spare : (rows : List ℕ) (p j : ℕ) → Covers rows p → bit j (core_of rows) ≡ 0 → Covers rows (without j (union rows))
spare rows p j c z = in_all (λ row. Shares row (without j (union rows))) rows each
  where
    each : (row : ℕ) → In rows row → Shares row (without j (union rows))
    each row i = go (other_test j row) (all_in (λ x. Shares x p) rows row c i)
      where
        go : ((k : ℕ) × Has k row × (k ≢ j)) ⊎ ((k : ℕ) → Has k row → k ≡ j) → Shares row p → Shares row (without j (union rows))
        go (inl (k, h, ne)) m = (k, h, without_has k j (union rows) (in_union rows row k i h) ne)
        go (inr only) (k, h, q) =
            let l : Lone j row = (subst (λ (x : ℕ). Has x row) (only k h) h, only) in
            absurd (has_not j (core_of rows) (lone_core rows j row i l) z)

pub core_common : (rows : List ℕ) → Common rows (core_of rows)
core_common rows p plan j = (in_every, in_core)
  where
    in_every : Has j (core_of rows) → (q : ℕ) → Plan rows q → Has j q
    in_every h q plan-q =
        let r = core_lone rows j h in
        let m = all_in (λ x. Shares x q) rows r.0 plan-q.0 r.1 in
        subst (λ (k : ℕ). Has k q) (r.2.1 m.0 m.1) m.2

    in_core : ((q : ℕ) → Plan rows q → Has j q) → Has j (core_of rows)
    in_core f = go (bit_cases j (core_of rows))
      where
        go : Has j (core_of rows) ⊎ (bit j (core_of rows) ≡ 0) → Has j (core_of rows)
        go (inl h) = h
        go (inr z) =
            let q = inner_plan rows (without j (union rows)) (spare rows p j plan.0 z) in
            absurd (without_lacks j (union rows) (q.2 j (f q.0 (plan_sound rows q.0 q.1))))
