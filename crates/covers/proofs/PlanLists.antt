-- The list of the plans: split, rising, complete; and what follows for any set.
use Rattle.std.proofs.Common.{◌≡◌, ℕ, zero, suc, ◌+◌, ◌^◌, ◌<◌, ◌≤◌, Bool, true, false, cond, ◌≢◌, ◌⊎◌, ◌↔◌, List, [], ◌∷◌, ◌++◌, length, filter, sym, refl, ap, ◌∙◌, subst, inl, inr, add-zero, zero-add, arith}
use Rattle.covers.proofs.Least.{inner_plan, plan_complete, plan_owned, plan_sound}
use Rattle.sets.proofs.Members.{all_in, in_all}
use Rattle.covers.proofs.Rows.{owned_own, within_or}
use Rattle.sets.proofs.Places.{and_parts, below_place, has_not, lacking, lacking_has, lacking_lacks, place_below}
use Rattle.covers.specs.Plans.{Covers, Plan, is_plan, plans_in, plans_of}
use Rattle.sets.specs.Sets.{Has, Shares, Within, bit}
use Rattle.covers.specs.Theorems.{Lists}
use Rattle.sets.specs.Lists.{In, Rising}
use Rattle.std.proofs.lemmas.List.Elements.{filter-append}
use Rattle.std.proofs.ByRecursion.{All-weaker, kept_by_passes}
use Rattle.std.proofs.lemmas.Bool.{cases_eq}
use Rattle.std.specs.List.{range_with_len, AllByRecursion as Every}

-- ---- a run of numbers, and those of it that pass

counting_append : (a m n : ℕ) → range_with_len a (m + n) ≡ range_with_len a m ++ range_with_len (a + m) n
counting_append a zero n = ap (range_with_len a) (zero-add n) ∙ ap (λ (x : ℕ). range_with_len x n) (sym (add-zero a))
counting_append a (suc m) n = ap (range_with_len a) step ∙ ap (λ (xs : List ℕ). a ∷ xs) (counting_append (a + 1) m n ∙ ap (λ (x : ℕ). range_with_len (a + 1) m ++ range_with_len x n) place)
  where
    step : suc m + n ≡ suc (m + n)
    step = omega arith

    place : a + 1 + m ≡ a + suc m
    place = omega arith

pub plans_split : (rows : List ℕ) (lo m n : ℕ) → plans_in rows lo (m + n) ≡ plans_in rows lo m ++ plans_in rows (lo + m) n
unfolding plans_in
plans_split rows lo m n = ap (filter (is_plan rows)) (counting_append lo m n) ∙ filter-append (is_plan rows) (range_with_len lo m) (range_with_len (lo + m) n)

from_low : (f : ℕ → Bool) (lo n : ℕ) → Every (λ y. lo ≤ y) (filter f (range_with_len lo n))
from_low f lo zero = tt
from_low f lo (suc n) = go (f lo) (All-weaker (λ y. lo + 1 ≤ y) (λ y. lo ≤ y) (λ y h. omega arith) (filter f (range_with_len (lo + 1) n)) (from_low f (lo + 1) n))
  where
    go : (b : Bool) → Every (λ y. lo ≤ y) (filter f (range_with_len (lo + 1) n)) → Every (λ y. lo ≤ y) (cond b (lo ∷ filter f (range_with_len (lo + 1) n)) (filter f (range_with_len (lo + 1) n)))
    go true h = (omega arith, h)
    go false h = h

kept_rising : (f : ℕ → Bool) (lo n : ℕ) → Rising (filter f (range_with_len lo n))
kept_rising f lo zero = tt
kept_rising f lo (suc n) = go (f lo) (kept_rising f (lo + 1) n)
  where
    above : Every (λ y. lo < y) (filter f (range_with_len (lo + 1) n))
    above = All-weaker (λ y. lo + 1 ≤ y) (λ y. lo < y) (λ y h. omega arith) (filter f (range_with_len (lo + 1) n)) (from_low f (lo + 1) n)

    go : (b : Bool) → Rising (filter f (range_with_len (lo + 1) n)) → Rising (cond b (lo ∷ filter f (range_with_len (lo + 1) n)) (filter f (range_with_len (lo + 1) n)))
    go true h = (above, h)
    go false h = h

kept_in : (f : ℕ → Bool) (lo n s : ℕ) → lo ≤ s → s < lo + n → f s ≡ true → In (filter f (range_with_len lo n)) s
kept_in f lo zero s l u e = absurd (none l u)
  where
    none : lo ≤ s → s < lo + 0 → ⊥
    none p q = omega arith
kept_in f lo (suc n) s l u e = go (cases_eq lo s) (f lo) refl (λ k. kept_in f (lo + 1) n s k (omega arith) e)
  where
    go : (lo ≡ s) ⊎ (lo ≢ s) → (b : Bool) → f lo ≡ b → (lo + 1 ≤ s → In (filter f (range_with_len (lo + 1) n)) s) → In (cond b (lo ∷ filter f (range_with_len (lo + 1) n)) (filter f (range_with_len (lo + 1) n))) s
    go (inl p) true q rest = inl p
    go (inl p) false q rest = absurd (clash (sym q ∙ ap f p ∙ e))
      where
        clash : false ≡ true → ⊥
        clash z = subst (λ (b : Bool). cond b ⊥ (Unit {0})) z tt
    go (inr ne) true q rest = inr (rest (omega arith))
    go (inr ne) false q rest = rest (omega arith)

-- a run none of which passes
pub kept_none : (f : ℕ → Bool) (lo n : ℕ) → ((s : ℕ) → lo ≤ s → s < lo + n → f s ≡ true → ⊥) → filter f (range_with_len lo n) ≡ []
kept_none f lo zero h = refl
kept_none f lo (suc n) h = go (f lo) refl (kept_none f (lo + 1) n (λ s l u. h s (omega arith) (omega arith)))
  where
    go : (b : Bool) → f lo ≡ b → filter f (range_with_len (lo + 1) n) ≡ [] → cond b (lo ∷ filter f (range_with_len (lo + 1) n)) (filter f (range_with_len (lo + 1) n)) ≡ []
    go true e r = absurd (h lo (omega arith) (omega arith) e)
    go false e r = r

kept_few : (f : ℕ → Bool) (lo n : ℕ) → length (filter f (range_with_len lo n)) ≤ n
kept_few f lo zero = omega arith
kept_few f lo (suc n) = go (f lo) (kept_few f (lo + 1) n)
  where
    go : (b : Bool) → length (filter f (range_with_len (lo + 1) n)) ≤ n → length (cond b (lo ∷ filter f (range_with_len (lo + 1) n)) (filter f (range_with_len (lo + 1) n))) ≤ suc n
    go true h = omega arith
    go false h = omega arith

pub plans_few : (rows : List ℕ) (lo n : ℕ) → length (plans_in rows lo n) ≤ n
unfolding plans_in
plans_few rows lo n = kept_few (is_plan rows) lo n

-- ---- all plans of a matrix within the width

plan_below : (rows : List ℕ) (width s : ℕ) → Every (λ row. row < 2 ^ width) rows → is_plan rows s ≡ true → s < 2 ^ width
plan_below rows width s small h = place_below width s within
  where
    within : (j : ℕ) → Has j s → j < width
    within j p =
        let r = owned_own rows s j (ap (bit j) (plan_owned rows s h) ∙ p) in
        below_place r.0 j width (all_in (λ row. row < 2 ^ width) rows r.0 small r.1) (and_parts j r.0 s r.2.0).0

twin_in : (rows : List ℕ) (width s : ℕ) → Every (λ row. row < 2 ^ width) rows → is_plan rows s ≡ true → In (plans_of rows width) s
unfolding plans_of plans_in
twin_in rows width s small h = kept_in (is_plan rows) 0 (2 ^ width) s (omega arith) (omega (arith, plan_below rows width s small h)) h

plans_sound : (rows : List ℕ) (width : ℕ) → Every (Plan rows) (plans_of rows width)
unfolding plans_of plans_in
plans_sound rows width = All-weaker (λ s. is_plan rows s ≡ true) (Plan rows) (plan_sound rows) (plans_of rows width) (kept_by_passes (is_plan rows) (range_with_len 0 (2 ^ width)))

plans_rising : (rows : List ℕ) (width : ℕ) → Rising (plans_of rows width)
unfolding plans_of plans_in
plans_rising rows width = kept_rising (is_plan rows) 0 (2 ^ width)

plans_inner : (rows : List ℕ) (width : ℕ) → Every (λ row. row < 2 ^ width) rows → (s : ℕ) → Covers rows s → (p : ℕ) × In (plans_of rows width) p × Within p s
plans_inner rows width small s c = let p = inner_plan rows s c in (p.0, twin_in rows width p.0 small p.1, p.2)

-- a row within s, or a test of each row that s lacks
row_or : (rows : List ℕ) (s : ℕ) → ((row : ℕ) × In rows row × Within row s) ⊎ Every (λ row. (j : ℕ) × Has j row × (bit j s ≡ 0)) rows
row_or [] s = inr tt
row_or (row ∷ rows) s = go (within_or row s) (row_or rows s)
  where
    go : Within row s ⊎ ((j : ℕ) × Has j row × (bit j s ≡ 0)) → ((r : ℕ) × In rows r × Within r s) ⊎ Every (λ r. (j : ℕ) × Has j r × (bit j s ≡ 0)) rows → ((r : ℕ) × In (row ∷ rows) r × Within r s) ⊎ Every (λ r. (j : ℕ) × Has j r × (bit j s ≡ 0)) (row ∷ rows)
    go (inl w) rest = inl (row, inl refl, w)
    go (inr m) (inl (r, i, w)) = inl (r, inr i, w)
    go (inr m) (inr ms) = inr (m, ms)

-- what s lacks covers, where it lacks a test of each row
lacking_covers : (rows : List ℕ) (width s : ℕ) → Every (λ row. row < 2 ^ width) rows → Every (λ row. (j : ℕ) × Has j row × (bit j s ≡ 0)) rows → Covers rows (lacking width s)
lacking_covers [] width s small ms = tt
lacking_covers (row ∷ rows) width s (l, small) ((j, h, z), ms) =
    ((j, h, lacking_has j width s (below_place row j width l h) z), lacking_covers rows width s small ms)

plans_dual : (rows : List ℕ) (width : ℕ) → Every (λ row. row < 2 ^ width) rows → (s : ℕ) → Every (Shares s) (plans_of rows width) ↔ ((row : ℕ) × In rows row × Within row s)
plans_dual rows width small s = (contains, shares)
  where
    contains : Every (Shares s) (plans_of rows width) → (row : ℕ) × In rows row × Within row s
    contains h = go (row_or rows s)
      where
        go : ((row : ℕ) × In rows row × Within row s) ⊎ Every (λ row. (j : ℕ) × Has j row × (bit j s ≡ 0)) rows → (row : ℕ) × In rows row × Within row s
        go (inl r) = r
        go (inr ms) =
            let p = plans_inner rows width small (lacking width s) (lacking_covers rows width s small ms) in
            let m = all_in (Shares s) (plans_of rows width) p.0 h p.1 in
            absurd (has_not m.0 s m.1 (lacking_lacks m.0 width s (p.2 m.0 m.2)))

    shares : ((row : ℕ) × In rows row × Within row s) → Every (Shares s) (plans_of rows width)
    shares (row, i, w) = in_all (Shares s) (plans_of rows width) each
      where
        each : (p : ℕ) → In (plans_of rows width) p → Shares s p
        each p k =
            let m = all_in (λ x. Shares x p) rows row (all_in (Plan rows) (plans_of rows width) p (plans_sound rows width) k).0 i in
            (m.0, w m.0 m.1, m.2)

pub plans_list : (rows : List ℕ) (width : ℕ) → Every (λ row. row < 2 ^ width) rows → Lists rows (plans_of rows width)
plans_list rows width small = record {
  sound = plans_sound rows width;
  complete = λ s plan. twin_in rows width s small (plan_complete rows s plan);
  rising = plans_rising rows width;
  inner = plans_inner rows width small;
  dual = plans_dual rows width small;
}
