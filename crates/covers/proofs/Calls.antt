-- The cover call: its faults as computed and as meant, and its list.
use Rattle.std.proofs.Common.{◌≡◌, ℕ, suc, ◌+◌, ◌-◌, ◌*◌, ◌/◌, ◌%◌, ◌^◌, ◌<◌, ◌≤◌, Bool, true, false, cond, ◌&&◌, ltb, leb, ◌≢◌, ◌⊎◌, List, [], ◌∷◌, ◌++◌, length, get_or, take, drop, replicate, Some, None, Option, Ok, Err, sym, refl, ap, ◌∙◌, subst, inl, inr, zero-add, zero-mul, arith, pow_pos, shr-shr, MatchOption, MatchResult, Result}
use Rattle.sets.proofs.Bits.{some_bit}
use Rattle.covers.proofs.PlanLists.{plans_list}
use Rattle.sets.proofs.Places.{below_place}
use Rattle.covers.specs.Answers.{cover_fault, listed, over, wide_row}
use Rattle.covers.specs.Divisions.{Apart}
use Rattle.sets.specs.Sets.{Has}
use Rattle.covers.specs.Theorems.{Fair, Opened, RefusedWith, Wide}
use Rattle.covers.specs.declared.faults.CoverFault.TheVariants.{Row, Width}
use Rattle.covers.specs.declared.faults.CoverFault.{CoverFault}
use Rattle.std.proofs.lemmas.Nat.{le-div, one_shl}
use Rattle.refusals.specs.Faults.{passed}
use Rattle.std.proofs.ByRecursion.{All-get_or, All-weaker}
use Rattle.std.proofs.lemmas.List.{at_drop_all, at_drop_more, drop-replicate}
use Rattle.std.proofs.lemmas.Bool.{both_ways, and_from, and_left, and_parts, and_right, cond-false, cond-true, le-leb, leb-true, lt-leb, lt-ltb, le-ltb, ltb-true, ltb-false}
use Rattle.std.specs.List.{AllByRecursion as Every}
use Rattle.std.specs.Result.{IsOk}
use lib.ListN.{length-replicate}
use lib.Seq.{sets, sets-eq}

-- ---- the faults, as the loop finds them

pub fault_width : (width : ℕ) (rows : List ℕ) → (width < 1) ⊎ (24 < width) → cover_fault width rows ≡ Some Width
unfolding cover_fault
fault_width width rows (inl h) = cond-false (leb 1 width && leb width 24) (wide_row width 0 rows) (Some Width) (and_left (leb 1 width) (leb width 24) (lt-leb 1 width h))
fault_width width rows (inr h) = cond-false (leb 1 width && leb width 24) (wide_row width 0 rows) (Some Width) (and_right (leb 1 width) (leb width 24) (lt-leb width 24 h))

pub fault_rows : (width : ℕ) (rows : List ℕ) → Fair width → cover_fault width rows ≡ wide_row width 0 rows
unfolding cover_fault
fault_rows width rows (l, u) = cond-true (leb 1 width && leb width 24) (wide_row width 0 rows) (Some Width) (and_from (leb 1 width) (leb width 24) (le-leb 1 width l) (le-leb width 24 u))

module _ (width : ℕ) (rows : List ℕ) (i : ℕ) where
  pub wide_more : i < length rows → get_or rows i 0 < 2 ^ width → wide_row width i (drop i rows) ≡ wide_row width (i + 1) (drop (i + 1) rows)
  unfolding wide_row
  wide_more l h =
      at_drop_more (wide_row width i) rows i 0 l
      ∙ cond-true (ltb (get_or rows i 0) (2 ^ width)) (wide_row width (i + 1) (drop (i + 1) rows)) (Some (Row i)) (lt-ltb (get_or rows i 0) (2 ^ width) h)

  pub wide_here : i < length rows → 2 ^ width ≤ get_or rows i 0 → wide_row width i (drop i rows) ≡ Some (Row i)
  unfolding wide_row
  wide_here l h =
      at_drop_more (wide_row width i) rows i 0 l
      ∙ cond-false (ltb (get_or rows i 0) (2 ^ width)) (wide_row width (i + 1) (drop (i + 1) rows)) (Some (Row i)) (le-ltb (get_or rows i 0) (2 ^ width) h)

  pub wide_end : length rows ≤ i → wide_row width i (drop i rows) ≡ None
  unfolding wide_row
  wide_end h = at_drop_all (wide_row width i) rows i h

-- ---- the faults, as they are meant

narrow : (width row : ℕ) → row < 2 ^ width → Wide width row → ⊥
narrow width row l (j, w, h) = let k = below_place row j width l h in omega arith

wide : (width row : ℕ) → 2 ^ width ≤ row → Wide width row
wide width row l = (width + p.0, omega arith, ap (λ (x : ℕ). x % 2) (sym (shr-shr row width p.0)) ∙ p.1)
  where
    high : row / 2 ^ width ≢ 0
    high z = omega (arith, le-div 1 row (2 ^ width) (pow_pos width) (omega arith))

    p : (j : ℕ) × Has j (row / 2 ^ width)
    p = some_bit (row / 2 ^ width) high

found_none : (width k : ℕ) (rows : List ℕ) → wide_row width k rows ≡ None → Every (λ row. row < 2 ^ width) rows
unfolding wide_row
found_none width k [] e = tt
found_none width k (row ∷ rows) e = go (ltb row (2 ^ width)) refl e (found_none width (k + 1) rows)
  where
    go : (b : Bool) → ltb row (2 ^ width) ≡ b → cond b (wide_row width (k + 1) rows) (Some (Row k)) ≡ None
        → (wide_row width (k + 1) rows ≡ None → Every (λ r. r < 2 ^ width) rows) → Every (λ r. r < 2 ^ width) (row ∷ rows)
    go true t f rest = (ltb-true row (2 ^ width) t, rest f)
    go false t f rest = cc

-- the row that is found is row i of these, counted from k
abbrev Found : ℕ → ℕ → List ℕ → CoverFault → Type 0
Found width k rows fault =
    (i : ℕ) × (fault ≡ Row (k + i)) × (i < length rows) × (2 ^ width ≤ get_or rows i 0) × Every (λ row. row < 2 ^ width) (take i rows)

found_some : (width k : ℕ) (rows : List ℕ) (fault : CoverFault) → wide_row width k rows ≡ Some fault → Found width k rows fault
unfolding wide_row
found_some width k [] fault e = cc
found_some width k (row ∷ rows) fault e = go (ltb row (2 ^ width)) refl e (found_some width (k + 1) rows fault)
  where
    go : (b : Bool) → ltb row (2 ^ width) ≡ b → cond b (wide_row width (k + 1) rows) (Some (Row k)) ≡ Some fault
        → (wide_row width (k + 1) rows ≡ Some fault → Found width (k + 1) rows fault) → Found width k (row ∷ rows) fault
    go true t f rest =
        let r = rest f in
        let place : k + 1 + r.0 ≡ k + suc r.0 = omega arith in
        (suc r.0, r.1 ∙ ap Row place, omega (arith, r.2), r.3, (ltb-true row (2 ^ width) t, r.4))
    go false t f rest =
        let place : k ≡ k + 0 = omega arith in
        let same : fault ≡ Row k = cc in
        (0, same ∙ ap Row place, omega arith, ltb-false row (2 ^ width) t, tt)

-- what the first fault, or none, says of the width and the rows
pub fault_means : (width : ℕ) (rows : List ℕ) → MatchOption (cover_fault width rows) (Opened width rows) (RefusedWith width rows)
unfolding cover_fault
fault_means width rows = tested (leb 1 width && leb width 24) refl
  where
    opened : Fair width → wide_row width 0 rows ≡ None → Opened width rows
    opened f e = record {
      fair = f;
      narrow = All-weaker (λ row. row < 2 ^ width) (λ row. Wide width row → ⊥) (narrow width) rows (found_none width 0 rows e);
      lists = plans_list rows width (found_none width 0 rows e);
    }

    refused : Fair width → (fault : CoverFault) → wide_row width 0 rows ≡ Some fault → RefusedWith width rows fault
    refused f fault e =
        let r = found_some width 0 rows fault e in
        let same : fault ≡ Row r.0 = r.1 ∙ ap Row (zero-add r.0) in
        subst (RefusedWith width rows) (sym same)
        (f, r.2, wide width (get_or rows r.0 0) r.3, All-weaker (λ row. row < 2 ^ width) (λ row. Wide width row → ⊥) (narrow width) (take r.0 rows) r.4)

    searched : Fair width → (o : Option CoverFault) → wide_row width 0 rows ≡ o → MatchOption o (Opened width rows) (RefusedWith width rows)
    searched f None e = opened f e
    searched f (Some fault) e = refused f fault e

    unfair : (leb 1 width && leb width 24) ≡ false → Fair width → ⊥
    unfair e (l, u) = both_ways (leb 1 width && leb width 24) e (and_from (leb 1 width) (leb width 24) (le-leb 1 width l) (le-leb width 24 u))

    tested : (b : Bool) → (leb 1 width && leb width 24) ≡ b → MatchOption (cond b (wide_row width 0 rows) (Some Width)) (Opened width rows) (RefusedWith width rows)
    tested true e = let p = and_parts (leb 1 width) (leb width 24) e in searched (leb-true 1 width p.0, leb-true width 24 p.1) (wide_row width 0 rows) refl
    tested false e = unfair e

-- the same by what the check answers
pub opened_by : (width : ℕ) (rows : List ℕ) (u : Unit {0}) → Ok u ≡ passed (cover_fault width rows) → Opened width rows
opened_by width rows u e = go (cover_fault width rows) (fault_means width rows) e
  where
    go : (o : Option CoverFault) → MatchOption o (Opened width rows) (RefusedWith width rows) → Ok u ≡ passed o → Opened width rows
    go None h e = h
    go (Some fault) h e = cc

pub fair_by : (width : ℕ) (rows : List ℕ) (u : Unit {0}) → Ok u ≡ passed (cover_fault width rows) → width ≤ 24
fair_by width rows u e = (opened_by width rows u e).fair.1

pub refused_by : (width : ℕ) (rows : List ℕ) (fault : CoverFault) → Err fault ≡ passed (cover_fault width rows) → RefusedWith width rows fault
refused_by width rows fault e = go (cover_fault width rows) (fault_means width rows) e
  where
    go : (o : Option CoverFault) → MatchOption o (Opened width rows) (RefusedWith width rows) → Err fault ≡ passed o → RefusedWith width rows fault
    go None h e = cc
    go (Some found) h e = let same : found ≡ fault = cc in subst (RefusedWith width rows) same h

pub limit_is : (width : ℕ) → width ≤ 24 → (1 * 2 ^ width) % 4294967296 ≡ 2 ^ width
limit_is width h = one_shl width 32 (omega arith)

-- ---- the list

-- all tests of the width are undecided at first
pub root : (width undecided : ℕ) → undecided + 1 ≡ 2 ^ width → Apart 0 undecided
root width undecided e = record { place = width; base = 0; chosen_is = sym (zero-mul (2 ^ width)); undecided_is = e }

pub over_fits : (places : ℕ) (plans : List ℕ) → length plans ≤ places → over places plans ≡ 0
unfolding over
over_fits places plans h = cond-true (leb (length plans) places) 0 1 (le-leb (length plans) places h)

pub over_not : (places : ℕ) (plans : List ℕ) → places < length plans → over places plans ≡ 1
unfolding over
over_not places plans h = cond-false (leb (length plans) places) 0 1 (lt-leb (length plans) places h)

pub listed_fits : (places : ℕ) (plans : List ℕ) → length plans ≤ places → sets (replicate places 0) 0 plans ≡ listed places plans
unfolding listed
listed_fits places plans h =
    sets-eq plans (replicate places 0) 0 (omega (arith, length-replicate {A = ℕ} places 0))
    ∙ ap (λ (xs : List ℕ). plans ++ xs) (drop-replicate (0 + length plans) places 0 ∙ ap (λ (n : ℕ). replicate {A = ℕ} (places - n) 0) (zero-add (length plans)))
    ∙ sym (cond-true (leb (length plans) places) (plans ++ replicate (places - length plans) 0) (replicate places 0) (le-leb (length plans) places h))

pub listed_not : (places : ℕ) (plans : List ℕ) → places < length plans → replicate places 0 ≡ listed places plans
unfolding listed
listed_not places plans h = sym (cond-false (leb (length plans) places) (plans ++ replicate (places - length plans) 0) (replicate places 0) (lt-leb (length plans) places h))

-- a fair width and rows that have no test above it are not refused
pub not_refused : (width : ℕ) (rows : List ℕ) (fault : CoverFault) → Fair width → Every (λ row. row < 2 ^ width) rows → RefusedWith width rows fault → ⊥
not_refused width rows Width fair small h = h fair
not_refused width rows (Row k) fair small (f, l, w, before) = narrow width (get_or rows k 0) (All-get_or (λ row. row < 2 ^ width) rows k 0 l small) w

-- so the call answers
pub cover_answers : (width : ℕ) (rows : List ℕ) (r : Result (ℕ × ℕ) CoverFault) → Fair width → Every (λ row. row < 2 ^ width) rows
    → MatchResult r (λ _. Opened width rows) (RefusedWith width rows) → IsOk r
cover_answers width rows (Ok answer) fair narrow h = refl
cover_answers width rows (Err fault) fair narrow h = absurd (not_refused width rows fault fair narrow h)
