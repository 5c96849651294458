-- What stands in the places of slots is found by their tags alone.
use Rattle.std.proofs.Common.{◌≡◌, ℕ, suc, ◌<◌, ◌+◌, Bool, true, false, not, cond, count_by, eqb, ltb, ◌≢◌, ◌⊎◌, List, [], ◌∷◌, length, get_or, take, drop, Some, None, Option, sym, refl, ap, ◌∙◌, inl, inr, arith}
use Rattle.books.specs.Gathered.{lower, lowest_above, occupied, standing}
use Rattle.books.specs.Meanings.{Rec}
use Rattle.refusals.specs.Faults.{when}
use Rattle.slot_book.specs.Found.{lowest_tag, slot_of, used}
use Rattle.slot_book.specs.Slots.{no_slot, place_of, places, row_of, rows}
use Rattle.slot_book.specs.declared.slots.Slot.{Slot}
use Rattle.std.proofs.lemmas.Bool.{cases_eq, cond-false, cond-true, eq-eqb, le-ltb, ne_eqb}
use Rattle.std.proofs.lemmas.Bool.Decides.{nat_tests}
use Rattle.std.proofs.lemmas.List.Sums.{sum_by-cons}
use Rattle.std.specs.List.{position_or_len}
use Rattle.std.specs.Option.{option_map}

-- the first slot of a tag is this one, or the first of those after it
pub slot_of-cons : (t : ℕ) (s : Slot) (ss : List Slot) → slot_of t (s ∷ ss) ≡ cond (eqb s.tag t) (Some 0) (option_map suc (slot_of t ss))
unfolding slot_of
slot_of-cons t s ss = step (eqb s.tag t) (position_or_len (λ (x : Slot). eqb x.tag t) ss) (length ss)
  where
    next : (m l : ℕ) (b : Bool) → ltb m l ≡ b → cond (ltb (1 + m) (suc l)) (Some (1 + m)) None ≡ option_map suc (cond b (Some m) None)
    next m l true e = grind (arith, nat_tests)
    next m l false e = grind (arith, nat_tests)

    step : (b : Bool) (m l : ℕ) → cond (ltb (cond (not b) (1 + m) 0) (suc l)) (Some (cond (not b) (1 + m) 0)) None ≡ cond b (Some 0) (option_map suc (cond (ltb m l) (Some m) None))
    step true m l = grind (arith, nat_tests)
    step false m l = next m l (ltb m l) refl

pub used-cons : (s : Slot) (ss : List Slot) → used (s ∷ ss) ≡ cond (eqb s.tag 0) (used ss) (suc (used ss))
unfolding used
used-cons s ss = sum_by-cons (λ (x : Slot). cond (not (eqb x.tag 0)) 1 0) s ss ∙ step (eqb s.tag 0) (count_by (λ (x : Slot). not (eqb x.tag 0)) ss)
  where
    step : (b : Bool) (n : ℕ) → cond (not b) 1 0 + n ≡ cond b n (suc n)
    step true n = omega arith
    step false n = omega arith

module _ {R : Type 0} (w : ℕ) where
  pub place_none : (x : Rec R) → x.tag ≡ 0 → place_of x ≡ None
  place_none x e = cond-true (eqb x.tag 0) None (Some x) (eq-eqb x.tag 0 e)

  pub place_some : (x : Rec R) → x.tag ≢ 0 → place_of x ≡ Some x
  place_some x ne = cond-false (eqb x.tag 0) None (Some x) (ne_eqb x.tag 0 ne)

  mapped_suc : (x : Rec R) (xs : List (Rec R)) (d : Rec R) (o : Option ℕ) → option_map (λ (k : ℕ). get_or xs k d) o ≡ option_map (λ (k : ℕ). get_or (x ∷ xs) k d) (option_map suc o)
  mapped_suc x xs d None = refl
  mapped_suc x xs d (Some k) = refl

  -- the record of a tag is in the first slot with that tag
  pub standing_slot : (t : ℕ) (d : Rec R) → t ≢ 0 → (ss : List Slot) (cs : List R)
      → standing t (places w ss cs) ≡ option_map (λ (k : ℕ). get_or (rows w ss cs) k d) (slot_of t ss)
  unfolding rows slot_of standing
  standing_slot t d nt [] cs = refl
  standing_slot t d nt (s ∷ ss) cs =
      go (cases_eq s.tag 0) (cases_eq s.tag t) (standing_slot t d nt ss (drop w cs))
      ∙ sym (ap (option_map (λ (k : ℕ). get_or (rows w (s ∷ ss) cs) k d)) (slot_of-cons t s ss))
    where
      later : (s.tag ≡ t → ⊥) → standing t (places w ss (drop w cs)) ≡ option_map (λ (k : ℕ). get_or (rows w ss (drop w cs)) k d) (slot_of t ss)
          → standing t (places w ss (drop w cs)) ≡ option_map (λ (k : ℕ). get_or (row_of s (take w cs) ∷ rows w ss (drop w cs)) k d) (cond (eqb s.tag t) (Some 0) (option_map suc (slot_of t ss)))
      later ne ih =
          ih
          ∙ mapped_suc (row_of s (take w cs)) (rows w ss (drop w cs)) d (slot_of t ss)
          ∙ ap (option_map (λ (k : ℕ). get_or (row_of s (take w cs) ∷ rows w ss (drop w cs)) k d)) (sym (cond-false (eqb s.tag t) (Some 0) (option_map suc (slot_of t ss)) (ne_eqb s.tag t ne)))

      go : (s.tag ≡ 0) ⊎ (s.tag ≢ 0) → (s.tag ≡ t) ⊎ (s.tag ≢ t) → standing t (places w ss (drop w cs)) ≡ option_map (λ (k : ℕ). get_or (rows w ss (drop w cs)) k d) (slot_of t ss)
          → standing t (place_of (row_of s (take w cs)) ∷ places w ss (drop w cs)) ≡ option_map (λ (k : ℕ). get_or (row_of s (take w cs) ∷ rows w ss (drop w cs)) k d) (cond (eqb s.tag t) (Some 0) (option_map suc (slot_of t ss)))
      go (inl z) c ih =
          ap (λ (p : Option (Rec R)). standing t (p ∷ places w ss (drop w cs))) (place_none (row_of s (take w cs)) z)
          ∙ later (λ e. nt (sym e ∙ z)) ih
      go (inr nz) (inl e) ih =
          ap (λ (p : Option (Rec R)). standing t (p ∷ places w ss (drop w cs))) (place_some (row_of s (take w cs)) nz)
          ∙ cond-true (eqb s.tag t) (Some (row_of s (take w cs))) (standing t (places w ss (drop w cs))) (eq-eqb s.tag t e)
          ∙ ap (option_map (λ (k : ℕ). get_or (row_of s (take w cs) ∷ rows w ss (drop w cs)) k d)) (sym (cond-true (eqb s.tag t) (Some 0) (option_map suc (slot_of t ss)) (eq-eqb s.tag t e)))
      go (inr nz) (inr ne) ih =
          ap (λ (p : Option (Rec R)). standing t (p ∷ places w ss (drop w cs))) (place_some (row_of s (take w cs)) nz)
          ∙ cond-false (eqb s.tag t) (Some (row_of s (take w cs))) (standing t (places w ss (drop w cs))) (ne_eqb s.tag t ne)
          ∙ later ne ih

  pub occupied_used : (ss : List Slot) (cs : List R) → occupied (places w ss cs) ≡ used ss
  unfolding occupied rows used
  occupied_used [] cs = refl
  occupied_used (s ∷ ss) cs = go (cases_eq s.tag 0) (occupied_used ss (drop w cs)) ∙ sym (used-cons s ss)
    where
      go : (s.tag ≡ 0) ⊎ (s.tag ≢ 0) → occupied (places w ss (drop w cs)) ≡ used ss
          → occupied (place_of (row_of s (take w cs)) ∷ places w ss (drop w cs)) ≡ cond (eqb s.tag 0) (used ss) (suc (used ss))
      go (inl z) ih =
          ap (λ (p : Option (Rec R)). occupied (p ∷ places w ss (drop w cs))) (place_none (row_of s (take w cs)) z)
          ∙ ih ∙ sym (cond-true (eqb s.tag 0) (used ss) (suc (used ss)) (eq-eqb s.tag 0 z))
      go (inr nz) ih =
          ap (λ (p : Option (Rec R)). occupied (p ∷ places w ss (drop w cs))) (place_some (row_of s (take w cs)) nz)
          ∙ ap suc ih ∙ sym (cond-false (eqb s.tag 0) (used ss) (suc (used ss)) (ne_eqb s.tag 0 nz))

  pub lowest_places : (a : ℕ) (ss : List Slot) (cs : List R) → lowest_above a (places w ss cs) ≡ lowest_tag a ss
  unfolding lowest_above rows lowest_tag
  lowest_places a [] cs = refl
  lowest_places a (s ∷ ss) cs = go (cases_eq s.tag 0) (lowest_places a ss (drop w cs))
    where
      never : (b : ℕ) → b ≡ 0 → ltb a b ≡ false
      never b e = le-ltb a b (omega arith)

      go : (s.tag ≡ 0) ⊎ (s.tag ≢ 0) → lowest_above a (places w ss (drop w cs)) ≡ lowest_tag a ss
          → lowest_above a (place_of (row_of s (take w cs)) ∷ places w ss (drop w cs)) ≡ lower (when (ltb a s.tag) s.tag) (lowest_tag a ss)
      go (inl z) ih =
          ap (λ (p : Option (Rec R)). lowest_above a (p ∷ places w ss (drop w cs))) (place_none (row_of s (take w cs)) z)
          ∙ ih ∙ sym (ap (λ (b : Bool). lower (when b s.tag) (lowest_tag a ss)) (never s.tag z))
      go (inr nz) ih =
          ap (λ (p : Option (Rec R)). lowest_above a (p ∷ places w ss (drop w cs))) (place_some (row_of s (take w cs)) nz)
          ∙ ap (lower (when (ltb a s.tag) s.tag)) ih

-- the slot that is found has the tag, and lies within
pub slot_found : (t : ℕ) (ss : List Slot) (k : ℕ) → slot_of t ss ≡ Some k → (k < length ss) × ((get_or ss k no_slot).tag ≡ t)
unfolding slot_of
slot_found t [] k e = cc
slot_found t (s ∷ ss) k e = go (cases_eq s.tag t) (slot_of t ss) refl (λ j f. slot_found t ss j f)
  where
    go : (s.tag ≡ t) ⊎ (s.tag ≢ t) → (o : Option ℕ) → slot_of t ss ≡ o → ((j : ℕ) → slot_of t ss ≡ Some j → (j < length ss) × ((get_or ss j no_slot).tag ≡ t))
        → (k < length (s ∷ ss)) × ((get_or (s ∷ ss) k no_slot).tag ≡ t)
    go (inl h) o f ih =
        let z = sym e ∙ slot_of-cons t s ss ∙ cond-true (eqb s.tag t) (Some 0) (option_map suc (slot_of t ss)) (eq-eqb s.tag t h) in
        let n : k ≡ 0 = cc in
        (omega arith, ap (λ (j : ℕ). (get_or (s ∷ ss) j no_slot).tag) n ∙ h)
    go (inr ne) None f ih =
        let z = sym e ∙ slot_of-cons t s ss ∙ cond-false (eqb s.tag t) (Some 0) (option_map suc (slot_of t ss)) (ne_eqb s.tag t ne) ∙ ap (option_map suc) f in
        cc
    go (inr ne) (Some j) f ih =
        let z = sym e ∙ slot_of-cons t s ss ∙ cond-false (eqb s.tag t) (Some 0) (option_map suc (slot_of t ss)) (ne_eqb s.tag t ne) ∙ ap (option_map suc) f in
        let n : k ≡ suc j = cc in
        let r = ih j f in
        (omega (arith, r.0), ap (λ (i : ℕ). (get_or (s ∷ ss) i no_slot).tag) n ∙ r.1)
