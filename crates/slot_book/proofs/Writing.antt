-- One slot and its cells written: what is left is a book, and what it means.
use Rattle.std.proofs.Common.{◌≡◌, ℕ, ◌*◌, ◌<◌, true, false, ◌≢◌, ◌⊎◌, List, [], ◌∷◌, length, get_or, take, drop, set, Some, None, Option, sym, refl, ap, ◌∙◌, subst, inl, inr, arith}
use Rattle.books.specs.Gathered.{Distinct, gathered, standing}
use Rattle.books.specs.Meanings.{Meaning, Rec}
use Rattle.slot_book.specs.Rows.{length_put, places_set, within}
use Rattle.slot_book.specs.Standing.{place_none, place_some, standing_slot}
use Rattle.slot_book.specs.Valid.{facts, valid_from}
use Rattle.slot_book.specs.Found.{slot_of}
use Rattle.slot_book.specs.Slots.{meaning, no_slot, place_of, places, put_cells, right_slot, row_of, rows, valid_slots}
use Rattle.slot_book.specs.declared.slots.Slot.{Slot}
use Rattle.std.proofs.ByRecursion.{All-set}
use Rattle.std.proofs.lemmas.List.{length-set}
use Rattle.std.proofs.lemmas.Bool.{cases_eq}
use Rattle.std.specs.Option.{option_map}

mapped_none : {A : Type 0} (f : ℕ → A) (o : Option ℕ) → option_map f o ≡ None → o ≡ None
mapped_none f None e = refl
mapped_none f (Some k) e = cc

module _ {R : Type 0} (w : ℕ) where
  -- whether a tag stands does not rest on the cells
  none_cells : (t : ℕ) → t ≢ 0 → (ss : List Slot) (cs ds : List R) → standing t (places w ss cs) ≡ None → standing t (places w ss ds) ≡ None
  none_cells t nt ss cs ds e =
      let d : Rec R = row_of no_slot [] in
      standing_slot w t d nt ss ds
      ∙ ap (option_map (λ (k : ℕ). get_or (rows w ss ds) k d)) (mapped_none (λ (k : ℕ). get_or (rows w ss cs) k d) (slot_of t ss) (sym (standing_slot w t d nt ss cs) ∙ e))

  pub distinct_cells : (ss : List Slot) (cs ds : List R) → Distinct (places w ss cs) → Distinct (places w ss ds)
  unfolding Distinct rows
  distinct_cells [] cs ds h = tt
  distinct_cells (s ∷ ss) cs ds h = go (cases_eq s.tag 0) (λ k. distinct_cells ss (drop w cs) (drop w ds) k)
    where
      go : (s.tag ≡ 0) ⊎ (s.tag ≢ 0) → (Distinct (places w ss (drop w cs)) → Distinct (places w ss (drop w ds)))
          → Distinct (place_of (row_of s (take w ds)) ∷ places w ss (drop w ds))
      go (inl z) f =
          let k : Distinct (None ∷ places w ss (drop w cs)) = subst (λ (p : Option (Rec R)). Distinct (p ∷ places w ss (drop w cs))) (place_none w (row_of s (take w cs)) z) h in
          subst (λ (p : Option (Rec R)). Distinct (p ∷ places w ss (drop w ds))) (sym (place_none w (row_of s (take w ds)) z)) (f k)
      go (inr nz) f =
          let k : Distinct (Some (row_of s (take w cs)) ∷ places w ss (drop w cs)) = subst (λ (p : Option (Rec R)). Distinct (p ∷ places w ss (drop w cs))) (place_some w (row_of s (take w cs)) nz) h in
          subst (λ (p : Option (Rec R)). Distinct (p ∷ places w ss (drop w ds))) (sym (place_some w (row_of s (take w ds)) nz))
          (none_cells s.tag nz ss (drop w cs) (drop w ds) k.0, f k.1)

module _ {R : Type 0} (ss : List Slot) (cs : List R) (w : ℕ) (v : valid_slots ss cs w ≡ true) where
  -- any cells will do, if there are as many
  pub valid_cells : (ds : List R) → length ds ≡ length cs → valid_slots ss ds w ≡ true
  valid_cells ds e =
      let f = facts ss cs w v in
      valid_from ss ds w
      (record { wide = f.wide; roomy = f.roomy; long = e ∙ f.long; right = f.right; distinct = distinct_cells w ss cs ds f.distinct })

  pub valid_set : (i : ℕ) (x : R) → valid_slots ss (set cs i x) w ≡ true
  valid_set i x = valid_cells (set cs i x) (length-set cs i x)

  pub valid_written : (k : ℕ) (s : Slot) (new : List R) → k < length ss → length new ≡ w → right_slot s ≡ true
      → Distinct (set (places w ss cs) k (place_of (row_of s new))) → valid_slots (set ss k s) (put_cells w k new cs) w ≡ true
  valid_written k s new l e r d =
      let f = facts ss cs w v in
      let n = length-set ss k s in
      valid_from (set ss k s) (put_cells w k new cs) w
      (record {
        wide = f.wide;
        roomy = omega (arith, f.roomy);
        long = length_put w cs new k (omega (arith, within w (length ss) k l, f.long)) e ∙ f.long ∙ ap (λ (m : ℕ). m * w) (sym n);
        right = All-set (λ x. right_slot x ≡ true) ss k s r f.right;
        distinct = subst Distinct (sym (places_set w ss cs k s new l f.long e)) d;
      })

  held_by : ℕ → List (Rec R) → Meaning R
  held_by n xs = record { width = w; capacity = n; closed_test = λ _. false; closed_part = λ _. false; held = xs }

  pub means_written : (k : ℕ) (s : Slot) (new : List R) (xs : List (Rec R)) → k < length ss → length new ≡ w
      → gathered (set (places w ss cs) k (place_of (row_of s new))) ≡ xs
      → meaning w (set ss k s) (put_cells w k new cs) ≡ record { width = w; capacity = length ss; closed_test = λ _. false; closed_part = λ _. false; held = xs }
  unfolding held_by
  means_written k s new xs l e h =
      ap (λ (n : ℕ). held_by n (gathered (places w (set ss k s) (put_cells w k new cs)))) (length-set ss k s)
      ∙ ap (λ (ys : List (Rec R)). held_by (length ss) ys) (ap gathered (places_set w ss cs k s new l (facts ss cs w v).long e) ∙ h)
