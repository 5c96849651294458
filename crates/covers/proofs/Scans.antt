-- One pass over the rows: what is done so far, joined with the rows that are left, stays the whole.
use Rattle.std.proofs.Common.{◌≡◌, ℕ, ◌+◌, ◌<◌, ◌≤◌, max, Bool, true, false, ◌&&◌, List, [], ◌∷◌, length, get_or, drop, sym, refl, ap, ◌∙◌, arith}
use Rattle.sets.proofs.Bits.{bit_ext, bit_of_or}
use Rattle.covers.specs.Plans.{core_of, covers, owned}
use Rattle.sets.specs.Sets.{alone, meets}
use Rattle.sets.specs.Sets.{bit}
use Rattle.std.proofs.lemmas.List.{at_drop_all, at_drop_more}
use lib.Bits.{bit_and, bit_or, or_zero_r}

both_assoc : (a b c : Bool) → (a && b && c) ≡ (a && (b && c))
both_assoc true b c = refl
both_assoc false b c = refl

or_assoc : (a b c : ℕ) → bit_or (bit_or a b) c ≡ bit_or a (bit_or b c)
or_assoc a b c = bit_ext (bit_or (bit_or a b) c) (bit_or a (bit_or b c)) same
  where
    same : (j : ℕ) → bit j (bit_or (bit_or a b) c) ≡ bit j (bit_or a (bit_or b c))
    same j =
        let l : bit j (bit_or (bit_or a b) c) ≡ max (max (bit j a) (bit j b)) (bit j c) = bit_of_or j (bit_or a b) c ∙ ap (λ (x : ℕ). max x (bit j c)) (bit_of_or j a b) in
        let r : bit j (bit_or a (bit_or b c)) ≡ max (bit j a) (max (bit j b) (bit j c)) = bit_of_or j a (bit_or b c) ∙ ap (max (bit j a)) (bit_of_or j b c) in
        let m : max (max (bit j a) (bit j b)) (bit j c) ≡ max (bit j a) (max (bit j b) (bit j c)) = omega arith in
        l ∙ m ∙ sym r

module _ (rows : List ℕ) (i : ℕ) (inside : i < length rows) where
  pub covers_more : (s : ℕ) (so m whole : Bool) → m ≡ meets (get_or rows i 0) s → (so && covers (drop i rows) s) ≡ whole → (so && m && covers (drop (i + 1) rows) s) ≡ whole
  unfolding covers
  covers_more s so m whole e h = both_assoc so m (covers (drop (i + 1) rows) s) ∙ ap (λ (b : Bool). so && b) (sym step) ∙ h
    where
      step : covers (drop i rows) s ≡ (m && covers (drop (i + 1) rows) s)
      step = at_drop_more (λ (xs : List ℕ). covers xs s) rows i 0 inside ∙ ap (λ (b : Bool). b && covers (drop (i + 1) rows) s) (sym e)

  -- one more row in a union over the rows
  union_more : (F : List ℕ → ℕ) (f : ℕ → ℕ) → ((row : ℕ) (xs : List ℕ) → F (row ∷ xs) ≡ bit_or (f row) (F xs)) → (so x whole : ℕ) → x ≡ f (get_or rows i 0) → bit_or so (F (drop i rows)) ≡ whole → bit_or (bit_or so x) (F (drop (i + 1) rows)) ≡ whole
  union_more F f cons so x whole e h = or_assoc so x (F (drop (i + 1) rows)) ∙ ap (bit_or so) (sym step) ∙ h
    where
      step : F (drop i rows) ≡ bit_or x (F (drop (i + 1) rows))
      step = at_drop_more F rows i 0 inside ∙ cons (get_or rows i 0) (drop (i + 1) rows) ∙ ap (λ (y : ℕ). bit_or y (F (drop (i + 1) rows))) (sym e)

  pub owned_more : (s so x whole : ℕ) → x ≡ alone (bit_and (get_or rows i 0) s) → bit_or so (owned (drop i rows) s) ≡ whole → bit_or (bit_or so x) (owned (drop (i + 1) rows) s) ≡ whole
  unfolding owned
  owned_more s = union_more (λ (xs : List ℕ). owned xs s) (λ (row : ℕ). alone (bit_and row s)) (λ row xs. refl)

  pub core_more : (so x whole : ℕ) → x ≡ alone (get_or rows i 0) → bit_or so (core_of (drop i rows)) ≡ whole → bit_or (bit_or so x) (core_of (drop (i + 1) rows)) ≡ whole
  unfolding core_of
  core_more = union_more core_of alone (λ row xs. refl)

both_true_r : (a : Bool) → (a && true) ≡ a
both_true_r true = refl
both_true_r false = refl

module _ (rows : List ℕ) (i : ℕ) (past : length rows ≤ i) where
  pub covers_all : (s : ℕ) (so whole : Bool) → (so && covers (drop i rows) s) ≡ whole → so ≡ whole
  unfolding covers
  covers_all s so whole h = sym (ap (λ (b : Bool). so && b) (at_drop_all (λ (xs : List ℕ). covers xs s) rows i past) ∙ both_true_r so) ∙ h

  union_all : (F : List ℕ → ℕ) → F [] ≡ 0 → (so whole : ℕ) → bit_or so (F (drop i rows)) ≡ whole → so ≡ whole
  union_all F none so whole h = sym (ap (bit_or so) (at_drop_all F rows i past ∙ none) ∙ or_zero_r so) ∙ h

  pub owned_all : (s so whole : ℕ) → bit_or so (owned (drop i rows) s) ≡ whole → so ≡ whole
  unfolding owned
  owned_all s = union_all (λ (xs : List ℕ). owned xs s) refl

  pub core_all : (so whole : ℕ) → bit_or so (core_of (drop i rows)) ≡ whole → so ≡ whole
  unfolding core_of
  core_all = union_all core_of refl
