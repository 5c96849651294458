-- Opening: what the check finds, and what a book over emptied memory is.
use Rattle.std.proofs.Common.{◌≡◌, ℕ, zero, suc, ◌*◌, Bool, true, false, not, ◌&&◌, eqb, leb, List, [], ◌∷◌, length, drop, replicate, is_err, Some, None, Option, sym, refl, ap, ◌∙◌, arith}
use Rattle.books.specs.Gathered.{Distinct, gathered}
use Rattle.books.specs.declared.faults.BookFault.TheVariants.{Size, Width}
use Rattle.books.specs.declared.faults.BookFault.{BookFault}
use Rattle.refusals.specs.Faults.{or_else, passed, when}
use Rattle.slot_book.specs.Valid.{valid_from}
use Rattle.slot_book.specs.Opened.{refused_slots}
use Rattle.slot_book.specs.Slots.{apart, no_slot, places, right_slot, rows, valid_slots}
use Rattle.slot_book.specs.declared.slots.Slot.{Slot}
use Rattle.std.proofs.lemmas.List.{length-replicate}
use Rattle.std.proofs.lemmas.Bool.{and_parts, eqb-true, leb-true}
use Rattle.std.specs.List.{AllByRecursion as Every, FoldsTo}

pub none_ok : (o : Option BookFault) → is_err (passed o) ≡ false → o ≡ None
none_ok None e = refl
none_ok (Some f) e = cc

both_fit : (a b : Bool) → or_else (when (not a) Width) (when (not b) Size) ≡ None → (a && b) ≡ true
both_fit true true e = refl
both_fit true false e = cc
both_fit false b e = cc

-- steps that give one value alone give it each time
pub folds_same : {P A : Type 0} (step : P → A → P → Type 0) (x : A) (ys : List A) (p q : P) → FoldsTo step p ys q
    → ((u : P) (y : A) (v : P) → step u y v → y ≡ x) → (n : ℕ) → length ys ≡ n → ys ≡ replicate n x
folds_same step x [] p q f h n e = ap (λ (m : ℕ). replicate m x) e
folds_same {P} {A} step x (y ∷ ys) p q (j, s, f) h n e =
    ap (λ (z : A). z ∷ ys) (h p y j s)
    ∙ ap (λ (zs : List A). x ∷ zs) (folds_same step x ys j q f h (length ys) refl)
    ∙ ap (λ (m : ℕ). replicate m x) e

empty_right : (n : ℕ) → Every (λ s. right_slot s ≡ true) (replicate n no_slot)
empty_right zero = tt
empty_right (suc n) = (refl, empty_right n)

pub none_valid : (R : Type 0) → valid_slots {R = R} [] [] 1 ≡ true
unfolding valid_slots apart rows
none_valid R = refl

module _ {R : Type 0} where
  pub empty_gathered : (w n : ℕ) (cs : List R) → gathered (places w (replicate n no_slot) cs) ≡ []
  unfolding gathered rows
  empty_gathered w zero cs = refl
  empty_gathered w (suc n) cs = empty_gathered w n (drop w cs)

  empty_distinct : (w n : ℕ) (cs : List R) → Distinct (places w (replicate n no_slot) cs)
  unfolding Distinct rows
  empty_distinct w zero cs = tt
  empty_distinct w (suc n) cs = empty_distinct w n (drop w cs)

  pub empty_valid : (ss : List Slot) (cs : List R) (w : ℕ) (blank : R) → refused_slots ss cs w ≡ None
      → valid_slots (replicate (length ss) no_slot) (replicate (length cs) blank) w ≡ true
  empty_valid ss cs w blank e =
      let a = and_parts (leb 1 w && leb w 24) (leb (length ss) 64 && eqb (length cs) (length ss * w)) (both_fit (leb 1 w && leb w 24) (leb (length ss) 64 && eqb (length cs) (length ss * w)) e) in
      let b = and_parts (leb 1 w) (leb w 24) a.0 in
      let c = and_parts (leb (length ss) 64) (eqb (length cs) (length ss * w)) a.1 in
      valid_from (replicate (length ss) no_slot) (replicate (length cs) blank) w
      (record {
        wide = (leb-true 1 w b.0, leb-true w 24 b.1);
        roomy = omega (arith, leb-true (length ss) 64 c.0, length-replicate (length ss) no_slot);
        long = length-replicate (length cs) blank ∙ eqb-true (length cs) (length ss * w) c.1 ∙ ap (λ (n : ℕ). n * w) (sym (length-replicate (length ss) no_slot));
        right = empty_right (length ss);
        distinct = empty_distinct w (length ss) (replicate (length cs) blank);
      })

  -- what a book over emptied memory is valid by
  pub emptied_valid : (ss ts : List Slot) (cs ds : List R) (w : ℕ) (blank : R) → ts ≡ replicate (length ss) no_slot → ds ≡ replicate (length cs) blank
      → is_err (passed (refused_slots ss cs w)) ≡ false → valid_slots ts ds w ≡ true
  emptied_valid ss ts cs ds w blank e f o =
      ap (λ (xs : List Slot). valid_slots xs ds w) e
      ∙ ap (λ (xs : List R). valid_slots (replicate (length ss) no_slot) xs w) f
      ∙ empty_valid ss cs w blank (none_ok (refused_slots ss cs w) o)

  -- slots that are all empty hold no record
  pub none_gathered : (w : ℕ) (ss : List Slot) (cs : List R) → ss ≡ replicate (length ss) no_slot → gathered (places w ss cs) ≡ []
  none_gathered w ss cs e = ap (λ (xs : List Slot). gathered (places w xs cs)) e ∙ empty_gathered w (length ss) cs
