-- What a valid book's memory is, as facts.
use Rattle.std.proofs.Common.{◌≡◌, ℕ, ◌*◌, ◌≤◌, Bool, true, not, ◌&&◌, eqb, leb, List, [], ◌∷◌, length, is_some, Some, None, Option, refl, ap}
use Rattle.books.specs.Gathered.{Distinct, standing}
use Rattle.books.specs.Meanings.{Rec}
use Rattle.slot_book.specs.Slots.{apart, fit_slots, places, right_slot, valid_slots}
use Rattle.slot_book.specs.declared.slots.Slot.{Slot}
use Rattle.std.proofs.lemmas.Bool.{and_from, and_parts, eq-eqb, eqb-true, le-leb, leb-true}
use Rattle.std.specs.List.{AllByRecursion as Every, list_all}

pub record Facts {R : Type 0} (ss : List Slot) (cs : List R) (w : ℕ) : Type 0 where
  pub wide : (1 ≤ w) × (w ≤ 24)
  pub roomy : length ss ≤ 64
  pub long : length cs ≡ length ss * w
  pub right : Every (λ s. right_slot s ≡ true) ss
  pub distinct : Distinct (places w ss cs)

module _ {X : Type 0} (test : X → Bool) where
  pub all_every : (xs : List X) → list_all test xs ≡ true → Every (λ x. test x ≡ true) xs
  all_every [] e = tt
  all_every (x ∷ xs) e = let r = and_parts (test x) (list_all test xs) e in (r.0, all_every xs r.1)

  pub every_all : (xs : List X) → Every (λ x. test x ≡ true) xs → list_all test xs ≡ true
  every_all [] h = refl
  every_all (x ∷ xs) (p, h) = and_from (test x) (list_all test xs) p (every_all xs h)

module _ {R : Type 0} where
  none_from : (o : Option (Rec R)) → not (is_some o) ≡ true → o ≡ None
  none_from None e = refl
  none_from (Some x) e = cc

  pub distinct_apart : (ps : List (Option (Rec R))) → apart ps ≡ true → Distinct ps
  unfolding apart Distinct
  distinct_apart [] e = tt
  distinct_apart (None ∷ ps) e = distinct_apart ps e
  distinct_apart (Some x ∷ ps) e =
      let r = and_parts (not (is_some (standing x.tag ps))) (apart ps) e in
      (none_from (standing x.tag ps) r.0, distinct_apart ps r.1)

  pub apart_distinct : (ps : List (Option (Rec R))) → Distinct ps → apart ps ≡ true
  unfolding apart Distinct
  apart_distinct [] d = refl
  apart_distinct (None ∷ ps) d = apart_distinct ps d
  apart_distinct (Some x ∷ ps) (n, d) =
      and_from (not (is_some (standing x.tag ps))) (apart ps) (ap (λ (o : Option (Rec R)). not (is_some o)) n) (apart_distinct ps d)

  module _ (ss : List Slot) (cs : List R) (w : ℕ) where
    pub facts : valid_slots ss cs w ≡ true → Facts ss cs w
    unfolding valid_slots
    facts e =
        let a = and_parts (fit_slots ss cs w) (list_all right_slot ss && apart (places w ss cs)) e in
        let b = and_parts (leb 1 w && leb w 24) (leb (length ss) 64 && eqb (length cs) (length ss * w)) a.0 in
        let c = and_parts (leb 1 w) (leb w 24) b.0 in
        let d = and_parts (leb (length ss) 64) (eqb (length cs) (length ss * w)) b.1 in
        let f = and_parts (list_all right_slot ss) (apart (places w ss cs)) a.1 in
        record {
          wide = (leb-true 1 w c.0, leb-true w 24 c.1);
          roomy = leb-true (length ss) 64 d.0;
          long = eqb-true (length cs) (length ss * w) d.1;
          right = all_every right_slot ss f.0;
          distinct = distinct_apart (places w ss cs) f.1;
        }

    pub valid_from : Facts ss cs w → valid_slots ss cs w ≡ true
    unfolding valid_slots
    valid_from v =
        and_from (fit_slots ss cs w) (list_all right_slot ss && apart (places w ss cs))
        (and_from (leb 1 w && leb w 24) (leb (length ss) 64 && eqb (length cs) (length ss * w))
        (and_from (leb 1 w) (leb w 24) (le-leb 1 w v.wide.0) (le-leb w 24 v.wide.1))
        (and_from (leb (length ss) 64) (eqb (length cs) (length ss * w)) (le-leb (length ss) 64 v.roomy) (eq-eqb (length cs) (length ss * w) v.long)))
        (and_from (list_all right_slot ss) (apart (places w ss cs)) (every_all right_slot ss v.right) (apart_distinct (places w ss cs) v.distinct))
