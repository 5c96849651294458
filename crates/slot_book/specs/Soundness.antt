-- What a valid book means is sound.
use Rattle.std.proofs.Common.{◌≡◌, ℕ, suc, ◌+◌, ◌*◌, true, false, ◌&&◌, eqb, leb, ◌≢◌, ◌⊎◌, List, [], ◌∷◌, length, take, drop, sym, ◌∙◌, subst, inl, inr, suc-mul, arith}
use Rattle.books.proofs.Gathering.{Of, gathered_all, gathered_length, gathered_rising, occupied_few}
use Rattle.books.specs.Meanings.{BlankFrom, Fits, Sound, is_part}
use Rattle.readings.specs.Kinds.{Kind}
use Rattle.slot_book.specs.Rows.{length_places}
use Rattle.slot_book.specs.Standing.{place_none, place_some}
use Rattle.slot_book.specs.Valid.{facts}
use Rattle.slot_book.specs.Slots.{meaning, place_of, places, right_slot, row_of, rows, valid_slots}
use Rattle.slot_book.specs.declared.slots.Slot.{Slot}
use Rattle.std.proofs.lemmas.List.{length-drop, length-take-le}
use Rattle.std.proofs.lemmas.Bool.{and_parts, cases_eq, cond-false, leb-true, ne_eqb}
use Rattle.std.specs.List.{AllByRecursion as Every}

module _ {R : Type 0} where
  blank_open : (kind : Kind R) (n : ℕ) (xs : List R) → BlankFrom kind (λ _. false) n xs
  blank_open kind n [] = tt
  blank_open kind n (x ∷ xs) = ((λ e. cc), blank_open kind (suc n) xs)

  -- every record of a slot fits
  pub places_fit : (kind : Kind R) (w : ℕ) (ss : List Slot) (cs : List R) → length cs ≡ length ss * w → Every (λ s. right_slot s ≡ true) ss
      → Every (Of (Fits kind w (λ _. false))) (places w ss cs)
  unfolding rows
  places_fit kind w [] cs e h = tt
  places_fit kind w (s ∷ ss) cs e (p, h) = (go (cases_eq s.tag 0), places_fit kind w ss (drop w cs) rest h)
    where
      long : length cs ≡ length ss * w + w
      long = e ∙ suc-mul (length ss) w

      rest : length (drop w cs) ≡ length ss * w
      rest = omega (arith, length-drop w cs, long)

      go : (s.tag ≡ 0) ⊎ (s.tag ≢ 0) → Of (Fits kind w (λ _. false)) (place_of (row_of s (take w cs)))
      go (inl z) = subst (Of (Fits kind w (λ _. false))) (sym (place_none w (row_of s (take w cs)) z)) tt
      go (inr nz) =
          let r = and_parts (leb s.tag 65535) (is_part s.part) (sym (cond-false (eqb s.tag 0) (eqb s.part 0) (leb s.tag 65535 && is_part s.part) (ne_eqb s.tag 0 nz)) ∙ p) in
          subst (Of (Fits kind w (λ _. false))) (sym (place_some w (row_of s (take w cs)) nz))
          (record {
            tagged = (omega arith, leb-true s.tag 65535 r.0);
            parted = r.1;
            full = length-take-le w cs (omega (arith, long));
            blank = blank_open kind 1 (take w cs);
          })

  module _ (ss : List Slot) (cs : List R) (w : ℕ) (v : valid_slots ss cs w ≡ true) where
    pub book_sound : (kind : Kind R) → Sound kind (meaning w ss cs)
    book_sound kind =
        let f = facts ss cs w v in
        record {
          wide = f.wide;
          roomy = f.roomy;
          fitting = omega (arith, gathered_length (places w ss cs), occupied_few (places w ss cs), length_places w ss cs);
          tests = λ t e. cc;
          parts = λ t e. cc;
          rising = gathered_rising (places w ss cs) f.distinct;
          records = gathered_all (Fits kind w (λ _. false)) (places w ss cs) (places_fit kind w ss cs f.long f.right);
        }
