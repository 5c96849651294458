-- What a valid book answers.
use Rattle.std.proofs.Common.{◌≡◌, ℕ, zero, suc, ◌+◌, ◌-◌, ◌*◌, ◌<◌, ◌≤◌, Bool, true, false, cond, eqb, ◌≢◌, ◌⊎◌, List, [], ◌∷◌, length, get_or, take, drop, Some, None, Option, sym, refl, ap, ◌∙◌, inl, inr, mul-le-mul, arith}
use Rattle.books.proofs.Gathering.{gathered_find, gathered_length, gathered_next}
use Rattle.books.specs.Gathered.{gathered, standing}
use Rattle.books.specs.Meanings.{Fits, Rec}
use Rattle.books.specs.Questions.{find, next_tag, reading_at, reading_in}
use Rattle.readings.specs.Kinds.{Kind}
use Rattle.slot_book.specs.Rows.{get_d_rows, length_cells, within}
use Rattle.slot_book.specs.Soundness.{book_sound}
use Rattle.slot_book.specs.Standing.{lowest_places, occupied_used, place_none, place_some, slot_found, standing_slot}
use Rattle.slot_book.specs.Valid.{facts}
use Rattle.slot_book.specs.Found.{lowest_tag, slot_of, used}
use Rattle.slot_book.specs.Slots.{cells_of, no_slot, place_of, places, row_of, rows, valid_slots}
use Rattle.slot_book.specs.declared.slots.Slot.{Slot}
use Rattle.std.proofs.ByRecursion.{All-weaker}
use Rattle.std.proofs.lemmas.List.{get_or-drop, get_or-take}
use Rattle.std.proofs.lemmas.Bool.{cases_eq, cond-false, ne_eqb}
use Rattle.std.specs.Option.{option_map}
use Rattle.std.specs.List.{AllByRecursion as Every}

module _ {R : Type 0} where
  pub standing_zero : (w : ℕ) (ss : List Slot) (cs : List R) → standing 0 (places w ss cs) ≡ None
  unfolding rows standing
  standing_zero w [] cs = refl
  standing_zero w (s ∷ ss) cs = go (cases_eq s.tag 0) (standing_zero w ss (drop w cs))
    where
      go : (s.tag ≡ 0) ⊎ (s.tag ≢ 0) → standing 0 (places w ss (drop w cs)) ≡ None → standing 0 (place_of (row_of s (take w cs)) ∷ places w ss (drop w cs)) ≡ None
      go (inl z) ih = ap (λ (p : Option (Rec R)). standing 0 (p ∷ places w ss (drop w cs))) (place_none w (row_of s (take w cs)) z) ∙ ih
      go (inr nz) ih =
          ap (λ (p : Option (Rec R)). standing 0 (p ∷ places w ss (drop w cs))) (place_some w (row_of s (take w cs)) nz)
          ∙ cond-false (eqb s.tag 0) (Some (row_of s (take w cs))) (standing 0 (places w ss (drop w cs))) (ne_eqb s.tag 0 nz)
          ∙ ih

  module _ (ss : List Slot) (cs : List R) (w : ℕ) (v : valid_slots ss cs w ≡ true) where
    pub book_held : length (gathered (places w ss cs)) ≡ used ss
    book_held = gathered_length (places w ss cs) ∙ occupied_used w ss cs

    pub book_next : (a : ℕ) → next_tag a (gathered (places w ss cs)) ≡ lowest_tag a ss
    book_next a = gathered_next a (places w ss cs) ∙ lowest_places w a ss cs

    -- the record of a tag is found in the first slot with the tag
    pub book_find : (t : ℕ) → t ≢ 0 → find t (gathered (places w ss cs)) ≡ option_map (λ (k : ℕ). row_of (get_or ss k no_slot) (cells_of w k cs)) (slot_of t ss)
    book_find t nt =
        let d : Rec R = row_of no_slot [] in
        gathered_find t (places w ss cs) (facts ss cs w v).distinct
        ∙ standing_slot w t d nt ss cs
        ∙ go d (slot_of t ss) (λ k e. (slot_found t ss k e).0)
      where
        go : (d : Rec R) (o : Option ℕ) → ((k : ℕ) → o ≡ Some k → k < length ss)
            → option_map (λ (k : ℕ). get_or (rows w ss cs) k d) o ≡ option_map (λ (k : ℕ). row_of (get_or ss k no_slot) (cells_of w k cs)) o
        go d None h = refl
        go d (Some k) h = ap Some (get_d_rows w ss cs k d (h k refl))

    -- no record has tag 0
    pub book_zero : (t : ℕ) → t ≡ 0 → find t (gathered (places w ss cs)) ≡ None
    book_zero t e =
        ap (λ (n : ℕ). find n (gathered (places w ss cs))) e ∙ gathered_find 0 (places w ss cs) (facts ss cs w v).distinct ∙ standing_zero w ss cs

    -- the slots are few
    pub book_few : length ss ≤ 64
    book_few = (facts ss cs w v).roomy

    -- the cells of a slot are within
    pub book_inside : (k : ℕ) → k < length ss → k * w + w ≤ length cs
    book_inside k l = omega (arith, within w (length ss) k l, (facts ss cs w v).long)

    -- the cells are few
    pub book_small : length cs ≤ 1536
    book_small = let f = facts ss cs w v in omega (arith, f.long, mul-le-mul f.roomy f.wide.1)

  -- ---- a reading by its test

  pub reading_here : (test : ℕ) (xs : List R) (d : R) → test < length xs → reading_at (suc test) xs ≡ Some (get_or xs test d)
  unfolding reading_at
  reading_here test [] d l = absurd (omega arith)
  reading_here zero (x ∷ xs) d l = refl
  reading_here (suc test) (x ∷ xs) d l = reading_here test xs d (omega (arith, l))

  pub reading_past : (test : ℕ) (xs : List R) → length xs < test → reading_at test xs ≡ None
  unfolding reading_at
  reading_past zero xs l = refl
  reading_past (suc test) [] l = refl
  reading_past (suc zero) (x ∷ xs) l = absurd (omega arith)
  reading_past (suc (suc test)) (x ∷ xs) l = reading_past (suc test) xs (omega (arith, l))

  pub reading_zero : (xs : List R) → reading_at 0 xs ≡ None
  unfolding reading_at
  reading_zero xs = refl

  -- outside the width no record has a reading
  pub reading_none : (w test : ℕ) (xs : List (Rec R)) (t : ℕ) → Every (λ x. length x.readings ≡ w) xs → (test < 1) ⊎ (w < test)
      → reading_in test (find t xs) ≡ None
  unfolding find
  reading_none w test [] t h o = refl
  reading_none w test (x ∷ xs) t (p, h) o = go (eqb x.tag t) (reading_none w test xs t h o)
    where
      outside : (test < 1) ⊎ (w < test) → reading_at test x.readings ≡ None
      outside (inl l) = let z : test ≡ 0 = omega arith in ap (λ (n : ℕ). reading_at n x.readings) z ∙ reading_zero x.readings
      outside (inr l) = reading_past test x.readings (omega (arith, p))

      go : (b : Bool) → reading_in test (find t xs) ≡ None → reading_in test (cond b (Some x) (find t xs)) ≡ None
      go true ih = outside o
      go false ih = ih

  module _ (ss : List Slot) (cs : List R) (w : ℕ) (v : valid_slots ss cs w ≡ true) where
    pub reading_outside : Kind R → (t test : ℕ) → (test < 1) ⊎ (w < test) → reading_in test (find t (gathered (places w ss cs))) ≡ None
    reading_outside kind t test o =
        reading_none w test (gathered (places w ss cs)) t
        (All-weaker (Fits kind w (λ _. false)) (λ x. length x.readings ≡ w) (λ x f. f.full) (gathered (places w ss cs)) (book_sound ss cs w v kind).records)
        o

    -- a cell of a slot is its reading at a test
    pub cell_read : (k test : ℕ) (d : R) → k < length ss → 1 ≤ test → test ≤ w → reading_at test (cells_of w k cs) ≡ Some (get_or cs (k * w + (test - 1)) d)
    cell_read k test d i l m =
        let n = length_cells w cs k (book_inside ss cs w v k i) in
        let j : test - 1 < w = omega arith in
        let q : suc (test - 1) ≡ test = omega arith in
        ap (λ (n : ℕ). reading_at n (cells_of w k cs)) (sym q)
        ∙ reading_here (test - 1) (cells_of w k cs) d (omega (arith, n))
        ∙ ap Some (get_or-take w (drop (k * w) cs) (test - 1) d j ∙ get_or-drop (k * w) cs (test - 1) d)
