-- A page's records as places: each by its number, found by tag, and sound as a book.
use Rattle.std.proofs.Common.{◌≡◌, ℕ, suc, ◌+◌, ◌*◌, ◌<◌, true, false, eqb, leb, ◌≢◌, List, [], ◌∷◌, length, get_or, Some, None, Option, sym, refl, ap, ◌∙◌, subst, inl, inr, arith}
use Rattle.books.proofs.Gathering.{Of, gathered_all, gathered_find, gathered_length, gathered_rising, occupied_few}
use Rattle.books.specs.Gathered.{Distinct, gathered, standing}
use Rattle.books.specs.Meanings.{BlankFrom, Fits, Rec, Sound}
use Rattle.books.specs.Questions.{find}
use Rattle.page_book.specs.LowestFacts.{false_by, found_at, none_below, true_by}
use Rattle.page_book.specs.Standing.{Off, distinct_from, standing_first, standing_none}
use Rattle.page_book.specs.Valid.{valid_byte, valid_formed}
use Rattle.page_book.specs.Kept.{no_room, opened_meaning}
use Rattle.page_book.specs.Layout.{WellFormed, code_at, part_at, records_in, tag_at}
use Rattle.page_book.specs.Lowest.{lowest}
use Rattle.page_book.specs.Places.{codes_at, page_meaning, place_at, place_of, places, record_at, valid}
use Rattle.page_book.specs.Refused.{refused_page, same_tag}
use Rattle.readings.specs.Codes.{codes}
use Rattle.refusals.specs.Faults.{leaves, passed}
use Rattle.books.specs.declared.faults.BookFault.{BookFault}
use Rattle.std.specs.Prelude.{is_err}
use Rattle.std.proofs.lemmas.List.FromFn.{get_or-map-range_with_len, length-map-range_with_len}
use Rattle.std.proofs.ByRecursion.{All-from_get_or}
use Rattle.std.proofs.lemmas.Bool.{and_from, cases_eq, cond-false, cond-true, eq-eqb, eqb-false, eqb-true, le-leb, ne_eqb}
use Rattle.std.specs.Option.{option_map}

module _ (page : List ℕ) (width : ℕ) where
  pub length_codes : (k : ℕ) → length (codes_at page width k) ≡ width
  unfolding codes_at
  length_codes k = length-map-range_with_len (code_at page k) 0 width

  pub code_is : (k j d : ℕ) → j < width → get_or (codes_at page width k) j d ≡ code_at page k j
  unfolding codes_at
  code_is k j d l = get_or-map-range_with_len (code_at page k) 0 width j j d l (omega arith)

  pub length_places : length (places page width) ≡ records_in page
  unfolding places
  length_places = length-map-range_with_len (place_at page width) 0 (records_in page)

  pub place_is : (k : ℕ) → k < records_in page → get_or (places page width) k None ≡ place_at page width k
  unfolding places
  place_is k l = get_or-map-range_with_len (place_at page width) 0 (records_in page) k k None l (omega arith)

  pub place_free : (k : ℕ) → tag_at page k ≡ 0 → place_at page width k ≡ None
  unfolding place_at
  place_free k e = cond-true (eqb (tag_at page k) 0) None (Some (record_at page width k)) (eq-eqb (tag_at page k) 0 e)

  pub place_used : (k : ℕ) → tag_at page k ≢ 0 → place_at page width k ≡ Some (record_at page width k)
  unfolding place_at
  place_used k n = cond-false (eqb (tag_at page k) 0) None (Some (record_at page width k)) (ne_eqb (tag_at page k) 0 n)

  -- a place has what holds of the record, where that is in use
  pub of_place : (P : Rec ℕ → Type 0) (k : ℕ) → (tag_at page k ≢ 0 → P (record_at page width k)) → Of P (place_at page width k)
  of_place P k h =
      elim (cases_eq (tag_at page k) 0) [
        | inl e ↦ subst (Of P) (sym (place_free k e)) tt
        | inr n ↦ subst (Of P) (sym (place_used k n)) (h n)
      ]

  pub of_places : (P : Rec ℕ → Type 0) (k : ℕ) → k < records_in page → (tag_at page k ≢ 0 → P (record_at page width k)) → Of P (get_or (places page width) k None)
  of_places P k l h = subst (Of P) (sym (place_is k l)) (of_place P k h)

  pub place_some : (k : ℕ) (x : Rec ℕ) → place_at page width k ≡ Some x → (tag_at page k ≢ 0) × (record_at page width k ≡ x)
  place_some k x h =
      elim (cases_eq (tag_at page k) 0) [
        | inl e ↦ (let q = sym (place_free k e) ∙ h in cc)
        | inr n ↦ (n, (let q = sym (place_used k n) ∙ h in cc))
      ]

  pub distinct_places : WellFormed page width → Distinct (places page width)
  distinct_places w = distinct_from (places page width) apart
    where
      apart : (i k : ℕ) (x : Rec ℕ) → i < k → k < length (places page width) → get_or (places page width) i None ≡ Some x → Off x.tag (get_or (places page width) k None)
      apart i k x l m e =
          let m' : k < records_in page = omega (arith, length_places) in
          let i' : i < records_in page = omega arith in
          let p = place_some i x (sym (place_is i i') ∙ e) in
          of_places (λ y. y.tag ≢ x.tag) k m' (λ n s. w.3 k m' (n, (i, l, ap (λ (r : Rec ℕ). r.tag) p.1 ∙ sym s)))

  -- ---- the record of a tag

  pub place_found : (tag k : ℕ) → place_of page tag ≡ Some k → (tag ≢ 0) × (k < records_in page) × (tag_at page k ≡ tag) × ((i : ℕ) → i < k → tag_at page i ≢ tag)
  unfolding place_of
  place_found tag k h =
      elim (cases_eq tag 0) [
        | inl e ↦ (let q = sym (cond-true (eqb tag 0) None (lowest (same_tag page tag) (records_in page)) (eq-eqb tag 0 e)) ∙ h in cc)
        | inr n ↦
            (let q = sym (cond-false (eqb tag 0) None (lowest (same_tag page tag) (records_in page)) (ne_eqb tag 0 n)) ∙ h in
            let p = found_at (same_tag page tag) (records_in page) k q in
            let t = true_by _ p.0 k p.2 in
            let same : p.0 ≡ k = t.1 in (
              n,
              omega arith,
              ap (tag_at page) (sym same) ∙ eqb-true _ _ t.0,
              λ i l. eqb-false _ _ (false_by _ i (none_below (same_tag page tag) p.0 p.3 i (omega arith))),
            ))
      ]

  pub place_absent : (tag : ℕ) → place_of page tag ≡ None → tag ≢ 0 → (i : ℕ) → i < records_in page → tag_at page i ≢ tag
  unfolding place_of
  place_absent tag h n i l =
      let q = sym (cond-false (eqb tag 0) None (lowest (same_tag page tag) (records_in page)) (ne_eqb tag 0 n)) ∙ h in
      eqb-false _ _ (false_by _ i (none_below (same_tag page tag) (records_in page) q i l))

  pub place_zero : (tag : ℕ) → tag ≡ 0 → place_of page tag ≡ None
  unfolding place_of
  place_zero tag e = cond-true (eqb tag 0) None (lowest (same_tag page tag) (records_in page)) (eq-eqb tag 0 e)

  pub place_lowest : (tag : ℕ) → tag ≢ 0 → place_of page tag ≡ lowest (same_tag page tag) (records_in page)
  unfolding place_of
  place_lowest tag n = cond-false (eqb tag 0) None (lowest (same_tag page tag) (records_in page)) (ne_eqb tag 0 n)

  pub find_places : WellFormed page width → (tag : ℕ) → find tag (gathered (places page width)) ≡ option_map (record_at page width) (place_of page tag)
  find_places w tag = gathered_find tag (places page width) (distinct_places w) ∙ go (place_of page tag) refl
    where
      off : (i : ℕ) → i < records_in page → (tag_at page i ≢ 0 → tag_at page i ≢ tag) → Off tag (get_or (places page width) i None)
      off i l h = of_places (λ y. y.tag ≢ tag) i l h

      go : (o : Option ℕ) → place_of page tag ≡ o → standing tag (places page width) ≡ option_map (record_at page width) o
      go None e = standing_none tag (places page width) (λ i l. off i (omega (arith, length_places)) (λ n s. place_absent tag e (λ z. n (s ∙ z)) i (omega (arith, length_places)) s))
      go (Some k) e =
          let p = place_found tag k e in
          standing_first tag (places page width) k (record_at page width k)
          (place_is k p.1 ∙ place_used k (λ z. p.0 (sym p.2 ∙ z))) p.2
          (λ i l. off i (omega (arith, p.1)) (λ _. p.3 i l))

  pub standing_places : WellFormed page width → (tag k : ℕ) → place_of page tag ≡ Some k → standing tag (places page width) ≡ Some (record_at page width k)
  standing_places w tag k e =
      sym (gathered_find tag (places page width) (distinct_places w)) ∙ find_places w tag ∙ ap (option_map (record_at page width)) e

  -- ---- sound as a book

  open_blank : (n : ℕ) (xs : List ℕ) → BlankFrom codes (λ _. false) n xs
  open_blank n [] = tt
  open_blank n (x ∷ xs) = ((λ e. cc), open_blank (suc n) xs)

  record_fits : valid page width ≡ true → (k : ℕ) → k < records_in page → tag_at page k ≢ 0 → Fits codes width (λ _. false) (record_at page width k)
  record_fits v k l n =
      let p = (((valid_formed page width v).2 k l 2 (omega arith)).1 n).0 refl in
      record {
        tagged = (omega arith, omega (arith, valid_byte page width v (32 * k + 0), valid_byte page width v (32 * k + 1)));
        parted = and_from (leb 1 (part_at page k)) (leb (part_at page k) 250) (le-leb _ _ p.0) (le-leb _ _ p.1);
        full = length_codes k;
        blank = open_blank 1 (codes_at page width k);
      }

  pub page_sound : valid page width ≡ true → Sound codes (page_meaning page width)
  page_sound v =
      let w = valid_formed page width v in
      record {
        wide = w.0;
        roomy = omega (arith, w.1.0);
        fitting = omega (arith, gathered_length (places page width), occupied_few (places page width), length_places);
        tests = λ t e. cc;
        parts = λ t e. cc;
        rising = gathered_rising (places page width) (distinct_places w);
        records =
            gathered_all (Fits codes width (λ _. false)) (places page width)
            (All-from_get_or (Of (Fits codes width (λ _. false))) (places page width) None
            (λ i l. let m : i < records_in page = omega (arith, length_places) in of_places (Fits codes width (λ _. false)) i m (record_fits v i m)));
      }

-- an empty page holds nothing
pub empty_means : page_meaning [] 1 ≡ no_room
unfolding places gathered
empty_means = refl

-- so does a page that the check refuses, opened
pub opened_refused : (page : List ℕ) (width : ℕ) → is_err (passed (refused_page page width)) ≡ true → page_meaning [] 1 ≡ opened_meaning page width
opened_refused page width h = empty_means ∙ sym (go (refused_page page width) h)
  where
    go : (o : Option BookFault) → is_err (passed o) ≡ true → leaves o no_room (page_meaning page width) ≡ no_room
    go (Some fault) e = refl
    go None e = cc
