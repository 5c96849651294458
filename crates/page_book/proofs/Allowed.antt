-- What a change that is not refused tells.
use Rattle.std.proofs.Common.{◌≡◌, ℕ, ◌<◌, ◌≤◌, true, false, not, eqb, leb, ◌≢◌, List, length, is_some, Some, None, Option, sym, refl, ap, ◌∙◌, inl, inr, arith}
use Rattle.books.proofs.Gathering.{gathered_length, occupied_few, some_empty}
use Rattle.books.specs.Changes.{amend, enter, enter_arguments, enter_closed, enter_held, not_held, refused, withdraw}
use Rattle.books.specs.Gathered.{gathered, occupied}
use Rattle.books.specs.Meanings.{is_part}
use Rattle.books.specs.Questions.{find}
use Rattle.books.specs.declared.faults.BookFault.TheVariants.{Full, Held, NoTag, NotHeld, Part, Readings, Test}
use Rattle.page_book.specs.LowestFacts.{false_by, found_at, none_below, or_none, true_by}
use Rattle.page_book.specs.Paged.{find_places, length_places, place_is, place_used}
use Rattle.page_book.specs.Valid.{valid_formed}
use Rattle.page_book.specs.Layout.{records_in, tag_at}
use Rattle.page_book.specs.Lowest.{lowest}
use Rattle.page_book.specs.Places.{page_meaning, place_at, place_of, places, record_at, valid}
use Rattle.page_book.specs.Refused.{same_tag}
use Rattle.refusals.specs.Faults.{when}
use Rattle.readings.specs.Codes.{codes}
use Rattle.std.proofs.lemmas.Bool.{and_parts, cases_eq, cases_order, eqb-false, eqb-true, leb-true, not-false}
use Rattle.std.specs.Option.{option_map}

module _ (page : List ℕ) (width : ℕ) (v : valid page width ≡ true) where
  some_found : (tag : ℕ) → is_some (find tag (gathered (places page width))) ≡ true → place_of page tag ≢ None
  some_found tag h e =
      let q = ap is_some (find_places page width (valid_formed page width v) tag ∙ ap (option_map (record_at page width)) e) in
      let f : true ≡ false = sym h ∙ q in
      cc

  -- a tag that is held stands on the page
  held_by : (tag : ℕ) → not_held (page_meaning page width) tag ≡ None → place_of page tag ≢ None
  held_by tag h = some_found tag (not-false _ (false_by _ (NotHeld tag) h))

  pub amend_allowed : (tag test reading : ℕ) → refused codes (page_meaning page width) (amend tag test reading) ≡ None
      → (1 ≤ test) × (test ≤ width) × (place_of page tag ≢ None)
  amend_allowed tag test reading h =
      let a = (or_none _ _ h).1 in
      let b = or_none _ _ a in
      let t = and_parts (leb 1 test) (leb test width) (not-false _ (false_by _ (Test test) b.0)) in
      (leb-true 1 test t.0, leb-true test width t.1, held_by tag b.1)

  pub withdraw_allowed : (tag : ℕ) → refused codes (page_meaning page width) (withdraw tag) ≡ None → place_of page tag ≢ None
  withdraw_allowed tag h = held_by tag (or_none _ _ h).1

  none_found : (tag : ℕ) → is_some (find tag (gathered (places page width))) ≡ false → place_of page tag ≡ None
  none_found tag h = go (place_of page tag) refl
    where
      go : (o : Option ℕ) → place_of page tag ≡ o → place_of page tag ≡ None
      go None e = e
      go (Some k) e =
          let q = ap is_some (find_places page width (valid_formed page width v) tag ∙ ap (option_map (record_at page width)) e) in
          let f : true ≡ false = sym q ∙ h in
          cc

  pub enter_allowed : (tag part : ℕ) (readings : List ℕ) → refused codes (page_meaning page width) (enter tag part readings) ≡ None
      → (tag ≢ 0) × (1 ≤ part) × (part ≤ 250) × (length readings ≡ width) × (place_of page tag ≡ None) × (length (gathered (places page width)) ≢ records_in page)
  enter_allowed tag part readings h =
      let a = or_none (enter_arguments (page_meaning page width) tag part readings) _ h in
      let b = or_none (enter_closed codes (page_meaning page width) part readings) (enter_held (page_meaning page width) tag) a.1 in
      let t = or_none (when (eqb tag 0) NoTag) _ a.0 in
      let p = or_none (when (not (is_part part)) (Part part)) _ t.1 in
      let held = or_none (when (is_some (find tag (gathered (places page width)))) (Held tag)) _ b.1 in
      let within = and_parts (leb 1 part) (leb part 250) (not-false _ (false_by _ (Part part) p.0)) in (
        eqb-false tag 0 (false_by _ NoTag t.0),
        leb-true 1 part within.0,
        leb-true part 250 within.1,
        eqb-true (length readings) width (not-false _ (false_by _ Readings p.1)),
        none_found tag (false_by _ (Held tag) held.0),
        eqb-false (length (gathered (places page width))) (records_in page) (false_by _ Full held.1),
      )

  -- a free record that is found
  pub free_found : (k : ℕ) → lowest (same_tag page 0) (records_in page) ≡ Some k → (k < records_in page) × (tag_at page k ≡ 0) × ((i : ℕ) → i < k → tag_at page i ≢ 0)
  free_found k h =
      let p = found_at (same_tag page 0) (records_in page) k h in
      let t = true_by _ p.0 k p.2 in
      let same : p.0 ≡ k = t.1 in (
        omega arith,
        ap (tag_at page) (sym same) ∙ eqb-true _ _ t.0,
        λ i l. eqb-false _ _ (false_by _ i (none_below (same_tag page 0) p.0 p.3 i (omega arith))),
      )

  -- where the book is not full there is one
  pub free_there : length (gathered (places page width)) ≢ records_in page → lowest (same_tag page 0) (records_in page) ≢ None
  free_there n h =
      let few = occupied_few (places page width) in
      let long = length_places page width in
      let less : occupied (places page width) < length (places page width) = below (λ e. n (gathered_length (places page width) ∙ e ∙ long)) few in
      let p = some_empty (places page width) less in
      let inside : p.0 < records_in page = omega (arith, p.1) in
      let e : place_at page width p.0 ≡ None = sym (place_is page width p.0 inside) ∙ p.2 in
      eqb-false _ _ (false_by _ p.0 (none_below (same_tag page 0) (records_in page) h p.0 inside)) (zero_by p.0 e)
    where
      below : {a b : ℕ} → a ≢ b → a ≤ b → a < b
      below d l = elim (cases_order _ _) [ inl s ↦ absurd (d s) | inr (inl m) ↦ m | inr (inr m) ↦ absurd (omega arith) ]

      zero_by : (k : ℕ) → place_at page width k ≡ None → tag_at page k ≡ 0
      zero_by k e =
          elim (cases_eq (tag_at page k) 0) [
            | inl s ↦ s
            | inr d ↦ (let q = sym e ∙ place_used page width k d in cc)
          ]
