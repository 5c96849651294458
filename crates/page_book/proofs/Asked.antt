-- The questions, answered record by record.
use Rattle.std.proofs.Common.{◌≡◌, ℕ, zero, suc, ◌+◌, ◌-◌, ◌<◌, ◌≤◌, Bool, true, false, not, cond, min, eqb, ltb, ◌≢◌, List, [], ◌∷◌, length, get_or, map, filter, fold, count_by, position, Some, None, Option, sym, refl, ap, ◌∙◌, subst, inl, inr, arith}
use Rattle.books.proofs.Gathering.{gathered_length, gathered_next}
use Rattle.books.specs.Gathered.{gathered, lower, lowest_above, occupied}
use Rattle.books.specs.Meanings.{Rec}
use Rattle.books.specs.Questions.{next_tag, part_of, reading_at, reading_in, reading_of}
use Rattle.page_book.proofs.Records.{code_is as code_same, length_records, part_is as part_same, place_found, tag_is}
use Rattle.page_book.specs.Kept.{book_means}
use Rattle.page_book.specs.LowestFacts.{when_false}
use Rattle.page_book.specs.Paged.{code_is, find_places, length_codes, length_places, place_found as found_inside, place_free, place_is, place_lowest, place_used, place_zero}
use Rattle.page_book.specs.Standing.{lower_assoc}
use Rattle.page_book.specs.Valid.{valid_formed}
use Rattle.page_book.specs.Layout.{code_at, has_tag, in_use, part_at, records_in, records_of, tag_at}
use Rattle.page_book.specs.Places.{codes_at, page_meaning, place_of, places, record_at, record_of, valid}
use Rattle.page_book.specs.declared.book.PageBook.{PageBook}
use Rattle.refusals.specs.Faults.{when}
use Rattle.std.proofs.lemmas.Bool.{cases_eq, cond-false, cond-true, eq-eqb, le-ltb, lt-ltb, ne_eqb}
use Rattle.std.proofs.lemmas.List.Folds.{find_at}
use Rattle.std.proofs.lemmas.List.Recursion.{is_count_by}
use Rattle.std.proofs.lemmas.List.Sums.{count_by-le-length}
use Rattle.std.proofs.lemmas.Option.{get_or_from_slice_get, slice_get_cases}
use Rattle.std.specs.List.{find as seek, position_or_len, reduce}
use Rattle.std.specs.Option.{option_map}

pub reading_within : (xs : List ℕ) (j : ℕ) → j < length xs → reading_at (suc j) xs ≡ Some (get_or xs j 0)
unfolding reading_at
reading_within [] j l = absurd (omega arith)
reading_within (x ∷ xs) zero l = refl
reading_within (x ∷ xs) (suc j) l = reading_within xs j (omega arith)

pub reading_past : (xs : List ℕ) (j : ℕ) → length xs ≤ j → reading_at (suc j) xs ≡ None
unfolding reading_at
reading_past [] j l = refl
reading_past (x ∷ xs) zero l = absurd (omega arith)
reading_past (x ∷ xs) (suc j) l = reading_past xs j (omega arith)

reading_out : (xs : List ℕ) (test : ℕ) → (1 ≤ test → test ≤ length xs → ⊥) → reading_at test xs ≡ None
unfolding reading_at
reading_out xs zero h = refl
reading_out xs (suc j) h = reading_past xs j (late (λ l. h (omega arith) l))
  where
    late : (suc j ≤ length xs → ⊥) → length xs ≤ j
    late k = omega arith

module _ (page : List ℕ) (width : ℕ) where
  pub part_asked : valid page width ≡ true → (tag : ℕ) → part_of (page_meaning page width) tag ≡ option_map (part_at page) (place_of page tag)
  part_asked v tag = ap (option_map (λ (x : Rec ℕ). x.part)) (find_places page width (valid_formed page width v) tag) ∙ go (place_of page tag)
    where
      go : (o : Option ℕ) → option_map (λ (x : Rec ℕ). x.part) (option_map (record_at page width) o) ≡ option_map (part_at page) o
      go None = refl
      go (Some k) = refl

  pub reading_none : valid page width ≡ true → (tag test : ℕ) → place_of page tag ≡ None → reading_of (page_meaning page width) tag test ≡ None
  reading_none v tag test e = ap (reading_in test) (find_places page width (valid_formed page width v) tag ∙ ap (option_map (record_at page width)) e)

  reading_of_lem : valid page width ≡ true → (tag test k : ℕ) → place_of page tag ≡ Some k → reading_of (page_meaning page width) tag test ≡ reading_at test (codes_at page width k)
  reading_of_lem v tag test k e = ap (reading_in test) (find_places page width (valid_formed page width v) tag ∙ ap (option_map (record_at page width)) e)

  pub reading_outside : valid page width ≡ true → (tag test : ℕ) → (1 ≤ test → test ≤ width → ⊥) → reading_of (page_meaning page width) tag test ≡ None
  reading_outside v tag test h = go (place_of page tag) refl
    where
      go : (o : Option ℕ) → place_of page tag ≡ o → reading_of (page_meaning page width) tag test ≡ None
      go None e = reading_none v tag test e
      go (Some k) e = reading_of_lem v tag test k e ∙ reading_out (codes_at page width k) test (λ l m. h l (omega (arith, length_codes page width k)))

  pub reading_inside : valid page width ≡ true → (tag test k : ℕ) → place_of page tag ≡ Some k → 1 ≤ test → test ≤ width
      → reading_of (page_meaning page width) tag test ≡ Some (code_at page k (test - 1))
  reading_inside v tag test k e l m =
      let s : test ≡ suc (test - 1) = omega arith in
      reading_of_lem v tag test k e
      ∙ ap (λ (t : ℕ). reading_at t (codes_at page width k)) s
      ∙ reading_within (codes_at page width k) (test - 1) (omega (arith, length_codes page width k))
      ∙ ap Some (code_is page width k (test - 1) 0 (omega arith))

-- ---- the record of a tag, among the records

find_is : (page : List ℕ) (tag : ℕ) → seek (has_tag tag) (records_of page) ≡ option_map (λ k. get_or (records_of page) k []) (position (has_tag tag) (records_of page))
find_is page tag =
    let rs = records_of page in
    let i = position_or_len (has_tag tag) rs in
    find_at (has_tag tag) rs
    ∙ elim (slice_get_cases rs i).1 [
      | inl here ↦
          here.2
          ∙ ap Some (sym (get_or_from_slice_get rs i here.0 [] here.2))
          ∙ sym (ap (option_map (λ k. get_or rs k [])) (cond-true (ltb i (length rs)) (Some i) None (lt-ltb i (length rs) here.1)))
      | inr past ↦
          past.1
          ∙ sym (ap (option_map (λ k. get_or rs k [])) (cond-false (ltb i (length rs)) (Some i) None (le-ltb i (length rs) past.0)))
    ]

record_place : (page : List ℕ) (tag : ℕ) → record_of page tag ≡ option_map (λ k. get_or (records_of page) k []) (place_of page tag)
unfolding record_of
record_place page tag =
    elim (cases_eq tag 0) [
      | inl z ↦
          cond-true (eqb tag 0) None (seek (has_tag tag) (records_of page)) (eq-eqb tag 0 z)
          ∙ sym (ap (option_map (λ k. get_or (records_of page) k [])) (place_zero page 0 tag z))
      | inr n ↦
          cond-false (eqb tag 0) None (seek (has_tag tag) (records_of page)) (ne_eqb tag 0 n)
          ∙ find_is page tag
          ∙ ap (option_map (λ k. get_or (records_of page) k [])) (place_found page tag ∙ sym (place_lowest page 0 tag n))
    ]

-- a tag in use is looked for
pub used_record : (page : List ℕ) (tag : ℕ) (o : Option (List ℕ)) → tag ≢ 0 → o ≡ seek (has_tag tag) (records_of page) → o ≡ record_of page tag
unfolding record_of
used_record page tag o n e = e ∙ sym (cond-false (eqb tag 0) None (seek (has_tag tag) (records_of page)) (ne_eqb tag 0 n))

-- what holds of the record at its place holds of its bytes
told_by : (page : List ℕ) (tag : ℕ) (f : ℕ → ℕ) (g : List ℕ → ℕ) → ((k : ℕ) → k < records_in page → f k ≡ g (get_or (records_of page) k []))
    → option_map f (place_of page tag) ≡ option_map g (record_of page tag)
told_by page tag f g h = go (place_of page tag) refl ∙ sym (ap (option_map g) (record_place page tag))
  where
    go : (o : Option ℕ) → place_of page tag ≡ o → option_map f o ≡ option_map g (option_map (λ k. get_or (records_of page) k []) o)
    go None e = refl
    go (Some k) e = ap Some (h k (found_inside page 0 tag k e).1)

module _ (b : PageBook) where
  pub part_is : (tag : ℕ) → part_of (book_means b) tag ≡ option_map (λ r. part_at r 0) (record_of b.page.now tag)
  part_is tag =
      part_asked b.page.now b.width b.valid tag
      ∙ told_by b.page.now tag (part_at b.page.now) (λ r. part_at r 0) (λ k l. sym (part_same b.page.now k [] l))

  pub reading_is : (tag test : ℕ) → 1 ≤ test → test ≤ b.width → reading_of (book_means b) tag test ≡ option_map (λ r. code_at r 0 (test - 1)) (record_of b.page.now tag)
  reading_is tag test l m =
      go (place_of b.page.now tag) refl
      ∙ told_by b.page.now tag (λ k. code_at b.page.now k (test - 1)) (λ r. code_at r 0 (test - 1))
      (λ k i. sym (code_same b.page.now k [] i (test - 1) (omega (arith, (valid_formed b.page.now b.width b.valid).0.1))))
    where
      go : (o : Option ℕ) → place_of b.page.now tag ≡ o → reading_of (book_means b) tag test ≡ option_map (λ k. code_at b.page.now k (test - 1)) (place_of b.page.now tag)
      go None e = reading_none b.page.now b.width b.valid tag test e ∙ sym (ap (option_map (λ k. code_at b.page.now k (test - 1))) e)
      go (Some k) e =
          reading_inside b.page.now b.width b.valid tag test k e l m ∙ sym (ap (option_map (λ n. code_at b.page.now n (test - 1))) e)

  pub reading_low : (tag test : ℕ) → test ≡ 0 → reading_of (book_means b) tag test ≡ None
  reading_low tag test l = reading_outside b.page.now b.width b.valid tag test (λ m n. omega arith)

  pub reading_high : (tag test : ℕ) → b.width < test → reading_of (book_means b) tag test ≡ None
  reading_high tag test l = reading_outside b.page.now b.width b.valid tag test (λ m n. omega arith)

  -- the first part only names the record
  pub wide : (tag : ℕ) → (record_of b.page.now tag ≡ record_of b.page.now tag) × (b.width ≤ 24)
  wide tag = (refl, (valid_formed b.page.now b.width b.valid).0.1)

  pub room_small : length (records_of b.page.now) ≤ 64
  room_small = omega (arith, length_records b.page.now, (valid_formed b.page.now b.width b.valid).1.0)

-- ---- over all records

-- a record and its place agree
abbrev TaggedAt : List ℕ → Option (Rec ℕ) → Type 0
TaggedAt r None = tag_at r 0 ≡ 0
TaggedAt r (Some x) = (tag_at r 0 ≡ x.tag) × (x.tag ≢ 0)

abbrev Tagged : List (List ℕ) → List (Option (Rec ℕ)) → Type 0
Tagged [] [] = Unit {0}
Tagged [] (o ∷ ps) = ⊥
Tagged (r ∷ rs) [] = ⊥
Tagged (r ∷ rs) (o ∷ ps) = TaggedAt r o × Tagged rs ps

tagged_from : (rs : List (List ℕ)) (ps : List (Option (Rec ℕ))) → length rs ≡ length ps
    → ((k : ℕ) → k < length ps → TaggedAt (get_or rs k []) (get_or ps k None)) → Tagged rs ps
tagged_from [] [] e h = tt
tagged_from [] (o ∷ ps) e h = omega arith
tagged_from (r ∷ rs) [] e h = omega arith
tagged_from (r ∷ rs) (o ∷ ps) e h = (h 0 (omega arith), tagged_from rs ps (omega arith) (λ k l. h (suc k) (omega arith)))

tagged : (page : List ℕ) (width : ℕ) → Tagged (records_of page) (places page width)
tagged page width = tagged_from (records_of page) (places page width) (omega (arith, length_records page, length_places page width)) at
  where
    at : (k : ℕ) → k < length (places page width) → TaggedAt (get_or (records_of page) k []) (get_or (places page width) k None)
    at k l =
        let m : k < records_in page = omega (arith, length_places page width) in
        let here = place_is page width k m in
        elim (cases_eq (tag_at page k) 0) [
          | inl z ↦ subst (TaggedAt (get_or (records_of page) k [])) (sym (here ∙ place_free page width k z)) (tag_is page k [] m ∙ z)
          | inr n ↦ subst (TaggedAt (get_or (records_of page) k [])) (sym (here ∙ place_used page width k n)) (tag_is page k [] m, n)
        ]

counted : List (List ℕ) → ℕ
counted [] = 0
counted (r ∷ rs) = cond (in_use r) (1 + counted rs) (counted rs)

counted_by : (rs : List (List ℕ)) → counted rs ≡ count_by in_use rs
unfolding counted
counted_by = is_count_by counted in_use refl (λ r rs. refl)

counted_is : (rs : List (List ℕ)) (ps : List (Option (Rec ℕ))) → Tagged rs ps → counted rs ≡ occupied ps
unfolding counted occupied
counted_is [] [] h = refl
counted_is [] (o ∷ ps) h = absurd h
counted_is (r ∷ rs) [] h = absurd h
counted_is (r ∷ rs) (None ∷ ps) h =
    cond-false (in_use r) (1 + counted rs) (counted rs) (ap not (eq-eqb (tag_at r 0) 0 h.0)) ∙ counted_is rs ps h.1
counted_is (r ∷ rs) (Some x ∷ ps) h =
    let e = counted_is rs ps h.1 in
    cond-true (in_use r) (1 + counted rs) (counted rs) (ap not (ne_eqb (tag_at r 0) 0 (λ z. h.0.1 (sym h.0.0 ∙ z)))) ∙ (omega arith)

above : ℕ → List (List ℕ) → Option ℕ
above a rs = reduce min (filter (ltb a) (map (λ r. tag_at r 0) rs))

fold_lower : (x : ℕ) (ys : List ℕ) → Some (fold min x ys) ≡ lower (Some x) (reduce min ys)
fold_lower x [] = refl
fold_lower x (y ∷ ys) = fold_lower (min x y) ys ∙ lower_assoc (Some x) (Some y) (reduce min ys) ∙ sym (ap (lower (Some x)) (fold_lower y ys))

above_more : (a : ℕ) (r : List ℕ) (rs : List (List ℕ)) → above a (r ∷ rs) ≡ lower (when (ltb a (tag_at r 0)) (tag_at r 0)) (above a rs)
unfolding above
above_more a r rs = go (ltb a (tag_at r 0)) refl
  where
    go : (t : Bool) → ltb a (tag_at r 0) ≡ t → reduce min (cond t (tag_at r 0 ∷ filter (ltb a) (map (λ s. tag_at s 0) rs)) (filter (ltb a) (map (λ s. tag_at s 0) rs))) ≡ lower (when t (tag_at r 0)) (reduce min (filter (ltb a) (map (λ s. tag_at s 0) rs)))
    go true e = fold_lower (tag_at r 0) (filter (ltb a) (map (λ s. tag_at s 0) rs))
    go false e = refl

above_none : (a : ℕ) → above a [] ≡ None
unfolding above
above_none a = refl

above_is : (a : ℕ) (rs : List (List ℕ)) (ps : List (Option (Rec ℕ))) → Tagged rs ps → above a rs ≡ lowest_above a ps
unfolding lowest_above
above_is a [] [] h = above_none a
above_is a [] (o ∷ ps) h = absurd h
above_is a (r ∷ rs) [] h = absurd h
above_is a (r ∷ rs) (None ∷ ps) h =
    above_more a r rs
    ∙ ap (λ o. lower o (above a rs)) (when_false (ltb a (tag_at r 0)) (tag_at r 0) (le-ltb a (tag_at r 0) (omega (arith, h.0))))
    ∙ above_is a rs ps h.1
above_is a (r ∷ rs) (Some x ∷ ps) h =
    above_more a r rs
    ∙ ap (λ n. lower (when (ltb a n) n) (above a rs)) h.0.0
    ∙ ap (lower (when (ltb a x.tag) x.tag)) (above_is a rs ps h.1)

module _ (b : PageBook) where
  pub held_is : count_by in_use (records_of b.page.now) ≡ length (gathered (places b.page.now b.width))
  held_is =
      sym (counted_by (records_of b.page.now))
      ∙ counted_is (records_of b.page.now) (places b.page.now b.width) (tagged b.page.now b.width)
      ∙ sym (gathered_length (places b.page.now b.width))

  pub held_small : count_by in_use (records_of b.page.now) ≤ 64
  held_small = omega (arith, count_by-le-length in_use (records_of b.page.now), room_small b)

  pub next_is : (a : ℕ) → next_tag a (gathered (places b.page.now b.width)) ≡ reduce min (filter (ltb a) (map (λ r. tag_at r 0) (records_of b.page.now)))
  unfolding above
  next_is a =
      gathered_next a (places b.page.now b.width)
      ∙ sym (above_is a (records_of b.page.now) (places b.page.now b.width) (tagged b.page.now b.width))

-- ---- what each kind of question needs

pub ruleset counts = (room_small, held_is, held_small)

pub ruleset readings = (wide, reading_is, reading_low, reading_high)
