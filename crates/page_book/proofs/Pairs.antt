-- Two records one after another, a page of two: their bytes, and their row, which is that of their places on the whole page.
use Rattle.std.proofs.Common.{◌≡◌, ℕ, zero, suc, ◌+◌, ◌-◌, ◌*◌, ◌^◌, ◌<◌, ◌≤◌, true, false, not, cond, eqb, ◌&&◌, List, [], ◌∷◌, ◌++◌, length, get_or, take, sym, refl, ap, ◌∙◌, add-one, arith, length-append}
use Rattle.page_book.proofs.Records.{code_is, length_record, length_records, part_is, tag_is}
use Rattle.page_book.specs.Earlier.{row_of_two, rows_after, two_differ}
use Rattle.page_book.specs.Layout.{byte_at, code_at, part_at, records_in, records_of, tag_at}
use Rattle.page_book.specs.Rows.{apart, differing, row_at, row_of, rows_with, same_or_blank}
use Rattle.std.proofs.lemmas.Bool.{cond_both, cond-false, cond-true}
use Rattle.std.proofs.lemmas.Grind.{flat_map-append}
use Rattle.std.proofs.lemmas.List.{append-nil, get_or-append_right, get_or_append_left}
use Rattle.std.proofs.Math.Seq.{take-suc}

-- ---- the bytes of two records one after another

module _ (a b : List ℕ) (long : length a ≡ 32) where
  first_byte : (n : ℕ) → n < 32 → byte_at (a ++ b) 0 n ≡ byte_at a 0 n
  first_byte n l = get_or_append_left a b 0 (32 * 0 + n) (omega arith)

  second_byte : (n : ℕ) → byte_at (a ++ b) 1 n ≡ byte_at b 0 n
  second_byte n =
      let e : 32 * 1 + n - 32 ≡ 32 * 0 + n = omega arith in
      get_or-append_right a b 32 (32 * 1 + n) 0 long (omega arith) ∙ ap (λ i. get_or b i 0) e

  first_tag : tag_at (a ++ b) 0 ≡ tag_at a 0
  first_tag = let low = first_byte 0 (omega arith) in let high = first_byte 1 (omega arith) in omega arith

  second_tag : tag_at (a ++ b) 1 ≡ tag_at b 0
  second_tag = let low = second_byte 0 in let high = second_byte 1 in omega arith

  -- whether they differ, by the bytes of each
  differ_by_each : two_differ a b ≡ (not (eqb (tag_at a 0) 0) && (not (eqb (tag_at b 0) 0) && not (eqb (part_at a 0) (part_at b 0))))
  differ_by_each = rw (first_tag, second_tag, first_byte 2 (omega arith), second_byte 2) refl

  pub first_code : (p : ℕ) → p < 24 → code_at (a ++ b) 0 p ≡ code_at a 0 p
  first_code p l = first_byte (4 + p) (omega arith)

  pub second_code : (p : ℕ) → code_at (a ++ b) 1 p ≡ code_at b 0 p
  second_code p = second_byte (4 + p)

-- ---- one more earlier record

module _ (later : List ℕ) (earlier : List (List ℕ)) (d : List ℕ) where
  rows_next : (i : ℕ) → i < length earlier → rows_after later (take (i + 1) earlier) ≡ rows_after later (take i earlier) ++ row_at (get_or earlier i d ++ later) 0 1
  unfolding rows_after
  rows_next i l =
      ap (λ n. rows_after later (take n earlier)) (add-one i)
      ∙ ap (rows_after later) (take-suc earlier i d l)
      ∙ flat_map-append (λ other. row_at (other ++ later) 0 1) (take i earlier) (get_or earlier i d ∷ [])
      ∙ ap (λ xs. rows_after later (take i earlier) ++ xs) (append-nil (row_at (get_or earlier i d ++ later) 0 1))

  -- which differs, or does not
  pub after_one : (i : ℕ) → i < length earlier → true ≡ two_differ (get_or earlier i d) later
      → rows_after later (take (i + 1) earlier) ≡ rows_after later (take i earlier) ++ row_of_two (get_or earlier i d) later ∷ []
  after_one i l h = rows_next i l ∙ ap (λ xs. rows_after later (take i earlier) ++ xs) (cond-true (two_differ (get_or earlier i d) later) _ [] (sym h))

  pub after_none : (i : ℕ) → i < length earlier → false ≡ two_differ (get_or earlier i d) later
      → rows_after later (take (i + 1) earlier) ≡ rows_after later (take i earlier)
  after_none i l h =
      rows_next i l ∙ ap (λ xs. rows_after later (take i earlier) ++ xs) (cond-false (two_differ (get_or earlier i d) later) _ [] (sym h))
      ∙ append-nil (rows_after later (take i earlier))

-- as many rows as records at most
pub length_after : (later : List ℕ) (earlier : List (List ℕ)) → length (rows_after later earlier) ≤ length earlier
unfolding rows_after
length_after later [] = omega arith
length_after later (other ∷ rest) =
    let one : length (row_at (other ++ later) 0 1) ≤ 1 =
    cond_both (two_differ other later) (row_of_two other later ∷ []) [] (λ xs. length xs ≤ 1) (λ _. omega arith) (λ _. omega arith) in
    let low = length_after later rest in
    simp length-append (omega arith)

-- ---- two records of a page are the records of their places

module _ (page : List ℕ) (i k : ℕ) (d : List ℕ) (l : i < records_in page) (m : k < records_in page) where
  differ_is : two_differ (get_or (records_of page) i d) (get_or (records_of page) k d) ≡ differing page i k
  differ_is =
      differ_by_each (get_or (records_of page) i d) (get_or (records_of page) k d) (length_record page i d l)
      ∙ rw (tag_is page i d l, tag_is page k d m, part_is page i d l, part_is page k d m) refl

  apart_is : (n : ℕ) → n ≤ 24 → apart (get_or (records_of page) i d ++ get_or (records_of page) k d) 0 1 n ≡ apart page i k n
  unfolding apart
  apart_is zero h = refl
  apart_is (suc p) h =
      let a = get_or (records_of page) i d in
      let b = get_or (records_of page) k d in
      let first = first_code a b (length_record page i d l) p (omega arith) ∙ code_is page i d l p (omega arith) in
      let second = second_code a b (length_record page i d l) p ∙ code_is page k d m p (omega arith) in
      ap (λ n. n + cond (same_or_blank (code_at (a ++ b) 0 p) (code_at (a ++ b) 1 p)) 0 (2 ^ p)) (apart_is p (omega arith))
      ∙ ap (λ x. apart page i k p + cond (same_or_blank x (code_at (a ++ b) 1 p)) 0 (2 ^ p)) first
      ∙ ap (λ y. apart page i k p + cond (same_or_blank (code_at page i p) y) 0 (2 ^ p)) second

  row_is : row_at (get_or (records_of page) i d ++ get_or (records_of page) k d) 0 1 ≡ row_at page i k
  row_is =
      ap (λ t. cond t (row_of (get_or (records_of page) i d ++ get_or (records_of page) k d) 0 1 ∷ []) []) differ_is
      ∙ ap (λ r. cond (differing page i k) (r ∷ []) []) (apart_is 24 (omega arith))

-- the rows of a page's record with the records before it
rows_to : (page : List ℕ) (k n : ℕ) → k < records_in page → n ≤ k
    → rows_after (get_or (records_of page) k []) (take n (records_of page)) ≡ rows_with page k n
unfolding rows_after rows_with
rows_to page k zero l h = refl
rows_to page k (suc i) l h =
    let inside : i < records_in page = omega arith in
    ap (λ n. rows_after (get_or (records_of page) k []) (take n (records_of page))) (sym (add-one i))
    ∙ rows_next (get_or (records_of page) k []) (records_of page) [] i (omega (arith, length_records page))
    ∙ ap (λ xs. xs ++ row_at (get_or (records_of page) i [] ++ get_or (records_of page) k []) 0 1) (rows_to page k i l (omega arith))
    ∙ ap (λ xs. rows_with page k i ++ xs) (row_is page i k [] inside l)

pub rows_found : (page : List ℕ) (rs : List (List ℕ)) (k : ℕ) → rs ≡ records_of page → k < records_in page
    → rows_after (get_or rs k []) (take k rs) ≡ rows_with page k k
rows_found page rs k e l = ap (λ (s : List (List ℕ)). rows_after (get_or s k []) (take k s)) e ∙ rows_to page k k l (omega arith)
