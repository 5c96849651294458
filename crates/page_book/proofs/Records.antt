-- A page record by record: each record's bytes are those of the page, and what is found among the records is found on the page.
use Rattle.std.proofs.Common.{◌≡◌, ℕ, zero, suc, ◌+◌, ◌*◌, ◌<◌, ◌≤◌, Bool, true, false, not, ◌||◌, eqb, ltb, ◌≢◌, List, [], ◌∷◌, length, get_or, take, drop, is_some, Some, None, Option, sym, refl, ap, ◌∙◌, inl, inr, zero-add, arith, length-drop}
use Rattle.books.specs.declared.faults.PageFault.TheVariants.{Twice}
use Rattle.page_book.specs.Layout.{byte_at, code_at, has_tag, part_at, records_in, records_of, tag_at}
use Rattle.page_book.specs.Lowest.{lowest}
use Rattle.page_book.specs.LowestFacts.{lowest_found, none_from_below, when_false, when_true}
use Rattle.page_book.specs.Refused.{right_byte, same_tag, twice, twice_at, wrong_at, wrong_byte}
use Rattle.page_book.specs.Twice.{twice_free, twice_in_use}
use Rattle.refusals.specs.Faults.{or_else, when}
use Rattle.std.proofs.lemmas.Bool.{cases_lt, cond-false, cond-true, le-ltb, lt-ltb, not-true}
use Rattle.std.proofs.lemmas.List.{drop-drop, get_or-drop, get_or-take, length-take-le}
use Rattle.std.proofs.Math.Seq.{take-suc}
use Rattle.std.proofs.lemmas.List.FromFn.{get_or-enumerate_from, length-enumerate_from}
use Rattle.std.proofs.lemmas.List.Folds.{list_any-append}
use Rattle.std.proofs.lemmas.List.Sums.{passes_at_first, prefix_len_passes}
use Rattle.std.specs.Simd.{first_chunks}
use Rattle.std.specs.List.{enumerate_from, list_any, position, position_or_len}

-- ---- the bytes of a record

length-first_chunks : (n : ℕ) (page : List ℕ) → length (first_chunks 32 n page) ≡ n
length-first_chunks zero page = refl
length-first_chunks (suc n) page = let e = length-first_chunks n (drop 32 page) in omega arith

chunk_is : (n k : ℕ) (page d : List ℕ) → k < n → get_or (first_chunks 32 n page) k d ≡ take 32 (drop (32 * k) page)
chunk_is zero k page d l = absurd (omega arith)
chunk_is (suc n) zero page d l = refl
chunk_is (suc n) (suc k) page d l =
    let e : 32 + 32 * k ≡ 32 * suc k = omega arith in
    chunk_is n k (drop 32 page) d (omega arith) ∙ ap (take 32) (drop-drop (32 * k) 32 page) ∙ ap (λ m. take 32 (drop m page)) e

module _ (page : List ℕ) where
  pub length_records : length (records_of page) ≡ records_in page
  length_records = length-first_chunks (records_in page) page

  module _ (k : ℕ) (d : List ℕ) (l : k < records_in page) where
    pub byte_is : (b : ℕ) → b < 32 → byte_at (get_or (records_of page) k d) 0 b ≡ byte_at page k b
    byte_is b m =
        ap (λ r. get_or r (0 + b) 0) (chunk_is (records_in page) k page d l)
        ∙ ap (λ i. get_or (take 32 (drop (32 * k) page)) i 0) (zero-add b)
        ∙ get_or-take 32 (drop (32 * k) page) b 0 m
        ∙ get_or-drop (32 * k) page b 0

    pub length_record : length (get_or (records_of page) k d) ≡ 32
    length_record =
        let n = length-drop (32 * k) page in
        ap length (chunk_is (records_in page) k page d l) ∙ length-take-le 32 (drop (32 * k) page) (omega arith)

    pub tag_is : tag_at (get_or (records_of page) k d) 0 ≡ tag_at page k
    tag_is = let a = byte_is 0 (omega arith) in let b = byte_is 1 (omega arith) in omega arith

    pub part_is : part_at (get_or (records_of page) k d) 0 ≡ part_at page k
    part_is = byte_is 2 (omega arith)

    pub code_is : (j : ℕ) → j < 24 → code_at (get_or (records_of page) k d) 0 j ≡ code_at page k j
    code_is j m = byte_is (4 + j) (omega arith)

-- ---- the lowest place of a list at which a test passes

pub lowest_same : {A : Type 0} (f g : ℕ → Option A) (n : ℕ) → ((k : ℕ) → k < n → f k ≡ g k) → lowest f n ≡ lowest g n
unfolding lowest
lowest_same f g zero h = refl
lowest_same f g (suc n) h =
    ap (λ o. or_else o (f n)) (lowest_same f g n (λ k l. h k (omega arith))) ∙ ap (or_else (lowest g n)) (h n (omega arith))

position_is : {X : Type 0} (p : X → Bool) (xs : List X) (d : X) → position p xs ≡ lowest (λ i. when (p (get_or xs i d)) i) (length xs)
position_is p xs d =
    let i = position_or_len p xs in
    let low : (k : ℕ) → k < i → when (p (get_or xs k d)) k ≡ None =
    λ k l. when_false (p (get_or xs k d)) k (not-true (p (get_or xs k d)) (prefix_len_passes (λ x. not (p x)) xs k d l)) in
    elim (cases_lt i (length xs)) [
      | inl inside ↦
          cond-true (ltb i (length xs)) (Some i) None (lt-ltb i (length xs) inside)
          ∙ sym (lowest_found (λ k. when (p (get_or xs k d)) k) i (length xs) i (none_from_below (λ k. when (p (get_or xs k d)) k) i low)
          (when_true (p (get_or xs i d)) i (passes_at_first p xs d inside)) inside)
      | inr past ↦
          cond-false (ltb i (length xs)) (Some i) None (le-ltb i (length xs) past)
          ∙ sym (none_from_below (λ k. when (p (get_or xs k d)) k) (length xs) (λ k l. low k (omega arith)))
    ]

-- a tag stands at its lowest record
pub place_found : (page : List ℕ) (tag : ℕ) → position (has_tag tag) (records_of page) ≡ lowest (same_tag page tag) (records_in page)
place_found page tag =
    position_is (has_tag tag) (records_of page) []
    ∙ ap (lowest (λ i. when (has_tag tag (get_or (records_of page) i [])) i)) (length_records page)
    ∙ lowest_same (λ i. when (has_tag tag (get_or (records_of page) i [])) i) (same_tag page tag) (records_in page)
    (λ k l. ap (λ n. when (eqb n tag) k) (tag_is page k [] l))

-- ---- the lowest wrong byte of a record

pub wrong_place : (r : List ℕ) (width tag : ℕ) (o : Option ℕ) → length r ≡ 32 → tag ≡ tag_at r 0
    → o ≡ position (λ p. not (right_byte tag width p.0 p.1)) (enumerate_from 0 r) → o ≡ wrong_byte r width 0
unfolding wrong_byte
wrong_place r width tag o long t e =
    let test : ℕ × ℕ → Bool = λ p. not (right_byte tag width p.0 p.1) in
    e
    ∙ position_is test (enumerate_from 0 r) (0, 0)
    ∙ ap (lowest (λ i. when (test (get_or (enumerate_from 0 r) i (0, 0))) i)) (length-enumerate_from 0 r ∙ long)
    ∙ lowest_same (λ i. when (test (get_or (enumerate_from 0 r) i (0, 0))) i) (wrong_at r width 0) 32
    (λ b m.
    ap (λ (p : ℕ × ℕ). when (not (right_byte tag width p.0 p.1)) b) (get_or-enumerate_from 0 r b (0, 0) (omega arith))
    ∙ ap (λ n. when (not (right_byte tag width n (get_or r b 0))) b) (zero-add b)
    ∙ ap (λ n. when (not (right_byte n width b (get_or r b 0))) b) t
    ∙ ap (λ n. when (not (right_byte (tag_at r 0) width b (get_or r n 0))) b) (sym (zero-add b)))

pub wrong_found : (page : List ℕ) (rs : List (List ℕ)) (width k : ℕ) → rs ≡ records_of page → k < records_in page
    → wrong_byte (get_or rs k []) width 0 ≡ wrong_byte page width k
unfolding wrong_byte
wrong_found page rs width k e l =
    ap (λ (s : List (List ℕ)). lowest (wrong_at (get_or s k []) width 0) 32) e ∙
    lowest_same (wrong_at (get_or (records_of page) k []) width 0) (wrong_at page width k) 32
    (λ b m.
    ap (λ t. when (not (right_byte t width b (byte_at (get_or (records_of page) k []) 0 b))) b) (tag_is page k [] l)
    ∙ ap (λ v. when (not (right_byte (tag_at page k) width b v)) b) (byte_is page k [] l b m))

-- ---- tags of earlier records

is_some_or : {A : Type 0} (o : Option A) (t : Bool) (a : A) → is_some (or_else o (when t a)) ≡ (is_some o || t)
is_some_or (Some x) t a = refl
is_some_or None true a = refl
is_some_or None false a = refl

-- an earlier record has the tag
any_found : (page : List ℕ) (tag k : ℕ) → k ≤ records_in page → list_any (has_tag tag) (take k (records_of page)) ≡ is_some (lowest (same_tag page tag) k)
unfolding lowest
any_found page tag zero l = refl
any_found page tag (suc k) l =
    let rs = records_of page in
    let inside : k < length rs = omega (arith, length_records page) in
    let r = get_or rs k [] in
    ap (list_any (has_tag tag)) (take-suc rs k [] inside)
    ∙ list_any-append (has_tag tag) (take k rs) (r ∷ [])
    ∙ ap (λ b. b || (has_tag tag r || false)) (any_found page tag k (omega arith))
    ∙ ap (λ b. is_some (lowest (same_tag page tag) k) || b) (or_false (has_tag tag r) ∙ ap (λ n. eqb n tag) (tag_is page k [] (omega arith)))
    ∙ sym (is_some_or (lowest (same_tag page tag) k) (eqb (tag_at page k) tag) k)
  where
    or_false : (b : Bool) → (b || false) ≡ b
    or_false true = refl
    or_false false = refl

module _ (page : List ℕ) (rs : List (List ℕ)) (k tag : ℕ) (e : rs ≡ records_of page) (l : k < records_in page) (t : tag ≡ tag_at (get_or rs k []) 0) where
  tag_same : tag ≡ tag_at page k
  tag_same = t ∙ ap (λ (s : List (List ℕ)). tag_at (get_or s k []) 0) e ∙ tag_is page k [] l

  -- nothing is refused at a free record, or at one whose tag no earlier one has
  pub free_once : tag ≡ 0 → twice_at page k ≡ None
  free_once z = when_false (twice page k) (Twice k) (twice_free page k tag tag_same z)

  twice_any : tag ≢ 0 → twice page k ≡ list_any (has_tag tag) (take k rs)
  twice_any n =
      twice_in_use page k tag tag_same n ∙ sym (any_found page tag k (omega arith))
      ∙ sym (ap (λ (s : List (List ℕ)). list_any (has_tag tag) (take k s)) e)

  pub used_once : tag ≢ 0 → false ≡ list_any (has_tag tag) (take k rs) → twice_at page k ≡ None
  used_once n h = when_false (twice page k) (Twice k) (twice_any n ∙ sym h)

  pub used_twice : tag ≢ 0 → true ≡ list_any (has_tag tag) (take k rs) → twice_at page k ≡ Some (Twice k)
  used_twice n h = when_true (twice page k) (Twice k) (twice_any n ∙ sym h)
