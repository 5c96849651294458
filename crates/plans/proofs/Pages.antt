-- The matrix of the book that a page is, told in the bytes of the page; every matrix of the page has its plans.
use Rattle.bench.proofs.Known.{all_plans}
use Rattle.bench.specs.Promise.{plans_by}
use Rattle.covers.proofs.Same.{same_lists}
use Rattle.covers.specs.Plans.{Covers}
use Rattle.covers.specs.Theorems.{Fair, Lists}
use Rattle.matrix.proofs.Matrices.{matrix_is}
use Rattle.matrix.proofs.Sizes.{matrix_narrow}
use Rattle.matrix.specs.Rows.{matrix_of}
use Rattle.page_book.specs.Refused.{refused_page}
use Rattle.page_book.specs.Valid.{opened_valid, valid_formed}
use Rattle.readings.specs.Kinds.{Lawful}
use Rattle.refusals.specs.Faults.{passed}
use Rattle.books.specs.Changes.{insert}
use Rattle.books.specs.Gathered.{gathered}
use Rattle.books.specs.Meanings.{Rec, Sound}
use Rattle.books.specs.Questions.{reading_at}
use Rattle.matrix.specs.Apart.{Clash, Different, TellsAt}
use Rattle.matrix.specs.Theorems.{IsMatrix, IsRow}
use Rattle.page_book.proofs.Asked.{reading_past, reading_within}
use Rattle.page_book.specs.Layout.{WellFormed, code_at, part_at, records_in, tag_at}
use Rattle.page_book.specs.Paged.{code_is, length_codes, length_places, page_sound, place_is, place_some, place_used}
use Rattle.page_book.specs.Places.{codes_at, page_meaning, places, record_at, valid}
use Rattle.page_book.specs.Rows.{Compatible, Differ, IsMatrix as IsMatrixOf, OfTwo, TellApart}
use Rattle.readings.specs.Codes.{codes}
use Rattle.sets.proofs.Bits.{within_same}
use Rattle.sets.proofs.Members.{all_in, in_all}
use Rattle.sets.proofs.Places.{below_place}
use Rattle.sets.specs.Lists.{Among}
use Rattle.sets.specs.Sets.{Shares, Within}
use Rattle.std.proofs.Common.{◌≡◌, ℕ, zero, suc, ◌+◌, ◌^◌, ◌<◌, ◌≤◌, Bool, true, false, cond, ltb, ◌≢◌, ◌⊎◌, List, [], ◌∷◌, length, get_or, Some, None, Option, Fits, w8, rules, sym, ap, ◌∙◌, subst, inl, inr, pow_mono, arith}
use Rattle.std.proofs.lemmas.Bool.{both_ways, cases_Bool, cases_lt, cases_order}
use Rattle.std.proofs.lemmas.Bool.Decides.{nat_tests}
use Rattle.std.proofs.ByRecursion.{All-weaker}
use Rattle.std.specs.List.{ContainsAt, AllByRecursion as Every}

-- ---- what stands in places is what is gathered from them

module _ {R : Type 0} where
  in_insert : (x : Rec R) (xs : List (Rec R)) (y : Rec R) → Among (insert x xs) y → Among (x ∷ xs) y
  unfolding insert
  in_insert x [] y i = i
  in_insert x (z ∷ zs) y i = go (ltb x.tag z.tag) i (in_insert x zs y)
    where
      after : Among (x ∷ zs) y → Among (x ∷ z ∷ zs) y
      after (inl e) = inl e
      after (inr k) = inr (inr k)

      go : (b : Bool) → Among (cond b (x ∷ z ∷ zs) (z ∷ insert x zs)) y → (Among (insert x zs) y → Among (x ∷ zs) y) → Among (x ∷ z ∷ zs) y
      go true j rest = j
      go false (inl e) rest = inr (inl e)
      go false (inr k) rest = after (rest k)

  insert_in : (x : Rec R) (xs : List (Rec R)) (y : Rec R) → Among (x ∷ xs) y → Among (insert x xs) y
  unfolding insert
  insert_in x [] y i = i
  insert_in x (z ∷ zs) y i = go (ltb x.tag z.tag) i (insert_in x zs y)
    where
      go : (b : Bool) → Among (x ∷ z ∷ zs) y → (Among (x ∷ zs) y → Among (insert x zs) y) → Among (cond b (x ∷ z ∷ zs) (z ∷ insert x zs)) y
      go true j rest = j
      go false (inl e) rest = inr (rest (inl e))
      go false (inr (inl e)) rest = inl e
      go false (inr (inr k)) rest = inr (rest (inr k))

  -- place k has the record y
  abbrev Stands : List (Option (Rec R)) → Rec R → ℕ → Type 0
  Stands ps y k = (k < length ps) × (get_or ps k None ≡ Some y)

  in_gathered : (ps : List (Option (Rec R))) (y : Rec R) → Among (gathered ps) y → (k : ℕ) × Stands ps y k
  unfolding gathered
  in_gathered [] y i = absurd i
  in_gathered (None ∷ ps) y i = let r = in_gathered ps y i in (suc r.0, (omega (arith, r.1.0), r.1.1))
  in_gathered (Some x ∷ ps) y i = go (in_insert x (gathered ps) y i) (in_gathered ps y)
    where
      go : Among (x ∷ gathered ps) y → (Among (gathered ps) y → (k : ℕ) × Stands ps y k) → (k : ℕ) × Stands (Some x ∷ ps) y k
      go (inl e) rest = (0, (omega arith, ap Some e))
      go (inr j) rest = let r = rest j in (suc r.0, (omega (arith, r.1.0), r.1.1))

  gathered_in : (ps : List (Option (Rec R))) (y : Rec R) (k : ℕ) → k < length ps → get_or ps k None ≡ Some y → Among (gathered ps) y
  unfolding gathered
  gathered_in [] y k l e = absurd (omega arith)
  gathered_in (None ∷ ps) y zero l e = cc
  gathered_in (None ∷ ps) y (suc k) l e = gathered_in ps y k (omega arith) e
  gathered_in (Some x ∷ ps) y zero l e = let same : x ≡ y = cc in insert_in x (gathered ps) y (inl same)
  gathered_in (Some x ∷ ps) y (suc k) l e = insert_in x (gathered ps) y (inr (gathered_in ps y k (omega arith) e))

-- ---- readings and codes

compatible_by : (a b : ℕ) → codes.agrees a b ≡ true → Compatible a b
compatible_by a b h = grind (arith, nat_tests)

by_compatible : (a b : ℕ) → Compatible a b → codes.agrees a b ≡ true
by_compatible a b h = grind (arith, nat_tests)

turned : (a b : ℕ) → Compatible a b → Compatible b a
turned a b (inl e) = inl (sym e)
turned a b (inr (inl e)) = inr (inr e)
turned a b (inr (inr e)) = inr (inl e)

module _ (page : List ℕ) (width : ℕ) (formed : WellFormed page width) where
  reading_is : (k p : ℕ) → p < width → reading_at (suc p) (codes_at page width k) ≡ Some (code_at page k p)
  reading_is k p l =
      reading_within (codes_at page width k) p (omega (arith, length_codes page width k)) ∙ ap Some (code_is page width k p 0 l)

  -- a test tells two records apart exactly when their codes at it are not compatible
  clash_is : (i k p : ℕ) → p < width → TellsAt codes (record_at page width i) (record_at page width k) p ≡ (codes.agrees (code_at page i p) (code_at page k p) ≡ false)
  clash_is i k p l =
      ap (λ (o : Option ℕ). Clash codes o (reading_at (suc p) (codes_at page width k))) (reading_is i p l)
      ∙ ap (Clash codes (Some (code_at page i p))) (reading_is k p l)

  -- past the width a record in use has no reading, and the page has the blank
  past : (i k p : ℕ) → width ≤ p → TellsAt codes (record_at page width i) (record_at page width k) p → ⊥
  past i k p l t = subst (λ (o : Option ℕ). Clash codes o (reading_at (suc p) (codes_at page width k))) (reading_past (codes_at page width i) p (omega (arith, l, length_codes page width i))) t

  blank : (k p : ℕ) → k < records_in page → (tag_at page k ≢ 0) → width ≤ p → p < 24 → code_at page k p ≡ 255
  blank k p l n w m = ((formed.2 k l (4 + p) (omega arith)).1 n).2 (omega arith) (omega arith)

  told : (i k p : ℕ) → TellsAt codes (record_at page width i) (record_at page width k) p → Compatible (code_at page i p) (code_at page k p) → ⊥
  told i k p t c = go (cases_lt p width)
    where
      go : (p < width) ⊎ (width ≤ p) → ⊥
      go (inl l) =
          both_ways (codes.agrees (code_at page i p) (code_at page k p)) (subst (λ (T : Type 0). T) (clash_is i k p l) t)
          (by_compatible (code_at page i p) (code_at page k p) c)
      go (inr l) = past i k p l t

  tell : (i k p : ℕ) → i < records_in page → (tag_at page i ≢ 0) → p < 24 → (Compatible (code_at page i p) (code_at page k p) → ⊥)
      → TellsAt codes (record_at page width i) (record_at page width k) p
  tell i k p m u s n = go (cases_lt p width)
    where
      apart : (codes.agrees (code_at page i p) (code_at page k p) ≡ true) ⊎ (codes.agrees (code_at page i p) (code_at page k p) ≡ false)
          → codes.agrees (code_at page i p) (code_at page k p) ≡ false
      apart (inl t) = absurd (n (compatible_by (code_at page i p) (code_at page k p) t))
      apart (inr f) = f

      go : (p < width) ⊎ (width ≤ p) → TellsAt codes (record_at page width i) (record_at page width k) p
      go (inl l) = subst (λ (T : Type 0). T) (sym (clash_is i k p l)) (apart (cases_Bool (codes.agrees (code_at page i p) (code_at page k p))))
      go (inr l) = absurd (n (inr (inl (blank i p m u l s))))

  row_apart : (i k row : ℕ) → i < records_in page → (tag_at page i ≢ 0) → row < 2 ^ 24 → IsRow codes (record_at page width i) (record_at page width k) row → TellApart page i k row
  row_apart i k row m u small is = (small, λ p l. ((λ h. told i k p ((is p).0 h)), λ n. (is p).1 (tell i k p m u l n)))

  apart_turned : (i k row : ℕ) → TellApart page k i row → TellApart page i k row
  apart_turned i k row (small, is) = (
    small,
    λ p l. (
      (λ h c. (is p l).0 h (turned (code_at page i p) (code_at page k p) c)),
      λ n. (is p l).1 (λ c. n (turned (code_at page k p) (code_at page i p) c)),
    ),
  )

  -- ---- held records are the records in use

  used : (x : Rec ℕ) → Among (page_meaning page width).held x → (k : ℕ) × (k < records_in page) × (tag_at page k ≢ 0) × (record_at page width k ≡ x)
  used x i =
      let r = in_gathered (places page width) x i in
      let l : r.0 < records_in page = omega (arith, r.1.0, length_places page width) in
      let p = place_some page width r.0 x (sym (place_is page width r.0 l) ∙ r.1.1) in
      (r.0, l, p.0, p.1)

  found : (k : ℕ) → k < records_in page → (tag_at page k ≢ 0) → Among (page_meaning page width).held (record_at page width k)
  found k l n = gathered_in (places page width) (record_at page width k) k (omega (arith, l, length_places page width)) (place_is page width k l ∙ place_used page width k n)

  of_two : (i k row : ℕ) → i < records_in page → k < records_in page → Differ page i k → TellApart page i k row → OfTwo page (records_in page) row
  of_two i k row l m d t =
      elim (cases_order i k) [
        | inl same ↦ absurd (d.2 (ap (part_at page) same))
        | inr (inl below) ↦ (i, k, below, m, d, t)
        | inr (inr above) ↦ (k, i, above, l, (d.1, d.0, λ e. d.2 (sym e)), apart_turned k i row t)
      ]

  module _ (rows : List ℕ) (small : Every (λ row. row < 2 ^ 24) rows) (is : IsMatrix codes (Different (page_meaning page width).held) rows) where
    each : (row : ℕ) → Among rows row → OfTwo page (records_in page) row
    each row i =
        let low = all_in (λ r. r < 2 ^ 24) rows row small i in
        let p = all_in (λ r. (x : Rec ℕ) × (y : Rec ℕ) × Different (page_meaning page width).held x y × IsRow codes x y r) rows row is.each i in
        let x = used p.0 p.2.0 in
        let y = used p.1 p.2.1 in
        let parts : part_at page x.0 ≢ part_at page y.0 =
        λ e. p.2.2 (sym (ap (λ (r : Rec ℕ). r.part) x.3) ∙ e ∙ ap (λ (r : Rec ℕ). r.part) y.3) in
        let row_is : IsRow codes (record_at page width x.0) (record_at page width y.0) row =
        subst (λ (r : Rec ℕ). IsRow codes r (record_at page width y.0) row) (sym x.3)
        (subst (λ (r : Rec ℕ). IsRow codes p.0 r row) (sym y.3) p.3) in
        of_two x.0 y.0 row x.1 y.1 (x.2, y.2, parts) (row_apart x.0 y.0 row x.1 x.2 low row_is)

    contains : (xs : List ℕ) (x : ℕ) → Among xs x → ContainsAt xs x
    contains [] x i = absurd i
    contains (y ∷ ys) x (inl e) = (0, omega arith, λ d. e)
    contains (y ∷ ys) x (inr i) = let r = contains ys x i in (suc r.0, omega (arith, r.1), r.2)

    page_matrix : IsMatrixOf page rows
    page_matrix = (
      in_all (OfTwo page (records_in page)) rows each,
      λ i k l m d.
          let n : i < records_in page = omega arith in
          let r = is.all (record_at page width i) (record_at page width k) (found i n d.0, found k m d.1, d.2) in
          (r.0, contains rows r.0 r.1, row_apart i k r.0 n d.0 (all_in (λ q. q < 2 ^ 24) rows r.0 small r.1) r.2),
    )

-- ---- a page that the check accepts

codes_lawful : Lawful ℕ codes
codes_lawful = search rules

module _ (page : List ℕ) (width : ℕ) (accepted : refused_page page width ≡ None) (bytes : (i : ℕ) → Fits w8 (get_or page i 0)) where
  valid_is : valid page width ≡ true
  valid_is = opened_valid page width (ap passed accepted) bytes

  sound : Sound codes (page_meaning page width)
  sound = page_sound page width valid_is

  below : (row : ℕ) → row < 2 ^ width → row < 2 ^ 24
  below row l = omega (arith, l, pow_mono {i = width} {j = 24} sound.wide.1)

  pub page_rows : IsMatrixOf page (matrix_of codes (page_meaning page width).held)
  page_rows =
      page_matrix page width (valid_formed page width valid_is) (matrix_of codes (page_meaning page width).held)
      (All-weaker (λ row. row < 2 ^ width) (λ row. row < 2 ^ 24) below (matrix_of codes (page_meaning page width).held) (matrix_narrow codes (page_meaning page width) sound))
      (matrix_is codes codes_lawful (page_meaning page width).held)

  pub page_plans : Lists (matrix_of codes (page_meaning page width).held) (plans_by codes (page_meaning page width))
  page_plans = all_plans codes (page_meaning page width) sound

-- ---- two matrices of one page have the same plans

among : (xs : List ℕ) (x : ℕ) → ContainsAt xs x → Among xs x
among [] x (i, l, e) = absurd (omega arith)
among (y ∷ ys) x (zero, l, e) = inl (e 0)
among (y ∷ ys) x (suc i, l, e) = inr (among ys x (i, omega (arith, l), e))

module _ (page : List ℕ) where
  -- what tells the same two records apart is one set
  apart_within : (i k s t : ℕ) → TellApart page i k s → TellApart page i k t → Within s t
  apart_within i k s t (small, a) (small', b) j h = let l = below_place s j 24 small h in (b j l).1 ((a j l).0 h)

  apart_same : (i k s t : ℕ) → TellApart page i k s → TellApart page i k t → s ≡ t
  apart_same i k s t a b = within_same s t (apart_within i k s t a b) (apart_within i k t s b a)

  row_other : (rows rows' : List ℕ) → IsMatrixOf page rows → IsMatrixOf page rows' → (s : ℕ) → Among rows s → Among rows' s
  row_other rows rows' is is' s i =
      let p = all_in (OfTwo page (records_in page)) rows s is.0 i in
      let r = is'.1 p.0 p.1 p.2 p.3 p.4 in
      subst (Among rows') (apart_same p.0 p.1 r.0 s r.2 p.5) (among rows' r.0 r.1)

  covers_other : (rows rows' : List ℕ) → IsMatrixOf page rows → IsMatrixOf page rows' → (s : ℕ) → Covers rows s → Covers rows' s
  covers_other rows rows' is is' s c =
      in_all (λ row. Shares row s) rows' (λ row i. all_in (λ r. Shares r s) rows row c (row_other rows' rows is' is row i))

  same_plans : (rows rows' plans plans' : List ℕ) → IsMatrixOf page rows → IsMatrixOf page rows' → Lists rows plans → Lists rows' plans' → plans ≡ plans'
  same_plans rows rows' plans plans' is is' = same_lists rows rows' (covers_other rows rows' is is') (covers_other rows' rows is' is) plans plans'

-- ---- the rows of an accepted page

module _ (page rows : List ℕ) (width : ℕ) (accepted : refused_page page width ≡ None) (bytes : (i : ℕ) → Fits w8 (get_or page i 0)) (is : IsMatrixOf page rows) where
  book_rows : List ℕ
  book_rows = matrix_of codes (page_meaning page width).held

  narrow : Every (λ row. row < 2 ^ width) book_rows
  unfolding book_rows
  narrow = matrix_narrow codes (page_meaning page width) (sound page width accepted bytes)

  -- they have no test past the width
  pub page_narrow : Every (λ row. row < 2 ^ width) rows
  unfolding book_rows
  page_narrow =
      in_all (λ row. row < 2 ^ width) rows
      (λ row i. all_in (λ r. r < 2 ^ width) book_rows row narrow (row_other page rows book_rows is (page_rows page width accepted bytes) row i))

  pub page_fair : Fair width
  page_fair = (sound page width accepted bytes).wide

  -- the plans of the book that the page is are theirs
  pub book_plans : (plans : List ℕ) → Lists rows plans → plans_by codes (page_meaning page width) ≡ plans
  unfolding book_rows
  book_plans plans l =
      same_plans page book_rows rows (plans_by codes (page_meaning page width)) plans (page_rows page width accepted bytes) is (page_plans page width accepted bytes) l
