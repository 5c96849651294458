-- The matrix of a page: a row is a set of 24 tests, and there are at most 2,016 rows.
use Rattle.std.proofs.Common.{◌≡◌, ℕ, zero, suc, ◌+◌, ◌*◌, ◌%◌, ◌^◌, ◌<◌, ◌≤◌, true, false, List, [], ◌∷◌, ◌++◌, length, sym, ap, ◌∙◌, add-zero, suc-mul, pow-suc, mul-suc, add-one, arith}
use Rattle.page_book.specs.Layout.{code_at}
use Rattle.page_book.specs.Rows.{apart, same_or_blank, differing, matrix_to, row_at, row_of, rows_with}
use Rattle.sets.proofs.Runs.{sets_append}
use Rattle.std.proofs.lemmas.Nat.{mul-le, one_shl}
use Rattle.std.proofs.ByRecursion.{All-append}
use Rattle.std.proofs.lemmas.List.{append-nil, length-append}
use Rattle.std.proofs.lemmas.Bool.{cond_both, cond-false, cond-true}
use Rattle.std.specs.List.{AllByRecursion as Every}
use lib.Seq.{sets}

-- where xs is written, ys after it makes zs
pub written_more : (start now xs ys zs : List ℕ) (from count : ℕ) → count ≡ from + length xs → now ≡ sets start from xs → zs ≡ xs ++ ys → (count + length ys ≡ from + length zs) × (sets now count ys ≡ sets start from zs)
written_more start now xs ys zs from count c n z = (
  omega (arith, ap length z ∙ length-append xs ys),
  rw (c, n, z) (sym (sets_append start from xs ys)),
)

module _ (page : List ℕ) (i k : ℕ) where
  -- one more test, at which the readings are compatible, or not
  pub apart_same : (p : ℕ) → true ≡ same_or_blank (code_at page i p) (code_at page k p) → apart page i k (p + 1) ≡ apart page i k p
  unfolding apart
  apart_same p h = rw (add-one) (ap (λ n. apart page i k p + n) (cond-true (same_or_blank (code_at page i p) (code_at page k p)) 0 (2 ^ p) (sym h)) ∙ add-zero _)

  pub apart_other : (p : ℕ) → false ≡ same_or_blank (code_at page i p) (code_at page k p) → apart page i k (p + 1) ≡ apart page i k p + 2 ^ p
  unfolding apart
  apart_other p h = rw (add-one) (ap (λ n. apart page i k p + n) (cond-false (same_or_blank (code_at page i p) (code_at page k p)) 0 (2 ^ p) (sym h)))

  -- as the loop finds it, with its own readings and its own shift
  pub row_more : (p a b row : ℕ) → a ≡ code_at page i p → b ≡ code_at page k p → false ≡ same_or_blank a b → p < 32 → row ≡ apart page i k p → row + (1 * 2 ^ p) % 4294967296 ≡ apart page i k (p + 1)
  row_more p a b row x y h l e =
      let z = one_shl p 32 l in
      let m = apart_other p (h ∙ ap (λ v. same_or_blank v b) x ∙ ap (λ v. same_or_blank (code_at page i p) v) y) in
      omega arith

  pub row_same : (p a b row : ℕ) → a ≡ code_at page i p → b ≡ code_at page k p → true ≡ same_or_blank a b → row ≡ apart page i k p → row ≡ apart page i k (p + 1)
  row_same p a b row x y h e =
      e ∙ sym (apart_same p (h ∙ ap (λ v. same_or_blank v b) x ∙ ap (λ v. same_or_blank (code_at page i p) v) y))

  -- a set of n tests is below 2 ^ n
  pub apart_lt : (n : ℕ) → apart page i k n < 2 ^ n
  unfolding apart
  apart_lt zero = omega arith
  apart_lt (suc p) =
      let low = apart_lt p in
      let double : 2 ^ suc p ≡ 2 ^ p + 2 ^ p = rw pow-suc (omega arith) in
      rw double
      (cond_both (same_or_blank (code_at page i p) (code_at page k p)) 0 (2 ^ p) (λ n. apart page i k p + n < 2 ^ p + 2 ^ p)
      (λ _. omega arith) (λ _. omega arith))

module _ (page : List ℕ) (k : ℕ) where
  -- one more record, which differs, or does not
  pub rows_one : (i : ℕ) → true ≡ differing page i k → rows_with page k (i + 1) ≡ rows_with page k i ++ row_of page i k ∷ []
  unfolding rows_with
  rows_one i h = rw (add-one i) (ap (λ r. rows_with page k i ++ r) (cond-true (differing page i k) (row_of page i k ∷ []) [] (sym h)))

  pub rows_none : (i : ℕ) → false ≡ differing page i k → rows_with page k (i + 1) ≡ rows_with page k i
  unfolding rows_with
  rows_none i h =
      rw (add-one i)
      (ap (λ r. rows_with page k i ++ r) (cond-false (differing page i k) (row_of page i k ∷ []) [] (sym h)) ∙ append-nil (rows_with page k i))

  -- as many rows as records at most
  pub length_rows : (n : ℕ) → length (rows_with page k n) ≤ n
  unfolding rows_with
  length_rows zero = omega arith
  length_rows (suc i) =
      let one : length (row_at page i k) ≤ 1 =
      cond_both (differing page i k) (row_of page i k ∷ []) [] (λ xs. length xs ≤ 1) (λ _. omega arith) (λ _. omega arith) in
      let low = length_rows i in
      simp length-append (omega arith)

  -- and each is a set of 24 tests
  pub rows_below : (n : ℕ) → Every (λ r. r < 2 ^ 24) (rows_with page k n)
  unfolding rows_with
  rows_below zero = tt
  rows_below (suc i) =
      All-append (λ r. r < 2 ^ 24) (rows_with page k i) (row_at page i k) (rows_below i)
      (cond_both (differing page i k) (row_of page i k ∷ []) [] (Every (λ r. r < 2 ^ 24)) (λ _. (apart_lt page i k 24, tt)) (λ _. tt))

module _ (page : List ℕ) where
  pub matrix_more : (k : ℕ) → matrix_to page (k + 1) ≡ matrix_to page k ++ rows_with page k k
  unfolding matrix_to
  matrix_more k = rw (add-one k)

  -- n records make at most n (n − 1) / 2 rows
  pub length_matrix : (n : ℕ) → 2 * length (matrix_to page n) + n ≤ n * n
  unfolding matrix_to
  length_matrix zero = omega arith
  length_matrix (suc k) =
      let low = length_matrix k in
      let more = length_rows page k k in
      simp length-append (omega (arith, mul-suc (suc k) k, suc-mul k k))

  -- so 64 records make at most 2,016, and there is room for those of one more record
  pub matrix_fits : (n : ℕ) → n ≤ 64 → length (matrix_to page n) ≤ 2016
  matrix_fits n h = omega (arith, length_matrix n, mul-le n n 64 n h (omega arith))

  pub matrix_room : (k : ℕ) → k < 64 → length (matrix_to page k) + k ≤ 2016
  matrix_room k h = omega (arith, length_matrix k, mul-le k k 63 k (omega arith) (omega arith))

  pub matrix_below : (n : ℕ) → Every (λ r. r < 2 ^ 24) (matrix_to page n)
  unfolding matrix_to
  matrix_below zero = tt
  matrix_below (suc k) =
      All-append (λ r. r < 2 ^ 24) (matrix_to page k) (rows_with page k k) (matrix_below k) (rows_below page k k)
