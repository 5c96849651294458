-- The computed matrix is the matrix in words.
use Rattle.std.proofs.Common.{◌≡◌, ℕ, zero, suc, ◌+◌, ◌/◌, ◌%◌, ◌^◌, ◌<◌, ◌≤◌, true, cond, List, [], ◌∷◌, ap, ◌∙◌, inl, inr, add-zero, arith}
use Rattle.page_book.specs.Layout.{code_at, records_in}
use Rattle.page_book.proofs.Digits.{digit_high, digit_top}
use Rattle.page_book.proofs.Matrix.{apart_lt}
use Rattle.page_book.specs.Rows.{Compatible, Differ, IsMatrix, OfTwo, TellApart, apart, same_or_blank, differing, matrix_of, matrix_to, row_at, row_of, rows_with}
use Rattle.std.proofs.ByRecursion.{All-append, has_append_left, has_append_right, has_push}
use Rattle.std.proofs.lemmas.Bool.{cases_Bool, cases_order, cond_both, cond-false, cond-true}
use Rattle.std.proofs.lemmas.Bool.Decides.{nat_tests}
use Rattle.std.specs.List.{ContainsAt as Has, AllByRecursion as Every}

-- the tests say what the words say
compatible_by : (a b : ℕ) → same_or_blank a b ≡ true → Compatible a b
compatible_by a b h = grind (arith, nat_tests)

by_compatible : (a b : ℕ) → Compatible a b → same_or_blank a b ≡ true
by_compatible a b h = grind (arith, nat_tests)

differ_by : (page : List ℕ) (i k : ℕ) → differing page i k ≡ true → Differ page i k
differ_by page i k h = ((λ e. grind (arith, nat_tests)), (λ e. grind (arith, nat_tests)), (λ e. grind (arith, nat_tests)))

by_differ : (page : List ℕ) (i k : ℕ) → Differ page i k → differing page i k ≡ true
by_differ page i k h = grind (arith, nat_tests)

module _ (page : List ℕ) (i k : ℕ) where
  -- the digit of test p + 1
  apart_digit : (n p : ℕ) → p < n → apart page i k n / 2 ^ p % 2 ≡ cond (same_or_blank (code_at page i p) (code_at page k p)) 0 1
  unfolding apart
  apart_digit zero p l = absurd (omega arith)
  apart_digit (suc q) p l =
      elim (cases_order p q) [
        | inl same ↦
            rw same (digit_top (same_or_blank (code_at page i q) (code_at page k q)) (apart page i k q) q (apart_lt page i k q))
        | inr (inl below) ↦
            cond_both (same_or_blank (code_at page i q) (code_at page k q)) 0 (2 ^ q)
            (λ d. (apart page i k q + d) / 2 ^ p % 2 ≡ cond (same_or_blank (code_at page i p) (code_at page k p)) 0 1)
            (λ _. ap (λ n. n / 2 ^ p % 2) (add-zero (apart page i k q)) ∙ apart_digit q p below)
            (λ _. digit_high (apart page i k q) p q below ∙ apart_digit q p below)
        | inr (inr above) ↦ absurd (omega arith)
      ]

  tell_apart : TellApart page i k (row_of page i k)
  tell_apart = (apart_lt page i k 24, λ p l. (told p l, tell p l))
    where
      told : (p : ℕ) → p < 24 → row_of page i k / 2 ^ p % 2 ≡ 1 → Compatible (code_at page i p) (code_at page k p) → ⊥
      told p l e h =
          let d = apart_digit 24 p l in
          let z = cond-true {A = ℕ} (same_or_blank (code_at page i p) (code_at page k p)) 0 1 (by_compatible _ _ h) in
          omega arith

      tell : (p : ℕ) → p < 24 → (Compatible (code_at page i p) (code_at page k p) → ⊥) → row_of page i k / 2 ^ p % 2 ≡ 1
      tell p l n =
          elim (cases_Bool (same_or_blank (code_at page i p) (code_at page k p))) [
            | inl pass ↦ absurd (n (compatible_by _ _ pass))
            | inr fail ↦ apart_digit 24 p l ∙ cond-false (same_or_blank (code_at page i p) (code_at page k p)) 0 1 fail
          ]

module _ (page : List ℕ) where
  -- every row is that of two records that differ
  rows_of_two : (m k n : ℕ) → k < m → n ≤ k → Every (OfTwo page m) (rows_with page k n)
  unfolding rows_with
  rows_of_two m k zero l h = tt
  rows_of_two m k (suc i) l h =
      All-append (OfTwo page m) (rows_with page k i) (row_at page i k) (rows_of_two m k i l (omega arith))
      (cond_both (differing page i k) (row_of page i k ∷ []) [] (Every (OfTwo page m))
      (λ e. ((i, k, omega arith, l, differ_by page i k e, tell_apart page i k), tt)) (λ _. tt))

  matrix_of_two : (m n : ℕ) → n ≤ m → Every (OfTwo page m) (matrix_to page n)
  unfolding matrix_to
  matrix_of_two m zero h = tt
  matrix_of_two m (suc k) h =
      All-append (OfTwo page m) (matrix_to page k) (rows_with page k k) (matrix_of_two m k (omega arith))
      (rows_of_two m k k (omega arith) (omega arith))

  -- every two records that differ have their row
  rows_has : (k n i : ℕ) → i < n → Differ page i k → Has (rows_with page k n) (row_of page i k)
  unfolding rows_with
  rows_has k zero i l d = absurd (omega arith)
  rows_has k (suc j) i l d =
      elim (cases_order i j) [
        | inl same ↦
            rw (← same)
            (has_append_right (rows_with page k i) (row_at page i k) (row_of page i k)
            (rw (cond-true (differing page i k) (row_of page i k ∷ []) [] (by_differ page i k d)) (has_push [] (row_of page i k))))
        | inr (inl below) ↦ has_append_left (rows_with page k j) (row_at page j k) (row_of page i k) (rows_has k j i below d)
        | inr (inr above) ↦ absurd (omega arith)
      ]

  matrix_has : (n i k : ℕ) → i < k → k < n → Differ page i k → Has (matrix_to page n) (row_of page i k)
  unfolding matrix_to
  matrix_has zero i k l m d = absurd (omega arith)
  matrix_has (suc j) i k l m d =
      elim (cases_order k j) [
        | inl same ↦
            has_append_right (matrix_to page j) (rows_with page j j) (row_of page i k) (rw (← same) (rows_has k k i l d))
        | inr (inl below) ↦
            has_append_left (matrix_to page j) (rows_with page j j) (row_of page i k) (matrix_has j i k l below d)
        | inr (inr above) ↦ absurd (omega arith)
      ]

  pub is_matrix : IsMatrix page (matrix_of page)
  is_matrix = (
    matrix_of_two (records_in page) (records_in page) (omega arith),
    λ i k l m d. (row_of page i k, matrix_has (records_in page) i k l m d, tell_apart page i k),
  )
