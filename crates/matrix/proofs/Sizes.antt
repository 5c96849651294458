-- How wide the rows are, and how many.
use Rattle.std.proofs.Common.{◌≡◌, ℕ, zero, suc, ◌+◌, ◌*◌, ◌^◌, ◌<◌, ◌≤◌, Bool, true, false, cond, List, [], ◌∷◌, length, filter, subst, suc-mul, pow-suc, mul-suc, arith}
use Rattle.books.specs.Meanings.{Fits, Meaning, Rec, Sound}
use Rattle.matrix.specs.Apart.{differ}
use Rattle.matrix.specs.Rows.{apart, matrix_of, row_of, rows_with}
use Rattle.readings.specs.Kinds.{Kind}
use Rattle.std.proofs.lemmas.Nat.{mul-le}
use Rattle.std.proofs.ByRecursion.{All-append, All-map, All-weaker}
use Rattle.std.proofs.lemmas.List.{length-append, length-map}
use Rattle.std.proofs.lemmas.List.Sums.{count_by-le-length, length-filter}
use Rattle.std.specs.List.{AllByRecursion as Every}
use Rattle.sets.proofs.Members.{all_in, in_all}
use Rattle.sets.specs.Lists.{Among}

module _ {R : Type 0} (kind : Kind R) where
  -- ---- how wide

  -- a row has no test past the readings of either record
  pub apart_lt : (xs ys : List R) → apart kind xs ys < 2 ^ length xs
  unfolding apart
  apart_lt [] ys = omega arith
  apart_lt (x ∷ xs) [] = power (suc (length xs))
    where
      power : (n : ℕ) → 0 < 2 ^ n
      power zero = omega arith
      power (suc n) = let p = power n in let e = pow-suc 2 n in omega arith
  apart_lt (x ∷ xs) (y ∷ ys) = low (kind.agrees x y) (apart_lt xs ys)
    where
      low : (b : Bool) → apart kind xs ys < 2 ^ length xs → cond b 0 1 + 2 * apart kind xs ys < 2 ^ suc (length xs)
      low true l = let e = pow-suc 2 (length xs) in omega arith
      low false l = let e = pow-suc 2 (length xs) in omega arith

  pub rows_within : (w : ℕ) (x : Rec R) (ys : List (Rec R)) → length x.readings ≡ w → Every (λ row. row < 2 ^ w) (rows_with kind x ys)
  unfolding rows_with
  rows_within w x ys e =
      All-map (λ row. row < 2 ^ w) (row_of kind x) (filter (differ x) ys)
      (in_all (λ y. row_of kind x y < 2 ^ w) (filter (differ x) ys)
      (λ y i. subst (λ (n : ℕ). row_of kind x y < 2 ^ n) e (apart_lt x.readings y.readings)))

  matrix_within : (w : ℕ) (xs : List (Rec R)) → Every (λ x. length x.readings ≡ w) xs → Every (λ row. row < 2 ^ w) (matrix_of kind xs)
  unfolding matrix_of
  matrix_within w [] h = tt
  matrix_within w (x ∷ xs) (e, h) = All-append (λ row. row < 2 ^ w) (rows_with kind x xs) (matrix_of kind xs) (rows_within w x xs e) (matrix_within w xs h)

  pub all_full : (m : Meaning R) → Sound kind m → Every (λ x. length x.readings ≡ m.width) m.held
  all_full m s =
      All-weaker (Fits kind m.width m.closed_test) (λ x. length x.readings ≡ m.width) (λ x f. f.full) m.held s.records

  pub matrix_narrow : (m : Meaning R) → Sound kind m → Every (λ row. row < 2 ^ m.width) (matrix_of kind m.held)
  matrix_narrow m s = matrix_within m.width m.held (all_full m s)

  pub rows_narrow : (m : Meaning R) → Sound kind m → (x : Rec R) → Among m.held x → Every (λ row. row < 2 ^ m.width) (rows_with kind x m.held)
  rows_narrow m s x i = rows_within m.width x m.held (all_in (λ y. length y.readings ≡ m.width) m.held x (all_full m s) i)

  -- ---- how many

  pub rows_few : (x : Rec R) (ys : List (Rec R)) → length (rows_with kind x ys) ≤ length ys
  unfolding rows_with
  rows_few x ys = omega (arith, length-map (filter (differ x) ys) (row_of kind x), length-filter (differ x) ys, count_by-le-length (differ x) ys)

  -- n records make at most n (n − 1) / 2 rows
  length_matrix : (xs : List (Rec R)) → 2 * length (matrix_of kind xs) + length xs ≤ length xs * length xs
  unfolding matrix_of
  length_matrix [] = omega arith
  length_matrix (x ∷ xs) =
      let low = length_matrix xs in
      let more = rows_few x xs in
      simp length-append (omega (arith, mul-suc (suc (length xs)) (length xs), suc-mul (length xs) (length xs)))

  pub matrix_few : (held : List (Rec R)) → length held ≤ 64 → length (matrix_of kind held) ≤ 2016
  matrix_few held h = omega (arith, length_matrix held, mul-le (length held) (length held) 64 (length held) h (omega arith))
