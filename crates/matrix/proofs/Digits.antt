-- A row digit by digit, from the highest test down.
use Rattle.std.proofs.Common.{◌≡◌, ℕ, zero, suc, ◌+◌, ◌-◌, ◌*◌, ◌^◌, ◌<◌, ◌≤◌, Bool, true, false, cond, List, [], ◌∷◌, length, drop, Some, None, Option, refl, ap, ◌∙◌, arith, pow_mono}
use Rattle.books.proofs.Gathering.{Of}
use Rattle.books.specs.Meanings.{Meaning, Rec, Sound}
use Rattle.books.specs.Questions.{find, reading_at, reading_in}
use Rattle.matrix.proofs.Sizes.{all_full, apart_lt}
use Rattle.matrix.proofs.Walks.{all_find}
use Rattle.matrix.specs.Rows.{apart}
use Rattle.matrix.specs.Walks.{clashing, readings_in}
use Rattle.readings.specs.Kinds.{Kind}
use Rattle.std.proofs.lemmas.List.{drop_all, length-drop}

module _ {R : Type 0} (kind : Kind R) where
  apart_none : (xs : List R) → apart kind xs [] ≡ 0
  unfolding apart
  apart_none [] = refl
  apart_none (x ∷ xs) = refl

  clashing_none : (o : Option R) → clashing kind o None ≡ 0
  clashing_none None = refl
  clashing_none (Some x) = refl

  pub clashing_le : (a b : Option R) → clashing kind a b ≤ 1
  clashing_le None b = omega arith
  clashing_le (Some x) None = omega arith
  clashing_le (Some x) (Some y) = go (kind.agrees x y)
    where
      go : (b : Bool) → cond b 0 1 ≤ 1
      go true = omega arith
      go false = omega arith

  -- the tests from place p on: the one at p, and those after it
  apart_more : (p : ℕ) (xs ys : List R)
      → apart kind (drop p xs) (drop p ys)
      ≡ clashing kind (reading_at (suc p) xs) (reading_at (suc p) ys) + 2 * apart kind (drop (suc p) xs) (drop (suc p) ys)
  unfolding apart reading_at
  apart_more zero [] ys = refl
  apart_more zero (x ∷ xs) [] = let a = apart_none xs in omega arith
  apart_more zero (x ∷ xs) (y ∷ ys) = refl
  apart_more (suc p) [] ys = refl
  apart_more (suc p) (x ∷ xs) [] =
      let a = apart_none (drop p xs) in
      let b = apart_none (drop (suc p) xs) in
      let c = clashing_none (reading_at (suc p) xs) in
      omega arith
  apart_more (suc p) (x ∷ xs) (y ∷ ys) = apart_more p xs ys

  readings_in_lem : (t : ℕ) (o : Option (Rec R)) → reading_in t o ≡ reading_at t (readings_in o)
  unfolding reading_at
  readings_in_lem zero None = refl
  readings_in_lem (suc t) None = refl
  readings_in_lem t (Some x) = refl

  -- one test further down
  pub apart_down : (a b : Option (Rec R)) (t row d : ℕ) → 0 < t
      → row ≡ apart kind (drop t (readings_in a)) (drop t (readings_in b))
      → d ≡ clashing kind (reading_in t a) (reading_in t b)
      → 2 * row + d ≡ apart kind (drop (t - 1) (readings_in a)) (drop (t - 1) (readings_in b))
  apart_down a b zero row d l e f = absurd (none l)
    where
      none : 0 < 0 → ⊥
      none h = omega arith
  apart_down a b (suc t) row d l e f =
      let more = apart_more t (readings_in a) (readings_in b) in
      let digit : d ≡ clashing kind (reading_at (suc t) (readings_in a)) (reading_at (suc t) (readings_in b)) =
      f ∙ ap (λ (o : Option R). clashing kind o (reading_in (suc t) b)) (readings_in_lem (suc t) a)
      ∙ ap (clashing kind (reading_at (suc t) (readings_in a))) (readings_in_lem (suc t) b) in
      let before : suc t - 1 ≡ t = omega arith in
      let same = ap (λ (n : ℕ). apart kind (drop n (readings_in a)) (drop n (readings_in b))) before in
      omega arith

  -- above all tests there is none
  pub apart_end : (n : ℕ) (xs ys : List R) → length xs ≤ n → apart kind (drop n xs) ys ≡ 0
  unfolding apart
  apart_end n xs ys h = ap (λ (zs : List R). apart kind zs ys) (drop_all n xs h)

  -- a row that lacks a test yet has room for it
  pub apart_room : (t : ℕ) (xs ys : List R) → 0 < t → length xs ≤ 24 → apart kind (drop t xs) ys < 8388608
  apart_room t xs ys l h =
      let low = apart_lt kind (drop t xs) ys in
      let short : length (drop t xs) ≤ 23 = omega (arith, length-drop t xs) in
      let top : 2 ^ length (drop t xs) ≤ 2 ^ 23 = pow_mono short in
      omega arith

  -- a found record has a reading for each test
  pub found_full : (m : Meaning R) → Sound kind m → (t : ℕ) → length (readings_in (find t m.held)) ≤ m.width
  found_full m s t = go (find t m.held) (all_find (λ x. length x.readings ≡ m.width) t m.held (all_full kind m s))
    where
      go : (o : Option (Rec R)) → Of (λ x. length x.readings ≡ m.width) o → length (readings_in o) ≤ m.width
      go None h = omega arith
      go (Some x) h = omega arith

  -- so a row that a book's readings make has room for the next test
  pub row_room : (m : Meaning R) → Sound kind m → (a b t row : ℕ) → 0 < t
      → row ≡ apart kind (drop t (readings_in (find a m.held))) (drop t (readings_in (find b m.held))) → row < 8388608
  row_room m s a b t row l e =
      let full = found_full m s a in
      omega (arith, apart_room t (readings_in (find a m.held)) (drop t (readings_in (find b m.held))) l (omega (arith, full, s.wide)))
