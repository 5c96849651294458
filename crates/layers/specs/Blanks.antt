-- Readings with the blank at every shut test.
use Rattle.std.specs.Prelude.{◌≡◌, ℕ, zero, suc, ◌+◌, Bool, true, false, cond, not, ◌&&◌, ◌||◌, List, [], ◌∷◌, map, length, Some, None, Option, slice_set}
use Rattle.books.specs.Changes.{closed_reading}
use Rattle.books.specs.Meanings.{BlankFrom, Rec}
use Rattle.books.specs.Questions.{find, reading_at, reading_in}
use Rattle.books.specs.declared.faults.BookFault.TheVariants.{ClosedTest}
use Rattle.books.specs.declared.faults.BookFault.{BookFault}
use Rattle.layers.specs.Down.{some_none}
use Rattle.layers.specs.Mapped.{find_map}
use Rattle.layers.specs.Bars.{blanked, covered, under_bar}
use Rattle.readings.specs.Kinds.{Kind, Lawful}
use Rattle.std.proofs.lemmas.Bool.{cond-false}
use Rattle.std.specs.Option.{option_map}
use Rattle.std.proofs.Math.Path.{ap, refl, sym}
use Rattle.std.proofs.Common.{◌∙◌, add-suc, add-zero, suc-add, add-one, one-add}

module _ {R : Type 0} (kind : Kind R) (shut : ℕ → Bool) where
  pub length_blanked : (test : ℕ) (xs : List R) → length (blanked kind shut test xs) ≡ length xs
  unfolding blanked
  length_blanked test [] = refl
  length_blanked test (x ∷ xs) = ap suc (length_blanked (suc test) xs)

  reading_from : (test k : ℕ) (xs : List R)
      → reading_at (suc k) (blanked kind shut test xs) ≡ option_map (covered kind shut (test + k)) (reading_at (suc k) xs)
  unfolding blanked reading_at
  reading_from test zero [] = refl
  reading_from test (suc k) [] = refl
  reading_from test zero (x ∷ xs) = ap (λ (n : ℕ). Some (covered kind shut n x)) (sym (add-zero test))
  reading_from test (suc k) (x ∷ xs) =
      reading_from (suc test) k xs ∙ ap (λ (n : ℕ). option_map (covered kind shut n) (reading_at (suc k) xs)) (suc-add test k ∙ sym (add-suc test k))

  -- the reading shown at a test
  pub reading_blanked : (test : ℕ) (xs : List R) → reading_at test (blanked kind shut 1 xs) ≡ option_map (covered kind shut test) (reading_at test xs)
  unfolding reading_at
  reading_blanked zero xs = refl
  reading_blanked (suc k) xs = reading_from 1 k xs ∙ ap (λ (n : ℕ). option_map (covered kind shut n) (reading_at (suc k) xs)) (one-add k)

  pub blank_blanked : (closed : ℕ → Bool) (test : ℕ) (xs : List R) → BlankFrom kind closed test xs
      → BlankFrom kind (λ t. shut t || closed t) test (blanked kind shut test xs)
  unfolding blanked
  blank_blanked closed test [] h = tt
  blank_blanked closed test (x ∷ xs) h = (here (shut test) (closed test) h.0, blank_blanked closed (suc test) xs h.1)
    where
      here : (a b : Bool) → (b ≡ true → x ≡ kind.blank) → (a || b) ≡ true → cond a kind.blank x ≡ kind.blank
      here true b k e = refl
      here false b k e = k e

  -- at a test that is shut or closed, a reading that passes is the blank, and so is shown as it is
  passing : Lawful R kind → (a b : Bool) (x : R) (fault : BookFault) (rest : Option BookFault)
      → cond ((a || b) && not (kind.is_blank x)) (Some fault) rest ≡ None → (cond a kind.blank x ≡ x) × (rest ≡ None)
  passing law a b x fault rest h = go a b (kind.is_blank x) refl h
    where
      go : (a b c : Bool) → kind.is_blank x ≡ c → cond ((a || b) && not c) (Some fault) rest ≡ None
          → (cond a kind.blank x ≡ x) × (rest ≡ None)
      go false false c e z = (refl, z)
      go false true true e z = (refl, z)
      go false true false e z = (refl, absurd (some_none z))
      go true b true e z = (sym (law.only_blank x e), z)
      go true b false e z = absurd (some_none z)

  -- readings that pass the closed tests are shown as they are
  pub blanked_same : Lawful R kind → (closed : ℕ → Bool) (test : ℕ) (xs : List R)
      → closed_reading kind (λ t. shut t || closed t) test xs ≡ None → blanked kind shut test xs ≡ xs
  unfolding blanked closed_reading
  blanked_same law closed test [] h = refl
  blanked_same law closed test (x ∷ xs) h =
      let p = passing law (shut test) (closed test) x (ClosedTest test) (closed_reading kind (λ t. shut t || closed t) (test + 1) xs) h in
      ap (λ (y : R). y ∷ blanked kind shut (suc test) xs) p.0
      ∙ ap (λ (ys : List R). x ∷ ys)
      (blanked_same law closed (suc test) xs (ap (λ (n : ℕ). closed_reading kind (λ t. shut t || closed t) n xs) (sym (add-one test)) ∙ p.1))

  pub blanked_set : (test i : ℕ) (xs : List R) (r : R) → shut (test + i) ≡ false
      → blanked kind shut test (slice_set xs i r) ≡ slice_set (blanked kind shut test xs) i r
  unfolding blanked
  blanked_set test i [] r e = refl
  blanked_set test zero (x ∷ xs) r e =
      ap (λ (y : R). y ∷ blanked kind shut (suc test) xs) (cond-false (shut test) kind.blank r (ap shut (sym (add-zero test)) ∙ e))
  blanked_set test (suc i) (x ∷ xs) r e =
      ap (λ (ys : List R). covered kind shut test x ∷ ys) (blanked_set (suc test) i xs r (ap shut (suc-add test i ∙ sym (add-suc test i)) ∙ e))

-- the reading of a tag at a test, as shown
pub reading_shown : {R : Type 0} (kind : Kind R) (shut : ℕ → Bool) (tag test : ℕ) (xs : List (Rec R))
    → reading_in test (find tag (map (under_bar kind shut) xs)) ≡ option_map (covered kind shut test) (reading_in test (find tag xs))
reading_shown {R = R} kind shut tag test xs = ap (reading_in test) (find_map (under_bar kind shut) (λ x. refl) tag xs) ∙ go (find tag xs)
  where
    go : (o : Option (Rec R)) → reading_in test (option_map (under_bar kind shut) o) ≡ option_map (covered kind shut test) (reading_in test o)
    go None = refl
    go (Some x) = reading_blanked kind shut test x.readings
