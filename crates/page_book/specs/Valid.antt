-- A valid page: well formed, and every number on it a byte.
use Rattle.std.proofs.Common.{◌≡◌, ℕ, zero, suc, ◌<◌, true, false, not, ltb, List, [], ◌∷◌, length, get_or, is_some, Some, None, Ok, Option, Fits, w8, refl, ap, arith}
use Rattle.page_book.specs.Answered.{by_well_formed, ok_by, well_formed}
use Rattle.page_book.specs.Layout.{WellFormed}
use Rattle.page_book.specs.Places.{are_bytes, valid}
use Rattle.page_book.specs.Lowest.{lowest}
use Rattle.page_book.specs.Refused.{layout_fault, refused_page, twice_fault}
use Rattle.refusals.specs.Faults.{passed}
use Rattle.std.proofs.lemmas.Bool.{and_from, and_parts, lt-ltb, ltb-true, not-true}

pub byte_at_lem : (xs : List ℕ) → are_bytes xs ≡ true → (i : ℕ) → get_or xs i 0 < 256
unfolding are_bytes
byte_at_lem [] h i = omega arith
byte_at_lem (x ∷ xs) h zero = ltb-true x 256 (and_parts (ltb x 256) (are_bytes xs) h).0
byte_at_lem (x ∷ xs) h (suc i) = byte_at_lem xs (and_parts (ltb x 256) (are_bytes xs) h).1 i

pub bytes_from : (xs : List ℕ) → ((i : ℕ) → i < length xs → get_or xs i 0 < 256) → are_bytes xs ≡ true
unfolding are_bytes
bytes_from [] h = refl
bytes_from (x ∷ xs) h = and_from (ltb x 256) (are_bytes xs) (lt-ltb x 256 (h 0 (omega arith))) (bytes_from xs (λ i l. h (suc i) (omega arith)))

none_from : {A : Type 0} (o : Option A) → is_some o ≡ false → o ≡ None
none_from None h = refl
none_from (Some x) h = cc

module _ (page : List ℕ) (width : ℕ) where
  pub valid_formed : valid page width ≡ true → WellFormed page width
  unfolding valid
  valid_formed h =
      well_formed page width
      (none_from (refused_page page width) (not-true (is_some (refused_page page width)) (and_parts (are_bytes page) (not (is_some (refused_page page width))) h).1))

  pub valid_byte : valid page width ≡ true → (i : ℕ) → get_or page i 0 < 256
  unfolding valid
  valid_byte h = byte_at_lem page (and_parts (are_bytes page) (not (is_some (refused_page page width))) h).0

  pub valid_accepted : valid page width ≡ true → refused_page page width ≡ None
  valid_accepted h = by_well_formed page width (valid_formed h)

  pub by_accepted : refused_page page width ≡ None → are_bytes page ≡ true → valid page width ≡ true
  unfolding valid
  by_accepted n b = and_from (are_bytes page) (not (is_some (refused_page page width))) b (ap (λ o. not (is_some o)) n)

  pub by_valid : WellFormed page width → ((i : ℕ) → get_or page i 0 < 256) → valid page width ≡ true
  by_valid w b = by_accepted (by_well_formed page width w) (bytes_from page (λ i l. b i))

-- a page that the check accepts, in memory
pub opened_valid : (page : List ℕ) (width : ℕ) → passed (refused_page page width) ≡ Ok tt → ((i : ℕ) → Fits w8 (get_or page i 0)) → valid page width ≡ true
opened_valid page width h b = by_accepted page width (ok_by _ h) (bytes_from page (λ i l. (b i).fits))

-- a page of no bytes
pub valid_empty : valid [] 1 ≡ true
unfolding valid are_bytes layout_fault twice_fault lowest
valid_empty = refl
