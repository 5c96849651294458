-- The row of two records is the set of exactly the tests that tell them apart.
use Rattle.std.proofs.Common.{◌≡◌, ℕ, zero, suc, ◌+◌, ◌*◌, ◌/◌, ◌%◌, Bool, true, false, cond, List, [], ◌∷◌, Some, None, Option, sym, refl, ap, ◌∙◌, arith}
use Rattle.books.specs.Meanings.{Rec}
use Rattle.books.specs.Questions.{reading_at}
use Rattle.matrix.specs.Apart.{Clash, TellsAt}
use Rattle.matrix.specs.Rows.{apart, row_of}
use Rattle.matrix.specs.Theorems.{IsRow}
use Rattle.readings.specs.Kinds.{Kind, Lawful}
use Rattle.sets.proofs.Bits.{bit_suc, bit_zero}
use Rattle.sets.proofs.Places.{has_not}
use Rattle.sets.specs.Sets.{Has, bit}
use Rattle.std.proofs.lemmas.Bool.{both_ways}

-- the digits of a set made of its first digit and the rest
later_bit : (b : Bool) (j n : ℕ) → bit (suc j) (cond b 0 1 + 2 * n) ≡ bit j n
later_bit b j n = bit_suc j (cond b 0 1 + 2 * n) ∙ ap (bit j) (half b)
  where
    half : (b : Bool) → (cond b 0 1 + 2 * n) / 2 ≡ n
    half true = omega arith
    half false = omega arith

first_bit : (b : Bool) (n : ℕ) → Has 0 (cond b 0 1 + 2 * n) → b ≡ false
first_bit true n h = absurd (even (2 * n) h (omega arith))
  where
    even : (m : ℕ) → Has 0 (0 + m) → m % 2 ≡ 0 → ⊥
    even m k z = omega arith
first_bit false n h = refl

module _ {R : Type 0} (kind : Kind R) where
  -- what is not there clashes with nothing
  no_clash : (a : Option R) → Clash kind a None → ⊥
  no_clash None c = c
  no_clash (Some x) c = c

  apart_clash : (xs ys : List R) (j : ℕ) → Has j (apart kind xs ys) → Clash kind (reading_at (suc j) xs) (reading_at (suc j) ys)
  unfolding apart reading_at
  apart_clash [] ys j h = absurd (has_not j 0 h (bit_zero j))
  apart_clash (x ∷ xs) [] j h = absurd (has_not j 0 h (bit_zero j))
  apart_clash (x ∷ xs) (y ∷ ys) zero h = first_bit (kind.agrees x y) (apart kind xs ys) h
  apart_clash (x ∷ xs) (y ∷ ys) (suc j) h = apart_clash xs ys j (sym (later_bit (kind.agrees x y) j (apart kind xs ys)) ∙ h)

  clash_apart : (xs ys : List R) (j : ℕ) → Clash kind (reading_at (suc j) xs) (reading_at (suc j) ys) → Has j (apart kind xs ys)
  unfolding apart reading_at
  clash_apart [] ys j c = absurd c
  clash_apart (x ∷ xs) [] j c = absurd (no_clash (reading_at (suc j) (x ∷ xs)) c)
  clash_apart (x ∷ xs) (y ∷ ys) zero c = first (kind.agrees x y) c
    where
      first : (b : Bool) → b ≡ false → Has 0 (cond b 0 1 + 2 * apart kind xs ys)
      first true e = absurd (both_ways true e refl)
      first false e = odd (2 * apart kind xs ys) (omega arith)
        where
          odd : (m : ℕ) → m % 2 ≡ 0 → Has 0 (1 + m)
          odd m z = omega arith
  clash_apart (x ∷ xs) (y ∷ ys) (suc j) c = later_bit (kind.agrees x y) j (apart kind xs ys) ∙ clash_apart xs ys j c

  pub row_is : (x y : Rec R) → IsRow kind x y (row_of kind x y)
  row_is x y j = (apart_clash x.readings y.readings j, clash_apart x.readings y.readings j)

  -- with the two records exchanged, the same tests tell them apart
  clash_exchanged : Lawful R kind → (a b : Option R) → Clash kind a b → Clash kind b a
  clash_exchanged lawful None b c = absurd c
  clash_exchanged lawful (Some x) None c = absurd c
  clash_exchanged lawful (Some x) (Some y) c = lawful.exchanged y x ∙ c

  pub tells_exchanged : Lawful R kind → (x y : Rec R) (j : ℕ) → TellsAt kind x y j → TellsAt kind y x j
  tells_exchanged lawful x y j c = clash_exchanged lawful (reading_at (suc j) x.readings) (reading_at (suc j) y.readings) c

  pub row_exchanged : Lawful R kind → (x y : Rec R) (row : ℕ) → IsRow kind x y row → IsRow kind y x row
  row_exchanged lawful x y row is j = (λ h. tells_exchanged lawful x y j ((is j).0 h), λ t. (is j).1 (tells_exchanged lawful y x j t))
