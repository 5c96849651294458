-- The rows of one record, where it is held.
use Rattle.std.proofs.Common.{◌≡◌, ℕ, ◌+◌, ◌^◌, ◌<◌, List, length, IfSome, Some, None, Option, refl, ap, ◌∙◌, arith}
use Rattle.books.proofs.Gathering.{Of}
use Rattle.books.specs.Meanings.{Meaning, Rec, Sound}
use Rattle.books.specs.Questions.{find}
use Rattle.matrix.proofs.Matrices.{rows_with_are}
use Rattle.matrix.proofs.Sizes.{all_full, rows_within}
use Rattle.matrix.proofs.Walks.{above_zero, all_find, no_some}
use Rattle.matrix.specs.Apart.{DifferentFrom}
use Rattle.matrix.specs.Rows.{rows_of, rows_with}
use Rattle.matrix.specs.Theorems.{IsMatrix}
use Rattle.matrix.specs.Walks.{above}
use Rattle.readings.specs.Kinds.{Kind}
use Rattle.std.specs.Option.{option_map}
use Rattle.std.specs.List.{AllByRecursion as Every}
use lib.Seq.{sets}

module _ {R : Type 0} (kind : Kind R) (m : Meaning R) (sound : Sound kind m) where
  pub one_means : (o : Option (Rec R)) → IfSome o (λ x. IsMatrix kind (DifferentFrom x m.held) (rows_with kind x m.held))
  one_means None = tt
  one_means (Some x) = rows_with_are kind x m.held

  pub one_narrow : (t : ℕ) → Every (λ row. row < 2 ^ m.width) (rows_of kind m.held (find t m.held))
  one_narrow t = go (find t m.held) (all_find (λ x. length x.readings ≡ m.width) t m.held (all_full kind m sound))
    where
      go : (o : Option (Rec R)) → Of (λ x. length x.readings ≡ m.width) o → Every (λ row. row < 2 ^ m.width) (rows_of kind m.held o)
      go None h = tt
      go (Some x) h = rows_within kind m.width x m.held h

  -- ---- a tag that is not held: no rows, and nothing is written

  pub none_counts : (o : Option (Rec R)) → None ≡ option_map (λ x. x.part) o → None ≡ option_map (λ x. length (rows_with kind x m.held)) o
  none_counts None e = refl
  none_counts (Some x) e = cc

  pub none_written : (o : Option (Rec R)) (rows : List ℕ) → None ≡ option_map (λ x. x.part) o → rows ≡ sets rows 0 (rows_of kind m.held o)
  none_written None rows e = refl
  none_written (Some x) rows e = absurd (no_some x.part e)

  -- ---- a tag that is held

  all_rows : (o : Option (Rec R)) → rows_of kind (above 0 m.held) o ≡ rows_of kind m.held o
  all_rows o = ap (λ (ys : List (Rec R)). rows_of kind ys o) (above_zero kind m sound)

  pub some_counts : (o : Option (Rec R)) (part n : ℕ) → Some part ≡ option_map (λ x. x.part) o → n ≡ 0 + length (rows_of kind (above 0 m.held) o)
      → Some n ≡ option_map (λ x. length (rows_with kind x m.held)) o
  some_counts None part n e k = cc
  some_counts (Some x) part n e k = ap Some (omega (arith, ap length (all_rows (Some x))))

  pub some_written : (o : Option (Rec R)) (rows new : List ℕ) → new ≡ sets rows 0 (rows_of kind (above 0 m.held) o) → new ≡ sets rows 0 (rows_of kind m.held o)
  some_written o rows new w = w ∙ ap (sets rows 0) (all_rows o)
