-- The matrix has a row for every two records that are to be told apart, and no other.
use Rattle.std.proofs.Common.{◌≡◌, ℕ, eqb, List, [], ◌∷◌, map, filter, sym, refl, ap, ◌∙◌, subst, inl, inr}
use Rattle.books.specs.Meanings.{Rec}
use Rattle.matrix.proofs.Telling.{row_exchanged, row_is}
use Rattle.matrix.specs.Apart.{Differ, Different, DifferentFrom, differ}
use Rattle.matrix.specs.Rows.{matrix_of, row_of, rows_with}
use Rattle.matrix.specs.Theorems.{IsMatrix, IsRow}
use Rattle.readings.specs.Kinds.{Kind, Lawful}
use Rattle.sets.proofs.Members.{in_all, in_first, in_kept, in_map, in_second, kept_in, map_in}
use Rattle.sets.specs.Lists.{Among}
use Rattle.std.proofs.ByRecursion.{All-append, All-weaker}
use Rattle.std.proofs.lemmas.Bool.{eqb-false, ne_eqb, not_from_false, not-true}
use Rattle.std.specs.List.{AllByRecursion as Every}

module _ {R : Type 0} (kind : Kind R) where
  -- ---- the rows of one record

  -- each row is the row with some record of another part
  rows_each : (x : Rec R) (ys : List (Rec R)) → Every (λ row. (y : Rec R) × Among ys y × Differ x y × IsRow kind x y row) (rows_with kind x ys)
  unfolding rows_with
  rows_each x ys = in_all (λ row. (y : Rec R) × Among ys y × Differ x y × IsRow kind x y row) (rows_with kind x ys) each
    where
      each : (row : ℕ) → Among (map (row_of kind x) (filter (differ x) ys)) row → (y : Rec R) × Among ys y × Differ x y × IsRow kind x y row
      each row i =
          let from = map_in (row_of kind x) (filter (differ x) ys) row i in
          let k = kept_in (differ x) ys from.0 from.1 in (
            from.0,
            k.0,
            eqb-false x.part from.0.part (not-true (eqb x.part from.0.part) k.1),
            subst (IsRow kind x from.0) from.2 (row_is kind x from.0),
          )

  -- each record of another part has its row
  rows_all : (x : Rec R) (ys : List (Rec R)) (y : Rec R) → Among ys y → Differ x y → Among (rows_with kind x ys) (row_of kind x y)
  unfolding rows_with
  rows_all x ys y i d =
      in_map (row_of kind x) (filter (differ x) ys) y
      (in_kept (differ x) ys y i (not_from_false (eqb x.part y.part) (ne_eqb x.part y.part d)))

  pub rows_with_are : (x : Rec R) (held : List (Rec R)) → IsMatrix kind (DifferentFrom x held) (rows_with kind x held)
  rows_with_are one held = record {
    each = All-weaker (λ row. (y : Rec R) × Among held y × Differ one y × IsRow kind one y row)
        (λ row. (x : Rec R) × (y : Rec R) × DifferentFrom one held x y × IsRow kind x y row)
        (λ row p. (one, p.0, (refl, p.1, p.2), p.3)) (rows_with kind one held) (rows_each one held);
    all = λ x y p. its x y p.0 p.1 p.2;
  }
    where
      its : (x y : Rec R) → x ≡ one → Among held y → Differ x y → (row : ℕ) × Among (rows_with kind one held) row × IsRow kind x y row
      its x y e i =
          subst (λ (z : Rec R). Differ z y → (row : ℕ) × Among (rows_with kind one held) row × IsRow kind z y row) (sym e)
          (λ d. (row_of kind one y, rows_all one held y i d, row_is kind one y))

  -- ---- the matrix

  wider : (z : Rec R) (zs : List (Rec R)) (row : ℕ)
      → ((x : Rec R) × (y : Rec R) × Different zs x y × IsRow kind x y row)
      → (x : Rec R) × (y : Rec R) × Different (z ∷ zs) x y × IsRow kind x y row
  wider z zs row (x, y, (i, k, d), is) = (x, y, (inr i, inr k, d), is)

  matrix_each : (held : List (Rec R)) → Every (λ row. (x : Rec R) × (y : Rec R) × Different held x y × IsRow kind x y row) (matrix_of kind held)
  unfolding matrix_of
  matrix_each [] = tt
  matrix_each (z ∷ zs) =
      All-append (λ row. (x : Rec R) × (y : Rec R) × Different (z ∷ zs) x y × IsRow kind x y row) (rows_with kind z zs) (matrix_of kind zs)
      (All-weaker (λ row. (y : Rec R) × Among zs y × Differ z y × IsRow kind z y row) _
      (λ row p. (z, p.0, (inl refl, inr p.1, p.2), p.3)) (rows_with kind z zs) (rows_each z zs))
      (All-weaker (λ row. (x : Rec R) × (y : Rec R) × Different zs x y × IsRow kind x y row) _ (wider z zs) (matrix_of kind zs) (matrix_each zs))

  -- the row of two records stands in the matrix, whichever of them is held first
  abbrev Rowed : List (Rec R) → Rec R → Rec R → Type 0
  Rowed held x y = (row : ℕ) × Among (matrix_of kind held) row × IsRow kind x y row

  rowed_first : (z : Rec R) (zs : List (Rec R)) (y : Rec R) → Among zs y → Differ z y → Rowed (z ∷ zs) z y
  unfolding matrix_of
  rowed_first z zs y i d =
      (row_of kind z y, in_first (rows_with kind z zs) (matrix_of kind zs) (row_of kind z y) (rows_all z zs y i d), row_is kind z y)

  rowed_later : (z : Rec R) (zs : List (Rec R)) (x y : Rec R) → Rowed zs x y → Rowed (z ∷ zs) x y
  unfolding matrix_of
  rowed_later z zs x y (row, i, is) = (row, in_second (rows_with kind z zs) (matrix_of kind zs) row i, is)

  rowed_exchanged : Lawful R kind → (held : List (Rec R)) (x y : Rec R) → Rowed held x y → Rowed held y x
  rowed_exchanged lawful held x y (row, i, is) = (row, i, row_exchanged kind lawful x y row is)

  matrix_all : Lawful R kind → (held : List (Rec R)) (x y : Rec R) → Among held x → Among held y → Differ x y → Rowed held x y
  matrix_all lawful [] x y i k d = absurd i
  matrix_all lawful (z ∷ zs) x y (inl e) (inl f) d = absurd (d (ap (λ (r : Rec R). r.part) (sym e ∙ f)))
  matrix_all lawful (z ∷ zs) x y (inl e) (inr k) d =
      subst (λ (r : Rec R). Differ r y → Rowed (z ∷ zs) r y) e (rowed_first z zs y k) d
  matrix_all lawful (z ∷ zs) x y (inr i) (inl f) d =
      subst (λ (r : Rec R). Differ x r → Rowed (z ∷ zs) x r) f
      (λ n. rowed_exchanged lawful (z ∷ zs) z x (rowed_first z zs x i (λ q. n (sym q)))) d
  matrix_all lawful (z ∷ zs) x y (inr i) (inr k) d = rowed_later z zs x y (matrix_all lawful zs x y i k d)

  pub matrix_is : (lawful : Lawful R kind) (held : List (Rec R)) → IsMatrix kind (Different held) (matrix_of kind held)
  matrix_is lawful held = record {
    each = matrix_each held;
    all = λ x y p. matrix_all lawful held x y p.0 p.1 p.2;
  }
