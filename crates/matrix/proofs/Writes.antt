-- Rows written one run after another: what is left to write, from where the count stands, stays the whole.
use Rattle.std.proofs.Common.{◌≡◌, ℕ, ◌+◌, ◌≤◌, true, false, ltb, List, [], ◌∷◌, ◌++◌, length, set, Some, None, Option, sym, refl, ap, ◌∙◌, add-zero, arith}
use Rattle.books.specs.Meanings.{Meaning, Rec, Sound}
use Rattle.books.specs.Questions.{find, next_tag}
use Rattle.matrix.proofs.Sizes.{matrix_few, rows_few}
use Rattle.matrix.proofs.Walks.{matrix_end, matrix_next, next_held, rows_end, rows_next_none, rows_next_one}
use Rattle.matrix.specs.Rows.{matrix_of, rows_of}
use Rattle.matrix.specs.Walks.{Remains, above, differing, row_in}
use Rattle.readings.specs.Kinds.{Kind}
use Rattle.sets.proofs.Runs.{sets_append}
use Rattle.std.proofs.lemmas.List.{length-append}
use Rattle.std.proofs.lemmas.List.Sums.{count_by-le-length, length-filter}
use lib.Seq.{sets}

-- one more run: the next rows stand where the count stood, and the count stands after them
run_more : (left xs rest : List ℕ) (count : ℕ) (rows : List ℕ) (n : ℕ) (whole : List ℕ) (next : ℕ) (new : List ℕ)
    → Remains left count rows n whole → left ≡ xs ++ rest → next ≡ count + length xs → new ≡ sets rows count xs
    → Remains rest next new n whole
run_more left xs rest count rows n whole next new (c, w) e k m = (
  omega (arith, ap length e ∙ length-append xs rest),
  rw (k, m) (sym (sets_append rows count xs rest) ∙ ap (sets rows count) (sym e) ∙ w),
)

-- the end of a walk: nothing is left
run_end : (left : List ℕ) (count : ℕ) (rows : List ℕ) (n : ℕ) (whole : List ℕ) → Remains left count rows n whole → left ≡ []
    → (count ≡ n) × (rows ≡ whole)
run_end left count rows n whole (c, w) e = (omega (arith, ap length e), ap (sets rows count) (sym e) ∙ w)

module _ {R : Type 0} (kind : Kind R) (m : Meaning R) (sound : Sound kind m) (last count : ℕ) (rows : List ℕ) (n : ℕ) (whole : List ℕ) where
  -- ---- the rows of one record o

  -- the next record is of another part: its row is written, and counted
  pub rows_put : (o : Option (Rec R)) (other row : ℕ) (new : List ℕ) → Remains (rows_of kind (above last m.held) o) count rows n whole
      → Some other ≡ next_tag last m.held → true ≡ differing o (find other m.held) → row ≡ row_in kind o (find other m.held)
      → new ≡ set rows count row → Remains (rows_of kind (above other m.held) o) (count + 1) new n whole
  rows_put o other row new inv next d r w =
      run_more (rows_of kind (above last m.held) o) (row ∷ []) (rows_of kind (above other m.held) o) count rows n whole (count + 1) new inv
      (rows_next_one kind o last other m.held (next_held kind m sound last other next) (sym d)
      ∙ ap (λ (k : ℕ). k ∷ rows_of kind (above other m.held) o) (sym r))
      refl w

  -- it is of the same part: nothing is written
  pub rows_pass : (o : Option (Rec R)) (other : ℕ) → Remains (rows_of kind (above last m.held) o) count rows n whole
      → Some other ≡ next_tag last m.held → false ≡ differing o (find other m.held) → Remains (rows_of kind (above other m.held) o) count rows n whole
  rows_pass o other inv next d =
      run_more (rows_of kind (above last m.held) o) [] (rows_of kind (above other m.held) o) count rows n whole count rows inv
      (rows_next_none kind o last other m.held (next_held kind m sound last other next) (sym d)) (sym (add-zero count)) refl

  pub rows_done : (o : Option (Rec R)) → Remains (rows_of kind (above last m.held) o) count rows n whole → None ≡ next_tag last m.held
      → (count ≡ n) × (rows ≡ whole)
  rows_done o inv none = run_end (rows_of kind (above last m.held) o) count rows n whole inv (rows_end kind o last m.held (sym none))

  -- ---- the matrix

  -- the rows of the next record with those above it are written, and counted
  pub matrix_put : (tag next : ℕ) (new : List ℕ) → Remains (matrix_of kind (above last m.held)) count rows n whole → Some tag ≡ next_tag last m.held
      → next ≡ count + length (rows_of kind (above tag m.held) (find tag m.held))
      → new ≡ sets rows count (rows_of kind (above tag m.held) (find tag m.held))
      → Remains (matrix_of kind (above tag m.held)) next new n whole
  matrix_put tag next new inv some k w =
      run_more (matrix_of kind (above last m.held)) (rows_of kind (above tag m.held) (find tag m.held)) (matrix_of kind (above tag m.held))
      count rows n whole next new inv (matrix_next kind last tag m.held (next_held kind m sound last tag some)) k w

  pub matrix_done : Remains (matrix_of kind (above last m.held)) count rows n whole → None ≡ next_tag last m.held → (count ≡ n) × (rows ≡ whole)
  matrix_done inv none = run_end (matrix_of kind (above last m.held)) count rows n whole inv (matrix_end kind last m.held (sym none))

module _ {R : Type 0} (kind : Kind R) (m : Meaning R) (sound : Sound kind m) where
  above_few : (a : ℕ) → length (above a m.held) ≤ 64
  unfolding above
  above_few a =
      omega (arith, sound.fitting, sound.roomy, length-filter (λ (x : Rec R). ltb a x.tag) m.held, count_by-le-length (λ (x : Rec R). ltb a x.tag) m.held)

  -- one record has at most 64 rows
  pub rows_of_few : (a : ℕ) (o : Option (Rec R)) → length (rows_of kind (above a m.held) o) ≤ 64
  rows_of_few a None = omega arith
  rows_of_few a (Some x) = omega (arith, rows_few kind x (above a m.held), above_few a)

  pub held_few : length (matrix_of kind m.held) ≤ 2016
  held_few = matrix_few kind m.held (omega (arith, sound.fitting, sound.roomy))
