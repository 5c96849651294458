-- The core, gathered row by row: what is gathered, joined with the core of what is left, stays the whole.
use Rattle.std.proofs.Common.{◌≡◌, ℕ, true, false, ◌↔◌, List, [], ◌∷◌, ◌++◌, Some, None, Option, sym, refl, ap, ◌∙◌, subst, arith}
use Rattle.books.specs.Meanings.{Meaning, Rec, Sound}
use Rattle.books.specs.Questions.{find, next_tag}
use Rattle.covers.proofs.Least.{core_lone, lone_core}
use Rattle.covers.proofs.Scans.{core_more}
use Rattle.covers.specs.Plans.{core_of}
use Rattle.matrix.proofs.Walks.{matrix_end, matrix_next, next_held, rows_end, rows_next_none, rows_next_one}
use Rattle.matrix.specs.Apart.{Different}
use Rattle.matrix.specs.Rows.{matrix_of, rows_of}
use Rattle.matrix.specs.Theorems.{Alone, IsMatrix, IsRow}
use Rattle.matrix.specs.Walks.{above, differing, row_in}
use Rattle.readings.specs.Kinds.{Kind}
use Rattle.sets.proofs.Members.{all_in}
use Rattle.sets.specs.Sets.{Has, alone}
use lib.Bits.{bit_or, or_zero_r}

-- one more row
core_row : (row : ℕ) (rest : List ℕ) (so whole : ℕ) → bit_or so (core_of (row ∷ rest)) ≡ whole → bit_or (bit_or so (alone row)) (core_of rest) ≡ whole
core_row row rest so whole h = core_more (row ∷ rest) 0 (omega arith) so (alone row) whole refl h

-- one more run of rows
core_run : (xs rest : List ℕ) (so whole : ℕ) → bit_or so (core_of (xs ++ rest)) ≡ whole → bit_or (bit_or so (core_of xs)) (core_of rest) ≡ whole
unfolding core_of
core_run [] rest so whole h = ap (λ (k : ℕ). bit_or k (core_of rest)) (or_zero_r so) ∙ h
core_run (x ∷ xs) rest so whole h =
    ap (λ (k : ℕ). bit_or k (core_of rest)) (sym (core_row x xs so (bit_or so (core_of (x ∷ xs))) refl))
    ∙ core_run xs rest (bit_or so (alone x)) whole (core_row x (xs ++ rest) so whole h)

core_end : (left : List ℕ) (so whole : ℕ) → bit_or so (core_of left) ≡ whole → left ≡ [] → so ≡ whole
unfolding core_of
core_end left so whole h e = sym (or_zero_r so) ∙ ap (λ (l : List ℕ). bit_or so (core_of l)) (sym e) ∙ h

module _ {R : Type 0} (kind : Kind R) (m : Meaning R) (sound : Sound kind m) (last so whole : ℕ) where
  -- ---- the rows of one record o

  pub core_put : (o : Option (Rec R)) (other row one : ℕ) → bit_or so (core_of (rows_of kind (above last m.held) o)) ≡ whole
      → Some other ≡ next_tag last m.held → true ≡ differing o (find other m.held) → row ≡ row_in kind o (find other m.held) → one ≡ alone row
      → bit_or (bit_or so one) (core_of (rows_of kind (above other m.held) o)) ≡ whole
  core_put o other row one inv next d r e =
      ap (λ (k : ℕ). bit_or (bit_or so k) (core_of (rows_of kind (above other m.held) o))) (e ∙ ap alone r)
      ∙ core_row (row_in kind o (find other m.held)) (rows_of kind (above other m.held) o) so whole
      (ap (λ (l : List ℕ). bit_or so (core_of l)) (sym (rows_next_one kind o last other m.held (next_held kind m sound last other next) (sym d))) ∙ inv)

  pub core_pass : (o : Option (Rec R)) (other : ℕ) → bit_or so (core_of (rows_of kind (above last m.held) o)) ≡ whole
      → Some other ≡ next_tag last m.held → false ≡ differing o (find other m.held)
      → bit_or so (core_of (rows_of kind (above other m.held) o)) ≡ whole
  core_pass o other inv next d =
      ap (λ (l : List ℕ). bit_or so (core_of l)) (sym (rows_next_none kind o last other m.held (next_held kind m sound last other next) (sym d))) ∙ inv

  pub core_done : (o : Option (Rec R)) → bit_or so (core_of (rows_of kind (above last m.held) o)) ≡ whole → None ≡ next_tag last m.held → so ≡ whole
  core_done o inv none = core_end (rows_of kind (above last m.held) o) so whole inv (rows_end kind o last m.held (sym none))

  -- ---- the matrix

  pub cores_put : (tag one : ℕ) → bit_or so (core_of (matrix_of kind (above last m.held))) ≡ whole → Some tag ≡ next_tag last m.held
      → one ≡ core_of (rows_of kind (above tag m.held) (find tag m.held))
      → bit_or (bit_or so one) (core_of (matrix_of kind (above tag m.held))) ≡ whole
  cores_put tag one inv next e =
      ap (λ (k : ℕ). bit_or (bit_or so k) (core_of (matrix_of kind (above tag m.held)))) e
      ∙ core_run (rows_of kind (above tag m.held) (find tag m.held)) (matrix_of kind (above tag m.held)) so whole
      (ap (λ (l : List ℕ). bit_or so (core_of l)) (sym (matrix_next kind last tag m.held (next_held kind m sound last tag next))) ∙ inv)

  pub cores_done : bit_or so (core_of (matrix_of kind (above last m.held))) ≡ whole → None ≡ next_tag last m.held → so ≡ whole
  cores_done inv none = core_end (matrix_of kind (above last m.held)) so whole inv (matrix_end kind last m.held (sym none))

module _ {R : Type 0} (kind : Kind R) (held : List (Rec R)) (rows : List ℕ) (is : IsMatrix kind (Different held) rows) where
  lone_alone : (j : ℕ) → Has j (core_of rows) → Alone kind held j
  lone_alone j h =
      let r = core_lone rows j h in
      let p = all_in (λ row. (x : Rec R) × (y : Rec R) × Different held x y × IsRow kind x y row) rows r.0 is.each r.1 in
      (p.0, p.1, p.2, (p.3 j).0 r.2.0, λ i t. r.2.1 i ((p.3 i).1 t))

  alone_lone : (j : ℕ) → Alone kind held j → Has j (core_of rows)
  alone_lone j (x, y, d, t, only) =
      let r = is.all x y d in
      lone_core rows j r.0 r.1 ((r.2 j).1 t, λ i h. only i ((r.2 i).0 h))

  -- the tests of the core are those that alone tell some two records apart
  pub core_alone : (c : ℕ) → c ≡ core_of rows → (j : ℕ) → Has j c ↔ Alone kind held j
  core_alone c e j = (λ h. lone_alone j (subst (Has j) e h), λ a. subst (Has j) (sym e) (alone_lone j a))
