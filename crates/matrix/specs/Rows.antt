-- The matrix of records: one row for each two of different parts, the set of the tests that tell them apart.
use Rattle.std.specs.Prelude.{ℕ, ◌+◌, ◌*◌, cond, List, [], ◌∷◌, ◌++◌, map, Some, None, filter, Option}
use Rattle.books.specs.Meanings.{Rec}
use Rattle.matrix.specs.Apart.{differ}
use Rattle.readings.specs.Kinds.{Kind}

-- the set of the tests at which two lists of readings are not compatible
unfoldable pub apart : {R : Type 0} → Kind R → List R → List R → ℕ
apart kind [] ys = 0
apart kind (x ∷ xs) [] = 0
apart kind (x ∷ xs) (y ∷ ys) = cond (kind.agrees x y) 0 1 + 2 * apart kind xs ys

-- the row of two records
abbrev pub row_of : {R : Type 0} → Kind R → Rec R → Rec R → ℕ
row_of kind x y = apart kind x.readings y.readings

-- the rows of one record with each record of another part
unfoldable pub rows_with : {R : Type 0} → Kind R → Rec R → List (Rec R) → List ℕ
rows_with kind x ys = map (row_of kind x) (filter (differ x) ys)

-- the rows of each record with those after it
unfoldable pub matrix_of : {R : Type 0} → Kind R → List (Rec R) → List ℕ
matrix_of kind [] = []
matrix_of kind (x ∷ xs) = rows_with kind x xs ++ matrix_of kind xs

-- the rows of the record of a tag with all held records, where it is held
abbrev pub rows_of : {R : Type 0} → Kind R → List (Rec R) → Option (Rec R) → List ℕ
rows_of kind held None = []
rows_of kind held (Some x) = rows_with kind x held
