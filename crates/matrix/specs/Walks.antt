-- The matrix as a walk over held tags meets it: by tags and what is found of them.
use Rattle.std.specs.Prelude.{◌≡◌, ℕ, ◌+◌, Bool, false, cond, List, [], length, Some, None, filter, Option, nat_lt}
use Rattle.books.specs.Meanings.{Rec}
use Rattle.matrix.specs.Apart.{differ}
use Rattle.matrix.specs.Rows.{apart}
use Rattle.readings.specs.Kinds.{Kind}
use Rattle.std.proofs.lemmas.List.Edits.{sets}

-- the records of tags above a number: what is left of a walk that stands at that number
unfoldable pub above : {R : Type 0} → ℕ → List (Rec R) → List (Rec R)
above tag xs = filter (λ x. nat_lt tag x.tag) xs

-- whether two records are there, and of different parts
abbrev pub differing : {R : Type 0} → Option (Rec R) → Option (Rec R) → Bool
differing None b = false
differing (Some x) None = false
differing (Some x) (Some y) = differ x y

-- the readings of a record, none where there is no record
abbrev pub readings_in : {R : Type 0} → Option (Rec R) → List R
readings_in None = []
readings_in (Some x) = x.readings

-- the row of two records, where they are there
abbrev pub row_in : {R : Type 0} → Kind R → Option (Rec R) → Option (Rec R) → ℕ
row_in kind a b = apart kind (readings_in a) (readings_in b)

-- 1 where two readings are there and are not compatible, else 0
abbrev pub clashing : {R : Type 0} → Kind R → Option R → Option R → ℕ
clashing kind None b = 0
clashing kind (Some x) None = 0
clashing kind (Some x) (Some y) = cond (kind.agrees x y) 0 1

-- what is left to write, from where the count stands, makes the whole: n rows, and the memory as it should end
abbrev pub Remains : List ℕ → ℕ → List ℕ → ℕ → List ℕ → Type 0
Remains left count rows n whole = (count + length left ≡ n) × (sets rows count left ≡ whole)
