-- The matrix of a page: a row for each two records in use that are of different parts, the set of tests that tell them apart.
-- A set of tests is a number: test p + 1 counts 2 ^ p.
use Rattle.std.specs.Prelude.{◌≡◌, ℕ, zero, suc, ◌+◌, ◌^◌, ◌<◌, Bool, cond, not, ◌&&◌, ◌||◌, ◌⊎◌, List, [], ◌∷◌, ◌++◌, ◌==◌}
use Rattle.page_book.specs.Layout.{code_at, part_at, records_in, tag_at}
use Rattle.page_book.specs.Told.{Exactly}
use Rattle.sets.specs.Sets.{Has as AtPlace}
use Rattle.std.specs.List.{ContainsAt as Has, AllByRecursion as Every}

-- two readings are compatible: they are equal, or one is blank
abbrev pub Compatible : ℕ → ℕ → Type 0
Compatible a b = (a ≡ b) ⊎ ((a ≡ 255) ⊎ (b ≡ 255))

-- records i and k are in use and of different parts
abbrev pub Differ : List ℕ → ℕ → ℕ → Type 0
Differ page i k = (tag_at page i ≡ 0 → ⊥) × (tag_at page k ≡ 0 → ⊥) × (part_at page i ≡ part_at page k → ⊥)

-- s is the set of exactly the tests at which records i and k are not compatible
abbrev pub TellApart : List ℕ → ℕ → ℕ → ℕ → Type 0
TellApart page i k s =
    (s < 2 ^ 24)
    × ((p : ℕ) → p < 24 → Exactly (AtPlace p s) (Compatible (code_at page i p) (code_at page k p) → ⊥))

-- s is the row of some two of the records 0 to n − 1 that differ
abbrev pub OfTwo : List ℕ → ℕ → ℕ → Type 0
OfTwo page n s = (i : ℕ) × (k : ℕ) × (i < k) × (k < n) × Differ page i k × TellApart page i k s

-- every row is that of two records that differ, and every two such records have their row
abbrev pub IsMatrix : List ℕ → List ℕ → Type 0
IsMatrix page rows =
    Every (OfTwo page (records_in page)) rows
    × ((i k : ℕ) → i < k → k < records_in page → Differ page i k → (s : ℕ) × Has rows s × TellApart page i k s)

-- the same, computed
abbrev pub same_or_blank : ℕ → ℕ → Bool
same_or_blank a b = a == b || (a == 255 || b == 255)

-- the tests of the lowest n places at which records i and k have readings that are not compatible
unfoldable pub apart : List ℕ → ℕ → ℕ → ℕ → ℕ
apart page i k zero = 0
apart page i k (suc p) = apart page i k p + cond (same_or_blank (code_at page i p) (code_at page k p)) 0 (2 ^ p)

-- the tests that tell records i and k apart
abbrev pub row_of : List ℕ → ℕ → ℕ → ℕ
row_of page i k = apart page i k 24

-- records i and k are in use and of different parts
abbrev pub differing : List ℕ → ℕ → ℕ → Bool
differing page i k =
    not ((tag_at page i) == 0) && (not ((tag_at page k) == 0) && not ((part_at page i) == (part_at page k)))

-- the row of records i and k, where they differ
abbrev pub row_at : List ℕ → ℕ → ℕ → List ℕ
row_at page i k = cond (differing page i k) (row_of page i k ∷ []) []

-- the rows of record k with each of the records 0 to n − 1
unfoldable pub rows_with : List ℕ → ℕ → ℕ → List ℕ
rows_with page k zero = []
rows_with page k (suc i) = rows_with page k i ++ row_at page i k

-- the rows of any two of the records 0 to n − 1
unfoldable pub matrix_to : List ℕ → ℕ → List ℕ
matrix_to page zero = []
matrix_to page (suc k) = matrix_to page k ++ rows_with page k k

-- the matrix: by the later record of the two, then by the earlier
abbrev pub matrix_of : List ℕ → List ℕ
matrix_of page = matrix_to page (records_in page)
