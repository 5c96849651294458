-- The rows of a record with each earlier one, from their bytes alone: two records one after another are a page of two.
use Rattle.std.specs.Prelude.{ℕ, Bool, List, ◌++◌}
use Rattle.page_book.specs.Rows.{differing, row_at, row_of}
use Rattle.std.specs.List.{flat_map}

-- two records are in use and of different parts
abbrev pub two_differ : List ℕ → List ℕ → Bool
two_differ other later = differing (other ++ later) 0 1

-- the tests that tell two records apart
abbrev pub row_of_two : List ℕ → List ℕ → ℕ
row_of_two other later = row_of (other ++ later) 0 1

-- the rows of a record with each of the earlier ones
unfoldable pub rows_after : List ℕ → List (List ℕ) → List ℕ
rows_after later earlier = flat_map (λ other. row_at (other ++ later) 0 1) earlier
