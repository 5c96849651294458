-- What the questions answer of what a book means.
use Rattle.std.specs.Prelude.{ℕ, zero, suc, cond, List, [], ◌∷◌, Some, None, Option, ◌==◌, nat_lt}
use Rattle.books.specs.Meanings.{Meaning, Rec}
use Rattle.std.specs.Option.{option_map}

-- the record of a tag, where it is held
unfoldable pub find : {R : Type 0} → ℕ → List (Rec R) → Option (Rec R)
find tag [] = None
find tag (x ∷ xs) = cond (x.tag == tag) (Some x) (find tag xs)

-- the smallest held tag above a number, where there is one: the first, since tags rise
unfoldable pub next_tag : {R : Type 0} → ℕ → List (Rec R) → Option ℕ
next_tag above [] = None
next_tag above (x ∷ xs) = cond (nat_lt above x.tag) (Some x.tag) (next_tag above xs)

-- the reading at a test, from 1, where there is one
unfoldable pub reading_at : {R : Type 0} → ℕ → List R → Option R
reading_at zero xs = None
reading_at (suc test) [] = None
reading_at (suc zero) (x ∷ xs) = Some x
reading_at (suc (suc test)) (x ∷ xs) = reading_at (suc test) xs

-- the part of a tag
abbrev pub part_of : {R : Type 0} → Meaning R → ℕ → Option ℕ
part_of m tag = option_map (λ x. x.part) (find tag m.held)

-- the reading of a record, where there is a record
abbrev pub reading_in : {R : Type 0} → ℕ → Option (Rec R) → Option R
reading_in test None = None
reading_in test (Some x) = reading_at test x.readings

-- the reading of a tag at a test
abbrev pub reading_of : {R : Type 0} → Meaning R → ℕ → ℕ → Option R
reading_of m tag test = reading_in test (find tag m.held)
