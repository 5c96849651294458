-- What the matrix of a book says, in records and tests.
use Rattle.std.specs.Prelude.{◌≡◌, ℕ, ◌↔◌, List}
use Rattle.books.specs.Meanings.{Rec}
use Rattle.matrix.specs.Apart.{Different, TellsAt}
use Rattle.readings.specs.Kinds.{Kind}
use Rattle.sets.specs.Lists.{Among}
use Rattle.sets.specs.Sets.{Has}
use Rattle.std.specs.List.{AllByRecursion as Every}

-- row is the set of exactly the tests that tell two records apart
abbrev pub IsRow : {R : Type 0} → Kind R → Rec R → Rec R → ℕ → Type 0
IsRow kind x y row = (j : ℕ) → Has j row ↔ TellsAt kind x y j

-- every row is that of two records that are to be told apart, and every two such records have their row
pub record IsMatrix {R : Type 0} (kind : Kind R) (pairs : Rec R → Rec R → Type 0) (rows : List ℕ) : Type 0 where
  pub each : Every (λ row. (x : Rec R) × (y : Rec R) × pairs x y × IsRow kind x y row) rows
  pub all : (x y : Rec R) → pairs x y → (row : ℕ) × Among rows row × IsRow kind x y row

-- the test at place j alone tells some two held records of different parts apart
abbrev pub Alone : {R : Type 0} → Kind R → List (Rec R) → ℕ → Type 0
Alone {R} kind held j =
    (x : Rec R) × (y : Rec R) × Different held x y × TellsAt kind x y j × ((i : ℕ) → TellsAt kind x y i → i ≡ j)
