-- Which tests tell records apart. Tests are named by their places, from 0: the user's test 1 is at place 0.
use Rattle.std.specs.Prelude.{◌≡◌, ℕ, suc, Bool, false, not, ◌≢◌, List, Some, None, Option, ◌==◌}
use Rattle.books.specs.Meanings.{Rec}
use Rattle.books.specs.Questions.{reading_at}
use Rattle.readings.specs.Kinds.{Kind}
use Rattle.sets.specs.Lists.{Among}
use Rattle.sets.specs.Sets.{Has}

-- two records are of different parts: nothing else compares parts
abbrev pub Differ : {R : Type 0} → Rec R → Rec R → Type 0
Differ x y = x.part ≢ y.part

-- the same by computing
abbrev pub differ : {R : Type 0} → Rec R → Rec R → Bool
differ x y = not (x.part == y.part)

-- two readings are there, and they are not compatible
abbrev pub Clash : {R : Type 0} → Kind R → Option R → Option R → Type 0
Clash kind None b = ⊥
Clash kind (Some a) None = ⊥
Clash kind (Some a) (Some b) = kind.agrees a b ≡ false

-- the test at place j tells two records apart: their readings at it are not compatible
abbrev pub TellsAt : {R : Type 0} → Kind R → Rec R → Rec R → ℕ → Type 0
TellsAt kind x y j = Clash kind (reading_at (suc j) x.readings) (reading_at (suc j) y.readings)

-- a set of tests tells two records apart when a test in it does
abbrev pub Tells : {R : Type 0} → Kind R → ℕ → Rec R → Rec R → Type 0
Tells kind s x y = (j : ℕ) × Has j s × TellsAt kind x y j

-- which records are to be told apart: of the held ones, all of different parts
abbrev pub Different : {R : Type 0} → List (Rec R) → Rec R → Rec R → Type 0
Different held x y = Among held x × Among held y × Differ x y

-- or one record from the held ones of other parts
abbrev pub DifferentFrom : {R : Type 0} → Rec R → List (Rec R) → Rec R → Rec R → Type 0
DifferentFrom one held x y = (x ≡ one) × Among held y × Differ x y

-- s tells apart all records that are to be told apart
abbrev pub Separates : {R : Type 0} → Kind R → (Rec R → Rec R → Type 0) → ℕ → Type 0
Separates {R} kind pairs s = (x y : Rec R) → pairs x y → Tells kind s x y
