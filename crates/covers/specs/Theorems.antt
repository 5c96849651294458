-- What a listing of all plans gives its reader.
use Rattle.std.specs.Prelude.{ℕ, ◌<◌, ◌≤◌, ◌↔◌, List, length, take, slice_index}
use Rattle.covers.specs.Plans.{Covers, Plan, plans_of}
use Rattle.sets.specs.Lists.{In, Rising}
use Rattle.sets.specs.Sets.{Has, Shares, Within}
use Rattle.covers.specs.declared.faults.CoverFault.TheVariants.{Row, Width}
use Rattle.covers.specs.declared.faults.CoverFault.{CoverFault}
use Rattle.std.specs.List.{AllByRecursion as Every}

-- the list holds the plans of the matrix, and what follows from that for any set s
pub record Lists (rows plans : List ℕ) : Type 0 where
  -- each listed set is a plan, and each plan is listed, once, in rising order
  pub sound : Every (Plan rows) plans
  pub complete : (s : ℕ) → Plan rows s → In plans s
  pub rising : Rising plans
  -- every cover contains a listed plan
  pub inner : (s : ℕ) → Covers rows s → (p : ℕ) × In plans p × Within p s
  -- a set shares a test with every listed plan exactly when it contains some row
  pub dual : (s : ℕ) → Every (Shares s) plans ↔ ((row : ℕ) × In rows row × Within row s)

-- where there is a plan, the tests of c are exactly the tests common to all plans
abbrev pub Common : List ℕ → ℕ → Type 0
Common rows c = (p : ℕ) → Plan rows p → (j : ℕ) → Has j c ↔ ((q : ℕ) → Plan rows q → Has j q)

-- the row has a test above the width
abbrev pub Wide : ℕ → ℕ → Type 0
Wide width row = (j : ℕ) × (width ≤ j) × Has j row

-- the width is 1 to 24
abbrev pub Fair : ℕ → Type 0
Fair width = (1 ≤ width) × (width ≤ 24)

-- an accepted call: the width is fair, no row has a test above it, and what is listed is all plans
pub record Opened (width : ℕ) (rows : List ℕ) : Type 0 where
  pub fair : Fair width
  pub narrow : Every (λ row. Wide width row → ⊥) rows
  pub lists : Lists rows (plans_of rows width)

-- a refused call: the width is not fair; or it is, and this row is the first with a test above it
abbrev pub RefusedWith : ℕ → List ℕ → CoverFault → Type 0
RefusedWith width rows Width = Fair width → ⊥
RefusedWith width rows (Row k) =
    Fair width × (k < length rows) × Wide width (slice_index rows k) × Every (λ row. Wide width row → ⊥) (take k rows)
