-- The promise: what a bench, its book and its list are after any history of calls, said of the ledger's records and their tests.
use Rattle.std.specs.Prelude.{◌≡◌, ℕ, ◌-◌, true, false, ◌↔◌, List, ◌++◌, map, length, take, replicate}
use Rattle.bench.specs.Ledger.{Call, accepted, ledger_after, refusals_of}
use Rattle.books.specs.Meanings.{Meaning, Rec}
use Rattle.covers.specs.Answers.{over}
use Rattle.covers.specs.Plans.{plans_of}
use Rattle.covers.specs.Theorems.{Lists}
use Rattle.matrix.specs.Apart.{Different, Separates, TellsAt}
use Rattle.matrix.specs.Rows.{matrix_of}
use Rattle.readings.specs.Kinds.{Kind}
use Rattle.sets.specs.Lists.{Among}
use Rattle.sets.proofs.Places.{without}
use Rattle.sets.specs.Sets.{Has, Shares, Within}
use Rattle.std.specs.List.Sorted.{IsPermutation}
use Rattle.std.specs.List.{AllByRecursion as Every}

-- all plans of the matrix of a ledger's records, rising
abbrev pub plans_by : {R : Type 0} → Kind R → Meaning R → List ℕ
plans_by kind m = plans_of (matrix_of kind m.held) m.width

-- what listed plans are good for, where some records are to be told apart
pub record Serves {R : Type 0} (kind : Kind R) (pairs : Rec R → Rec R → Type 0) (plans : List ℕ) : Type 0 where
  -- every set that tells them all apart contains a listed plan
  pub enough : (s : ℕ) → Separates kind pairs s → (p : ℕ) × Among plans p × Within p s
  -- every listed plan tells them all apart
  pub apart : Every (Separates kind pairs) plans
  -- and no longer does with any one test struck out
  pub spare : Every (λ p. (j : ℕ) → Has j p → Separates kind pairs (without j p) → ⊥) plans
  -- a set shares a test with every listed plan exactly when, for some two of them, it has every test that tells these apart
  pub blocks : (s : ℕ) → Every (Shares s) plans ↔ ((x : Rec R) × (y : Rec R) × pairs x y × ((j : ℕ) → TellsAt kind x y j → Has j s))

-- a list that is not over: its first places, as many as were counted, are exactly the plans, with zeros after them
pub record Exact {R : Type 0} (kind : Kind R) (pairs : Rec R → Rec R → Type 0) (rows : List ℕ) (count : ℕ) (list : List ℕ) : Type 0 where
  pub zeros : list ≡ take count list ++ replicate (length list - count) 0
  pub lists : Lists rows (take count list)
  pub serves : Serves kind pairs (take count list)

-- what an accepted call counted and listed, of the matrix of the records that are to be told apart
pub record Listing {R : Type 0} (kind : Kind R) (pairs : Rec R → Rec R → Type 0) (rows : List ℕ) (width count over-flag : ℕ) (list : List ℕ) : Type 0 where
  -- the number of plans, however many there are
  pub counted : count ≡ length (plans_of rows width)
  pub plans : Lists rows (plans_of rows width)
  -- 1 exactly when they outnumber the places, else 0
  pub outnumber : over-flag ≡ over (length list) (plans_of rows width)
  pub exact : over-flag ≡ 0 → Exact kind pairs rows count list
  pub empty : over-flag ≡ 1 → list ≡ replicate (length list) 0

-- what a bench counted and listed: all held records of different parts are to be told apart
abbrev pub Shelved : {R : Type 0} → Kind R → Meaning R → ℕ → ℕ → List ℕ → Type 0
Shelved kind m count over-flag list = Listing kind (Different m.held) (matrix_of kind m.held) m.width count over-flag list

-- a bench after a history: what the ledger started with, the calls, and the number that each was answered with
pub record Stands {R : Type 0} (kind : Kind R) (start : Meaning R) (calls : List (Call R)) (numbers : List ℕ)
    (means : Meaning R) (count over-flag : ℕ) (list : List ℕ) : Type 0 where
  -- the book means exactly the ledger
  pub book : means ≡ ledger_after kind start calls
  -- bench and ledger refused the same calls by the same numbers
  pub refusals : numbers ≡ refusals_of kind start calls
  -- before the first accepted call both numbers are 0
  pub unshelved : accepted kind start calls ≡ false → (count ≡ 0) × (over-flag ≡ 0)
  -- from it on the list is that of the ledger's records
  pub shelved : accepted kind start calls ≡ true → Shelved kind (ledger_after kind start calls) count over-flag list

-- a record without its tag
abbrev pub untagged : {R : Type 0} → Rec R → ℕ × List R
untagged x = (x.part, x.readings)

-- alike in width and in held records, order and tags aside: these pair off one for one with equal parts and readings
pub record Alike {R : Type 0} (m n : Meaning R) : Type 0 where
  pub width : m.width ≡ n.width
  pub held : IsPermutation (map untagged m.held) (map untagged n.held)

-- any two benches whose ledgers are alike and whose lists are not over list the same plans, whatever the lists' lengths
abbrev pub SamePlans : {R : Type 0} → Kind R → Meaning R → List (Call R) → ℕ → ℕ → List ℕ → Meaning R → List (Call R) → ℕ → ℕ → List ℕ → Type 0
SamePlans kind start calls count over-flag list start' calls' count' over-flag' list' =
    accepted kind start calls ≡ true → accepted kind start' calls' ≡ true → over-flag ≡ 0 → over-flag' ≡ 0
    → Alike (ledger_after kind start calls) (ledger_after kind start' calls') → take count list ≡ take count' list'
