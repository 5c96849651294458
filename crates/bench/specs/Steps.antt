-- What one call of a bench answers and leaves.
use Rattle.std.specs.Prelude.{◌≡◌, ℕ, List, [], ◌∷◌, ◌++◌, length, replicate, Ok, Err, Result}
use Rattle.bench.specs.Ledger.{Call, change, fault, next, number, shelve}
use Rattle.bench.specs.Promise.{Stands, plans_by}
use Rattle.bench.specs.declared.bench.Bench.{Bench}
use Rattle.bench.specs.declared.faults.BenchFault.{BenchFault}
use Rattle.books.specs.Changes.{Change, after}
use Rattle.books.specs.Meanings.{Meaning}
use Rattle.books.specs.Promises.{Changed}
use Rattle.books.specs.declared.faults.BookFault.{BookFault}
use Rattle.covers.specs.Answers.{listed, told}
use Rattle.readings.specs.Kinds.{Kind}
use Rattle.refusals.specs.Faults.{answered}

-- the book after an accepted call: shelving leaves it whole; a change rewrites its memory and means what it should
abbrev pub Turned : {R B : Type 0} → (B → Meaning R) → (B → Change R → B → Type 0) → Call R → B → B → Type 0
Turned means rewrites (shelve work) old new = new ≡ old
Turned means rewrites (change work c) old new = (means new ≡ after (means old) c) × rewrites old c new

-- what a call leaves of bench, list and work memory. Accepted: the book is turned, the bench has the two numbers answered, the list
-- is that of the book as it is now, the work memory is zeros. Refused: all is as it was
abbrev pub LeftBy : {R B : Type 0} → Kind R → (B → Meaning R) → (B → Change R → B → Type 0) → Call R → Bench B → Bench B
    → List ℕ → List ℕ → List ℕ → List ℕ → Result (ℕ × ℕ) BenchFault → Type 0
LeftBy kind means rewrites call old new list list' work work' (Ok (count, over)) =
    Turned means rewrites call old.book new.book
    × (new.count ≡ count)
    × (new.over ≡ over)
    × (list' ≡ listed (length list) (plans_by kind (means new.book)))
    × (work' ≡ replicate (length work) 0)
LeftBy kind means rewrites call old new list list' work work' (Err f) = (new ≡ old) × (list' ≡ list) × (work' ≡ work)

-- one call: its answer is the table's, or the number of plans and over; what it leaves; and every history goes on by it
pub record Stepped {R B : Type 0} (kind : Kind R) (means : B → Meaning R) (rewrites : B → Change R → B → Type 0)
    (call : Call R) (old new : Bench B) (list list' work work' : List ℕ) (r : Result (ℕ × ℕ) BenchFault) : Type 0 where
  pub answer : r ≡ answered (fault kind (means old.book) call) (told (length list) (plans_by kind (next kind (means old.book) call)))
  pub left : LeftBy kind means rewrites call old new list list' work work' r
  pub carries : (start : Meaning R) (calls : List (Call R)) (numbers : List ℕ)
      → Stands kind start calls numbers (means old.book) old.count old.over list
      → Stands kind start (calls ++ call ∷ []) (numbers ++ number (fault kind (means old.book) call) ∷ [])
      (means new.book) new.count new.over list'

-- the plans of the book as it is now are listed, and the bench has the two numbers
pub record Listed {R B : Type 0} (kind : Kind R) (means : B → Meaning R) (old new : Bench B) (list list' work work' : List ℕ) (r : ℕ × ℕ) : Type 0 where
  pub answer : r ≡ told (length list) (plans_by kind (means old.book))
  pub bench : new ≡ record { book = old.book; count = r.0; over = r.1 }
  pub list_is : list' ≡ listed (length list) (plans_by kind (means old.book))
  pub cleared : work' ≡ replicate (length work) 0

-- once a book was asked for a change, whatever the change was and whatever book it was before: the step that this makes
abbrev pub Relisted : {R B : Type 0} → Kind R → (B → Meaning R) → (B → Change R → B → Type 0) → Result (Unit {0}) BookFault → Bench B → Bench B
    → List ℕ → List ℕ → List ℕ → List ℕ → Result (ℕ × ℕ) BenchFault → Type 0
Relisted {R} {B} kind means rewrites changed mid new list list' work work' r =
    (c : Change R) (was : B) → Changed kind means rewrites c was mid.book changed
    → Stepped kind means rewrites (change (length work) c) (record { book = was; count = mid.count; over = mid.over }) new list list' work work' r
