-- Histories: lists of calls as they are run on a new bench, and what holds after every one of them.
use Rattle.std.specs.Prelude.{◌≡◌, ℕ, min, List, [], ◌∷◌, ◌++◌, map, length, take, drop, Ok, Err, Result}
use Rattle.bench.specs.Ledger.{Call, change, shelve, work_of}
use Rattle.bench.specs.Lines.{bench_line}
use Rattle.bench.specs.Promise.{Stands}
use Rattle.bench.specs.Steps.{Stepped}
use Rattle.bench.specs.declared.bench.Bench.{Bench}
use Rattle.bench.specs.declared.faults.BenchFault.{BenchFault}
use Rattle.bench.specs.declared.histories.Call.TheVariants.{Amend, Enter, Shelve, Withdraw}
use Rattle.bench.specs.declared.histories.Call.{Call as Asked}
use Rattle.books.specs.Changes.{Change, amend, enter, withdraw}
use Rattle.books.specs.Meanings.{Meaning}
use Rattle.readings.specs.Kinds.{Kind}

-- how many places of the work memory a call asks for
abbrev pub wanted : {R : Type 0} → Asked R → ℕ
wanted (Shelve work) = work
wanted (Enter work tag part readings) = work
wanted (Withdraw work tag) = work
wanted (Amend work tag test reading) = work

-- a call with work memory of this length, as the ledger is fed it
abbrev pub call_with : {R : Type 0} → ℕ → Asked R → Call R
call_with n (Shelve work) = shelve n
call_with n (Enter work tag part readings) = change n (enter tag part readings.now)
call_with n (Withdraw work tag) = change n (withdraw tag)
call_with n (Amend work tag test reading) = change n (amend tag test reading)

-- of work memory with this many places a call is lent as many as it asks for, or all
abbrev pub asked : {R : Type 0} → ℕ → Asked R → Call R
asked places call = call_with (min (wanted call) places) call

-- the number that a call is answered with, 0 where it is accepted
abbrev pub number_in : Result (ℕ × ℕ) BenchFault → ℕ
number_in (Ok answer) = 0
number_in (Err fault) = (bench_line fault).number

-- the bench and the caller's memory at one moment
pub record Moment (B : Type 0) : Type 0 where
  pub bench : Bench B
  pub list : List ℕ
  pub work : List ℕ

-- one call from one moment to the next: a step of the bench, lent the first places of the work memory; the other places stay
pub record StepTo {R B : Type 0} (kind : Kind R) (means : B → Meaning R) (rewrites : B → Change R → B → Type 0)
    (call : Call R) (number : ℕ) (from to : Moment B) : Type 0 where
  pub result : Result (ℕ × ℕ) BenchFault
  pub stepped : Stepped kind means rewrites call from.bench to.bench from.list to.list
      (take (work_of call) from.work) (take (work_of call) to.work) result
  pub beyond : drop (work_of call) to.work ≡ drop (work_of call) from.work
  pub numbered : number ≡ number_in result

-- the promise at one moment
abbrev pub StandsAt : {R B : Type 0} → Kind R → (B → Meaning R) → Meaning R → List (Call R) → List ℕ → Moment B → Type 0
StandsAt kind means start calls numbers m =
    Stands kind start calls numbers (means m.bench.book) m.bench.count m.bench.over m.list

-- a history from a first moment on: every call is a step, and the promise stands before the first and after each
pub data History {R B : Type 0} (kind : Kind R) (means : B → Meaning R) (rewrites : B → Change R → B → Type 0) (start : Meaning R)
    (first : Moment B) : List (Call R) → List ℕ → Moment B → Type 0 where
  begun : StandsAt kind means start [] [] first → History kind means rewrites start first [] [] first
  onward : (calls : List (Call R)) (numbers : List ℕ) (last : Moment B) (call : Call R) (number : ℕ) (next : Moment B)
      → History kind means rewrites start first calls numbers last
      → StepTo kind means rewrites call number last next
      → StandsAt kind means start (calls ++ call ∷ []) (numbers ++ number ∷ []) next
      → History kind means rewrites start first (calls ++ call ∷ []) (numbers ++ number ∷ []) next

-- a list of calls run on a new bench of a book: the promise stands at the end, the history says how it came about, and the
-- places for numbers beyond the calls are as they were
pub record Replayed {R B : Type 0} (kind : Kind R) (means : B → Meaning R) (rewrites : B → Change R → B → Type 0)
    (book : B) (calls : List (Call R)) (list work told : List ℕ) (r : Bench B) (list' work' told' : List ℕ) : Type 0 where
  pub stands : Stands kind (means book) calls (take (length calls) told') (means r.book) r.count r.over list'
  pub history : History kind means rewrites (means book) (record { bench = record { book = book; count = 0; over = 0 }; list = list; work = work })
      calls (take (length calls) told') (record { bench = r; list = list'; work = work' })
  pub beyond : drop (length calls) told' ≡ drop (length calls) told

-- of a list of calls, those for whose numbers there is a place, as the ledger is fed them
abbrev pub run : {R : Type 0} → List (Asked R) → List ℕ → List ℕ → List (Call R)
run calls work told = map (asked (length work)) (take (min (length calls) (length told)) calls)
