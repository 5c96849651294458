-- The ledger: what a book must mean after a list of calls, and which of them are refused, told by the calls' arguments alone.
use Rattle.std.specs.Prelude.{ℕ, Bool, false, not, ◌||◌, List, [], ◌∷◌, is_some, Some, None, Option, nat_lt}
use Rattle.bench.specs.Lines.{bench_line}
use Rattle.bench.specs.declared.faults.BenchFault.TheVariants.{InBook, Work}
use Rattle.bench.specs.declared.faults.BenchFault.{BenchFault}
use Rattle.books.specs.Changes.{Change, after, refused}
use Rattle.books.specs.Meanings.{Meaning}
use Rattle.books.specs.declared.faults.BookFault.{BookFault}
use Rattle.readings.specs.Kinds.{Kind}
use Rattle.refusals.specs.Faults.{leaves, or_else, when}

-- a call of a bench: its arguments, and of the work memory its length
pub data Call (R : Type 0) : Type 0 where
  shelve : ℕ → Call R
  change : ℕ → Change R → Call R

-- how long its work memory is
abbrev pub work_of : {R : Type 0} → Call R → ℕ
work_of (shelve work) = work
work_of (change work c) = work

-- a book's fault goes up whole
abbrev pub in_book : Option BookFault → Option BenchFault
in_book None = None
in_book (Some fault) = Some (InBook fault)

-- 14: the work memory has fewer than 64 × 63 / 2 places
abbrev pub short_of : ℕ → Option BenchFault
short_of work = when (nat_lt work 2016) Work

-- the table: 14 first, then the book's lines
abbrev pub fault : {R : Type 0} → Kind R → Meaning R → Call R → Option BenchFault
fault kind m (shelve work) = short_of work
fault kind m (change work c) = or_else (short_of work) (in_book (refused kind m c))

-- what an accepted call makes of the ledger
abbrev pub entered : {R : Type 0} → Meaning R → Call R → Meaning R
entered m (shelve work) = m
entered m (change work c) = after m c

-- the ledger after one call: a refused one changes nothing
unfoldable pub next : {R : Type 0} → Kind R → Meaning R → Call R → Meaning R
next kind m call = leaves (fault kind m call) m (entered m call)

-- the table's number, 0 where the call is accepted
abbrev pub number : Option BenchFault → ℕ
number None = 0
number (Some f) = (bench_line f).number

-- the ledger after all calls
unfoldable pub ledger_after : {R : Type 0} → Kind R → Meaning R → List (Call R) → Meaning R
ledger_after kind start [] = start
ledger_after kind start (call ∷ calls) = ledger_after kind (next kind start call) calls

-- each call's number
unfoldable pub refusals_of : {R : Type 0} → Kind R → Meaning R → List (Call R) → List ℕ
refusals_of kind start [] = []
refusals_of kind start (call ∷ calls) = number (fault kind start call) ∷ refusals_of kind (next kind start call) calls

-- whether any call was accepted
unfoldable pub accepted : {R : Type 0} → Kind R → Meaning R → List (Call R) → Bool
accepted kind start [] = false
accepted kind start (call ∷ calls) = not (is_some (fault kind start call)) || accepted kind (next kind start call) calls
