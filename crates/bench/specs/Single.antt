-- Plans for one record: what tells it apart from all held records of other parts.
use Rattle.std.specs.Prelude.{◌≡◌, ℕ, List, Some, Option}
use Rattle.bench.specs.Ledger.{in_book, short_of}
use Rattle.bench.specs.Promise.{Listing}
use Rattle.bench.specs.declared.faults.BenchFault.{BenchFault}
use Rattle.books.specs.Changes.{withdraw_fault}
use Rattle.books.specs.Meanings.{Meaning, Rec}
use Rattle.books.specs.Questions.{find}
use Rattle.covers.specs.Plans.{plans_of}
use Rattle.matrix.specs.Apart.{DifferentFrom}
use Rattle.matrix.specs.Rows.{rows_of, rows_with}
use Rattle.readings.specs.Kinds.{Kind}
use Rattle.refusals.specs.Faults.{or_else}

-- 14 first, then, as for a withdrawal, 5: tag 0, and 13: the tag is not held
abbrev pub single_fault : {R : Type 0} → Meaning R → ℕ → ℕ → Option BenchFault
single_fault m tag work = or_else (short_of work) (in_book (withdraw_fault m tag))

-- all plans for the record of a tag, rising
abbrev pub plans_for : {R : Type 0} → Kind R → Meaning R → ℕ → List ℕ
plans_for kind m tag = plans_of (rows_of kind m.held (find tag m.held)) m.width

-- the record of the tag is held, and what is counted and listed is good for telling it apart
pub record Singled {R : Type 0} (kind : Kind R) (m : Meaning R) (tag count over-flag : ℕ) (list : List ℕ) : Type 0 where
  pub one : Rec R
  pub found : find tag m.held ≡ Some one
  pub listing : Listing kind (DifferentFrom one m.held) (rows_with kind one m.held) m.width count over-flag list
