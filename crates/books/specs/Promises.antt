-- What every change of every book promises.
use Rattle.books.specs.Changes.{Change, after, refused}
use Rattle.books.specs.Meanings.{Meaning}
use Rattle.books.specs.declared.faults.BookFault.{BookFault}
use Rattle.readings.specs.Kinds.{Kind}
use Rattle.refusals.specs.Faults.{passed}
use Rattle.std.specs.Prelude.{◌≡◌, Ok, Err, Result}

-- accepted: the book means what the change makes of it, and its memory is rewritten so; refused: the whole value is as it was
abbrev pub Left : {R B : Type 0} → (B → Meaning R) → (B → Change R → B → Type 0) → Change R → B → B → Result (Unit {0}) BookFault → Type 0
Left means rewrites change old new (Ok u) = (means new ≡ after (means old) change) × rewrites old change new
Left means rewrites change old new (Err fault) = new ≡ old

-- the answer is the table's, fault and place included, and what is left is as it should be
pub record Changed {R B : Type 0} (kind : Kind R) (means : B → Meaning R) (rewrites : B → Change R → B → Type 0)
    (change : Change R) (old new : B) (r : Result (Unit {0}) BookFault) : Type 0 where
  pub answer : r ≡ passed (refused kind (means old) change)
  pub left : Left means rewrites change old new r
