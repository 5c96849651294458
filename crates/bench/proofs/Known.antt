-- What holds of the matrix and the plans of every book.
use Rattle.bench.specs.Promise.{plans_by}
use Rattle.books.specs.Meanings.{Meaning, Sound}
use Rattle.covers.proofs.PlanLists.{plans_list}
use Rattle.covers.specs.Theorems.{Lists}
use Rattle.matrix.proofs.Sizes.{matrix_narrow}
use Rattle.matrix.specs.Rows.{matrix_of}
use Rattle.readings.specs.Kinds.{Kind}

-- the computed plans of a book are all its plans
pub all_plans : {R : Type 0} (kind : Kind R) (m : Meaning R) → Sound kind m → Lists (matrix_of kind m.held) (plans_by kind m)
all_plans kind m sound = plans_list (matrix_of kind m.held) m.width (matrix_narrow kind m sound)
