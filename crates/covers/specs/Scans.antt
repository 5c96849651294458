-- What one pass over the rows tells.
use Rattle.std.specs.Prelude.{◌≡◌, ℕ, Bool, List}
use Rattle.covers.specs.Plans.{covers, owned}

-- of the sets from chosen up to reach: can each row be covered, is each row covered, and which chosen tests have own rows
pub record Scanned (rows : List ℕ) (chosen reach : ℕ) (coverable covered : Bool) (own : ℕ) : Type 0 where
  pub can : coverable ≡ covers rows reach
  pub does : covered ≡ covers rows chosen
  pub own_rows : own ≡ owned rows chosen
