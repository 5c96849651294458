-- Memory as places, each empty or with a record, and the records that it holds by rising tags.
use Rattle.std.specs.Prelude.{◌≡◌, ℕ, suc, min, cond, List, [], ◌∷◌, Some, None, Option, ◌==◌, nat_lt}
use Rattle.books.specs.Changes.{insert}
use Rattle.books.specs.Meanings.{Rec}
use Rattle.refusals.specs.Faults.{when}

-- all records, by rising tags
unfoldable pub gathered : {R : Type 0} → List (Option (Rec R)) → List (Rec R)
gathered [] = []
gathered (None ∷ places) = gathered places
gathered (Some x ∷ places) = insert x (gathered places)

-- the first record of a tag
unfoldable pub standing : {R : Type 0} → ℕ → List (Option (Rec R)) → Option (Rec R)
standing tag [] = None
standing tag (None ∷ places) = standing tag places
standing tag (Some x ∷ places) = cond (x.tag == tag) (Some x) (standing tag places)

-- how many places have a record
unfoldable pub occupied : {R : Type 0} → List (Option (Rec R)) → ℕ
occupied [] = 0
occupied (None ∷ places) = occupied places
occupied (Some x ∷ places) = suc (occupied places)

-- the lower of two numbers, where there are any
abbrev pub lower : Option ℕ → Option ℕ → Option ℕ
lower None b = b
lower (Some a) None = Some a
lower (Some a) (Some b) = Some (min a b)

-- the lowest tag above a number
unfoldable pub lowest_above : {R : Type 0} → ℕ → List (Option (Rec R)) → Option ℕ
lowest_above above [] = None
lowest_above above (None ∷ places) = lowest_above above places
lowest_above above (Some x ∷ places) = lower (when (nat_lt above x.tag) x.tag) (lowest_above above places)

-- no two places have records of one tag
unfoldable pub Distinct : {R : Type 0} → List (Option (Rec R)) → Type 0
Distinct [] = Unit {0}
Distinct (None ∷ places) = Distinct places
Distinct (Some x ∷ places) = (standing x.tag places ≡ None) × Distinct places
