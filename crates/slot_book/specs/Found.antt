-- What is found among slots.
use Rattle.std.specs.Prelude.{ℕ, not, List, [], ◌∷◌, position, count_by, None, Option, ◌==◌, nat_lt}
use Rattle.books.specs.Gathered.{lower}
use Rattle.refusals.specs.Faults.{when}
use Rattle.slot_book.specs.declared.slots.Slot.{Slot}

-- the first slot with a tag, from 0; at tag 0 the first empty one
unfoldable pub slot_of : ℕ → List Slot → Option ℕ
slot_of tag slots = position (λ s. s.tag == tag) slots

-- how many slots are in use
unfoldable pub used : List Slot → ℕ
used slots = count_by (λ s. not (s.tag == 0)) slots

-- the lowest tag above a number, as a walk over the slots finds it
unfoldable pub lowest_tag : ℕ → List Slot → Option ℕ
lowest_tag above [] = None
lowest_tag above (s ∷ ss) = lower (when (nat_lt above s.tag) s.tag) (lowest_tag above ss)
