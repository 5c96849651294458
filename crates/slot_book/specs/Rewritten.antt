-- What an accepted change makes of a slot book's memory.
use Rattle.std.specs.Prelude.{◌≡◌, ℕ, ◌+◌, ◌-◌, ◌*◌, ◌<◌, List, length, replicate, Ok, slice_index_or, slice_set}
use Rattle.books.specs.Changes.{Change, amend, enter, refused, withdraw}
use Rattle.books.specs.Promises.{Left}
use Rattle.readings.specs.Kinds.{Kind}
use Rattle.refusals.specs.Faults.{passed}
use Rattle.slot_book.specs.Meant.{meant}
use Rattle.slot_book.specs.Slots.{no_slot, put_cells}
use Rattle.slot_book.specs.declared.memory.SlotBook.{SlotBook}
use Rattle.slot_book.specs.declared.slots.Slot.{Slot}

-- the book has these slots and cells now, in the same memory
pub record Becomes {R : Type 0} (b d : SlotBook R) (slots : List Slot) (cells : List R) : Type 0 where
  pub wide : d.width ≡ b.width
  pub slotted : d.slots.now ≡ slots
  pub celled : d.cells.now ≡ cells
  pub same : (d.slots.ghost_name ≡ b.slots.ghost_name) × (d.cells.ghost_name ≡ b.cells.ghost_name)

-- slot k is one of the book's, and has this tag
abbrev pub HasTag : {R : Type 0} → SlotBook R → ℕ → ℕ → Type 0
HasTag b k tag = (k < length b.slots.now) × ((slice_index_or b.slots.now k no_slot).tag ≡ tag)

-- enter: an empty slot is filled, with its cells; withdraw: the slot of the tag is emptied and its cells are blank; amend: one cell of
-- the slot of the tag is written; nothing else is changed
abbrev pub rewritten : {R : Type 0} → Kind R → SlotBook R → Change R → SlotBook R → Type 0
rewritten kind b (enter tag part readings) d =
    (k : ℕ) × HasTag b k 0
    × Becomes b d (slice_set b.slots.now k (record { tag = tag; part = part })) (put_cells b.width k readings b.cells.now)
rewritten kind b (withdraw tag) d =
    (k : ℕ) × HasTag b k tag
    × Becomes b d (slice_set b.slots.now k no_slot) (put_cells b.width k (replicate b.width kind.blank) b.cells.now)
rewritten kind b (amend tag test reading) d =
    (k : ℕ) × HasTag b k tag
    × Becomes b d b.slots.now (slice_set b.cells.now (k * b.width + (test - 1)) reading)

-- the table passes the change
abbrev pub Passes : {R : Type 0} → Kind R → SlotBook R → Change R → Type 0
Passes kind b change = passed (refused kind (meant b) change) ≡ Ok tt

-- the change is made: the book means what it should, and its memory is rewritten so
abbrev pub Made : {R : Type 0} → Kind R → SlotBook R → Change R → SlotBook R → Type 0
Made kind b change d = Left meant (rewritten kind) change b d (Ok tt)
