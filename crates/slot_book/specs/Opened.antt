-- What memory a slot book opens over, and what it then means.
use Rattle.std.specs.Prelude.{◌≡◌, ℕ, ◌*◌, false, not, ◌&&◌, List, [], length, replicate, None, Option, ◌==◌, nat_le}
use Rattle.books.specs.Meanings.{Meaning}
use Rattle.books.specs.declared.faults.BookFault.TheVariants.{Size, Width}
use Rattle.books.specs.declared.faults.BookFault.{BookFault}
use Rattle.readings.specs.Kinds.{Kind}
use Rattle.refusals.specs.Faults.{leaves, or_else, when}
use Rattle.slot_book.specs.Meant.{meant}
use Rattle.slot_book.specs.Slots.{no_slot}
use Rattle.slot_book.specs.declared.memory.SlotBook.{SlotBook}
use Rattle.slot_book.specs.declared.slots.Slot.{Slot}
use Rattle.std.specs.Borrow.{MutBor}

-- 1: a width that is not 1 to 24; 2: more than 64 slots, or cells that are not a width for each slot
abbrev pub refused_slots : {R : Type 0} → List Slot → List R → ℕ → Option BookFault
refused_slots slots cells width =
    or_else (when (not (nat_le 1 width && nat_le width 24)) Width)
    (when (not (nat_le (length slots) 64 && length cells == length slots * width)) Size)

-- a book of no records
abbrev pub holds_none : {R : Type 0} → ℕ → ℕ → Meaning R
holds_none width capacity = record {
  width = width;
  capacity = capacity;
  closed_test = λ _. false;
  closed_part = λ _. false;
  held = [];
}

-- over memory that fits, every slot is emptied and every cell is blank, and it is the same memory; over other memory the book has no slots
pub record Opened {R : Type 0} (kind : Kind R) (slots : MutBor (List Slot)) (cells : MutBor (List R)) (width : ℕ) (b : SlotBook R) : Type 0 where
  pub wide : b.width ≡ leaves (refused_slots slots.now cells.now width) 1 width
  pub emptied : b.slots.now ≡ leaves (refused_slots slots.now cells.now width) [] (replicate (length slots.now) no_slot)
  pub blanked : b.cells.now ≡ leaves (refused_slots slots.now cells.now width) [] (replicate (length cells.now) kind.blank)
  pub means : meant b ≡ leaves (refused_slots slots.now cells.now width) (holds_none 1 0) (holds_none width (length slots.now))
  pub same : refused_slots slots.now cells.now width ≡ None → (b.slots.ghost_name ≡ slots.ghost_name) × (b.cells.ghost_name ≡ cells.ghost_name)
