-- What a slot book means.
use Rattle.books.specs.Meanings.{Meaning}
use Rattle.slot_book.specs.Slots.{meaning}
use Rattle.slot_book.specs.declared.memory.SlotBook.{SlotBook}

-- the records of its slots, each with its cells
abbrev pub meant : {R : Type 0} → SlotBook R → Meaning R
meant b = meaning b.width b.slots.now b.cells.now
