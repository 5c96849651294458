-- Slots beside cells: what memory is a book's, and the records that it holds.
use Rattle.std.specs.Prelude.{ℕ, ◌+◌, ◌*◌, Bool, true, false, cond, not, ◌&&◌, List, [], ◌∷◌, ◌++◌, map, length, take, drop, is_some, Some, None, Option, ◌==◌, nat_le}
use Rattle.books.specs.Gathered.{gathered, standing}
use Rattle.books.specs.Meanings.{Meaning, Rec, is_part}
use Rattle.slot_book.specs.declared.slots.Slot.{Slot}
use Rattle.std.specs.List.{list_all}

-- a slot of no record
abbrev pub no_slot : Slot
no_slot = record { tag = 0; part = 0 }

-- a slot with these cells
abbrev pub row_of : {R : Type 0} → Slot → List R → Rec R
row_of s cells = record { tag = s.tag; part = s.part; readings = cells }

-- each slot with its cells, empty slots too
unfoldable pub rows : {R : Type 0} → ℕ → List Slot → List R → List (Rec R)
rows width [] cells = []
rows width (s ∷ ss) cells = row_of s (take width cells) ∷ rows width ss (drop width cells)

-- the cells of slot k
abbrev pub cells_of : {R : Type 0} → ℕ → ℕ → List R → List R
cells_of width k cells = take width (drop (k * width) cells)

-- the cells with those of slot k replaced
abbrev pub put_cells : {R : Type 0} → ℕ → ℕ → List R → List R → List R
put_cells width k new cells = take (k * width) cells ++ (new ++ drop (k * width + width) cells)

-- the record of a slot, where its tag is not 0
abbrev pub place_of : {R : Type 0} → Rec R → Option (Rec R)
place_of x = cond (x.tag == 0) None (Some x)

-- the slots as places, each empty or with a record
abbrev pub places : {R : Type 0} → ℕ → List Slot → List R → List (Option (Rec R))
places width slots cells = map place_of (rows width slots cells)

-- no two places have records of one tag
unfoldable pub apart : {R : Type 0} → List (Option (Rec R)) → Bool
apart [] = true
apart (None ∷ ps) = apart ps
apart (Some x ∷ ps) = not (is_some (standing x.tag ps)) && apart ps

-- an empty slot has part 0; one in use has a tag of 16 bits and a part of 1 to 250
abbrev pub right_slot : Slot → Bool
right_slot s = cond (s.tag == 0) (s.part == 0) (nat_le s.tag 65535 && is_part s.part)

-- memory that is a book's: a width of 1 to 24, at most 64 slots, a cell for each slot and test
abbrev pub fit_slots : {R : Type 0} → List Slot → List R → ℕ → Bool
fit_slots slots cells width =
    (nat_le 1 width && nat_le width 24) && (nat_le (length slots) 64 && length cells == length slots * width)

-- and every slot is right, and no two have one tag
unfoldable pub valid_slots : {R : Type 0} → List Slot → List R → ℕ → Bool
valid_slots slots cells width = fit_slots slots cells width && (list_all right_slot slots && apart (places width slots cells))

-- what the book means: nothing is closed
abbrev pub meaning : {R : Type 0} → ℕ → List Slot → List R → Meaning R
meaning width slots cells = record {
  width = width;
  capacity = length slots;
  closed_test = λ _. false;
  closed_part = λ _. false;
  held = gathered (places width slots cells);
}
