-- The assembly: a layer that shows each part as the assembly it belongs to. Entry i of a table, from 0, is for part i + 1.
use Rattle.std.specs.Prelude.{◌≡◌, ℕ, ◌+◌, ◌-◌, ◌<◌, ◌≤◌, Bool, true, false, cond, not, ◌&&◌, ◌||◌, List, map, is_some, Ok, Err, Option, Result, ◌==◌, slice_index}
use Rattle.books.specs.Meanings.{Meaning, Rec, is_part}
use Rattle.layers.specs.declared.faults.AssemblyFault.TheVariants.{Wrong}
use Rattle.layers.specs.declared.faults.AssemblyFault.{AssemblyFault}
use Rattle.std.specs.List.{position, range_with_len}
use Rattle.std.specs.Option.{option_map}

-- the assembly of a part; a number that is no part is left as it is
abbrev pub assembly_of : List ℕ → ℕ → ℕ
assembly_of table part = cond (is_part part) (slice_index table (part - 1)) part

-- an entry is right when it is a part that is its own assembly
abbrev pub right_entry : List ℕ → ℕ → Bool
right_entry table entry = is_part entry && assembly_of table entry == entry

-- the place of the first entry that is wrong, from 0
abbrev pub wrong_place : List ℕ → Option ℕ
wrong_place table = position (λ entry. not (right_entry table entry)) table

-- the lowest part whose entry is wrong
abbrev pub wrong_part : List ℕ → Option ℕ
wrong_part table = option_map (λ place. place + 1) (wrong_place table)

-- 15: the lowest part whose entry is wrong
abbrev pub assembly_fault : List ℕ → Option AssemblyFault
assembly_fault table = option_map Wrong (wrong_part table)

-- the entry of a part is right
abbrev pub right_part : List ℕ → ℕ → Bool
right_part table part = right_entry table (assembly_of table part)

-- what the check tells. Passed: the entry of every part is right. Refused: the named part's is wrong, and that of every lower part is right
abbrev pub AssemblyTold : List ℕ → Result (Unit {0}) AssemblyFault → Type 0
AssemblyTold table (Ok u) = (part : ℕ) → is_part part ≡ true → right_part table part ≡ true
AssemblyTold table (Err (Wrong part)) =
    (is_part part ≡ true) × (right_part table part ≡ false) × ((lower : ℕ) → 1 ≤ lower → lower < part → right_part table lower ≡ true)

-- the table in which each part is its own assembly
unfoldable pub own_table : List ℕ
own_table = map (λ k. k + 1) (range_with_len 0 250)

-- the table an assembly is made with: as given where the check passes it, else each part its own assembly
abbrev pub settled : List ℕ → List ℕ
settled table = cond (is_some (wrong_part table)) own_table table

-- a record as an assembly shows it
abbrev pub as_assembly : {R : Type 0} → List ℕ → Rec R → Rec R
as_assembly table x = record { tag = x.tag; part = assembly_of table x.part; readings = x.readings }

-- a part that is not its own assembly
abbrev pub belongs : List ℕ → ℕ → Bool
belongs table part = not (assembly_of table part == part)

-- what an assembly means, from what the book below means
abbrev pub assembly_means : {R : Type 0} → List ℕ → Meaning R → Meaning R
assembly_means table m = record {
  width = m.width;
  capacity = m.capacity;
  closed_test = m.closed_test;
  closed_part = λ part. belongs table part || m.closed_part part;
  held = map (as_assembly table) m.held;
}

-- an assembly over itself means what it means once
abbrev pub TwiceAsOnce : {R : Type 0} → List ℕ → Meaning R → Type 0
TwiceAsOnce table m = assembly_means table (assembly_means table m) ≡ assembly_means table m
