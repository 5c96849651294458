-- Changes of a book: when each is refused, and what the book then means.
use Rattle.std.specs.Prelude.{ℕ, ◌+◌, ◌-◌, Bool, cond, not, ◌&&◌, List, [], ◌∷◌, map, length, is_some, Some, None, filter, Option, ◌==◌, nat_lt, slice_set}
use Rattle.books.specs.Meanings.{Meaning, Rec, is_part, is_test}
use Rattle.books.specs.Questions.{find}
use Rattle.books.specs.declared.faults.BookFault.TheVariants.{ClosedPart, ClosedTest, Full, Held, NoTag, NotHeld, Part, Readings, Test}
use Rattle.books.specs.declared.faults.BookFault.{BookFault}
use Rattle.readings.specs.Kinds.{Kind}
use Rattle.refusals.specs.Faults.{or_else, when}

-- enter a record; withdraw the record of a tag; set one reading of the record of a tag
pub data Change (R : Type 0) : Type 0 where
  enter : ℕ → ℕ → List R → Change R
  withdraw : ℕ → Change R
  amend : ℕ → ℕ → R → Change R

-- the lowest closed test, from this test on, at which the readings are not blank
unfoldable pub closed_reading : {R : Type 0} → Kind R → (ℕ → Bool) → ℕ → List R → Option BookFault
closed_reading kind closed test [] = None
closed_reading kind closed test (x ∷ xs) =
    cond (closed test && not (kind.is_blank x)) (Some (ClosedTest test)) (closed_reading kind closed (test + 1) xs)

-- 5, 6 and 7: by the arguments alone
abbrev pub enter_arguments : {R : Type 0} → Meaning R → ℕ → ℕ → List R → Option BookFault
enter_arguments m tag part readings =
    or_else (when (tag == 0) NoTag)
    (or_else (when (not (is_part part)) (Part part))
    (when (not (length readings == m.width)) Readings))

-- 9 and 10: by what is closed
abbrev pub enter_closed : {R : Type 0} → Kind R → Meaning R → ℕ → List R → Option BookFault
enter_closed kind m part readings =
    or_else (when (m.closed_part part) (ClosedPart part)) (closed_reading kind m.closed_test 1 readings)

-- 11 and 12: by what is held
abbrev pub enter_held : {R : Type 0} → Meaning R → ℕ → Option BookFault
enter_held m tag =
    or_else (when (is_some (find tag m.held)) (Held tag)) (when (length m.held == m.capacity) Full)

-- 13: the tag is not held
abbrev pub not_held : {R : Type 0} → Meaning R → ℕ → Option BookFault
not_held m tag = when (not (is_some (find tag m.held))) (NotHeld tag)

-- 5 and 13
abbrev pub withdraw_fault : {R : Type 0} → Meaning R → ℕ → Option BookFault
withdraw_fault m tag = or_else (when (tag == 0) NoTag) (not_held m tag)

-- 5, 8, 10 and 13
abbrev pub amend_fault : {R : Type 0} → Meaning R → ℕ → ℕ → Option BookFault
amend_fault m tag test =
    or_else (when (tag == 0) NoTag)
    (or_else (when (not (is_test m.width test)) (Test test))
    (or_else (when (m.closed_test test) (ClosedTest test)) (not_held m tag)))

-- the table: the first line that applies, in rising number
abbrev pub refused : {R : Type 0} → Kind R → Meaning R → Change R → Option BookFault
refused kind m (enter tag part readings) =
    or_else (enter_arguments m tag part readings) (or_else (enter_closed kind m part readings) (enter_held m tag))
refused kind m (withdraw tag) = withdraw_fault m tag
refused kind m (amend tag test reading) = amend_fault m tag test

-- a record put in its place by tag
unfoldable pub insert : {R : Type 0} → Rec R → List (Rec R) → List (Rec R)
insert x [] = x ∷ []
insert x (y ∷ ys) = cond (nat_lt x.tag y.tag) (x ∷ y ∷ ys) (y ∷ insert x ys)

-- all records but that of a tag
unfoldable pub remove : {R : Type 0} → ℕ → List (Rec R) → List (Rec R)
remove tag xs = filter (λ x. not (x.tag == tag)) xs

-- a record with one reading set
abbrev pub reread : {R : Type 0} → ℕ → R → Rec R → Rec R
reread test reading x = record { tag = x.tag; part = x.part; readings = slice_set x.readings (test - 1) reading }

-- the record of a tag with one reading set, the others as they are
unfoldable pub reread_of : {R : Type 0} → ℕ → ℕ → R → List (Rec R) → List (Rec R)
reread_of tag test reading xs = map (λ x. cond (x.tag == tag) (reread test reading x) x) xs

-- the records after a change
unfoldable pub held_after : {R : Type 0} → List (Rec R) → Change R → List (Rec R)
held_after xs (enter tag part readings) = insert (record { tag = tag; part = part; readings = readings }) xs
held_after xs (withdraw tag) = remove tag xs
held_after xs (amend tag test reading) = reread_of tag test reading xs

-- what the book means once a change is accepted: only the records differ
abbrev pub after : {R : Type 0} → Meaning R → Change R → Meaning R
after m change = record {
  width = m.width;
  capacity = m.capacity;
  closed_test = m.closed_test;
  closed_part = m.closed_part;
  held = held_after m.held change;
}
