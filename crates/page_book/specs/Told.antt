-- What each answer of a page's check tells, in words of the layout. Each says exactly when the answer is given.
use Rattle.std.specs.Prelude.{◌≡◌, ℕ, ◌<◌, List, Ok, Err, Result}
use Rattle.books.specs.declared.faults.BookFault.TheVariants.{InPage, Size, Width}
use Rattle.books.specs.declared.faults.BookFault.{BookFault}
use Rattle.books.specs.declared.faults.PageFault.TheVariants.{Layout, Twice}
use Rattle.page_book.specs.Layout.{InSize, InWidth, RightByte, RightRecord, StandsTwice, WellFormed, records_in}

-- the one holds exactly when the other does
abbrev pub Exactly : Type 0 → Type 0 → Type 0
Exactly P Q = (P → Q) × (Q → P)

-- byte b of record k is the first wrong one: all before it in the record, and all records before, are right
abbrev pub WrongFirst : List ℕ → ℕ → ℕ → ℕ → Type 0
WrongFirst page width k b =
    (k < records_in page)
    × (b < 32)
    × (RightByte page width k b → ⊥)
    × ((j : ℕ) → j < b → RightByte page width k j)
    × ((i : ℕ) → i < k → RightRecord page width i)

-- every byte is right, and record k is the first whose tag stands in an earlier one
abbrev pub TwiceFirst : List ℕ → ℕ → ℕ → Type 0
TwiceFirst page width k =
    (k < records_in page)
    × ((i : ℕ) → i < records_in page → RightRecord page width i)
    × StandsTwice page k
    × ((i : ℕ) → i < k → StandsTwice page i → ⊥)

-- accepted: a well formed page, and no other
unfoldable pub Accepted : List ℕ → ℕ → Result (Unit {0}) BookFault → Type 0
Accepted page width r = Exactly (r ≡ Ok tt) (WellFormed page width)

-- refused before any record is looked at: by the width, and if that is right, by the size
unfoldable pub Misfit : List ℕ → ℕ → Result (Unit {0}) BookFault → Type 0
Misfit page width r =
    Exactly (r ≡ Err Width) (InWidth width → ⊥)
    × Exactly (r ≡ Err Size) (InWidth width × (InSize page → ⊥))

-- refused by the layout: at the first wrong byte
unfoldable pub AgainstLayout : List ℕ → ℕ → Result (Unit {0}) BookFault → Type 0
AgainstLayout page width r =
    (k b : ℕ) → Exactly (r ≡ Err (InPage (Layout k b))) (InWidth width × InSize page × WrongFirst page width k b)

-- refused by a tag: at the first record whose tag stands in an earlier one
unfoldable pub TagTwice : List ℕ → ℕ → Result (Unit {0}) BookFault → Type 0
TagTwice page width r =
    (k : ℕ) → Exactly (r ≡ Err (InPage (Twice k))) (InWidth width × InSize page × TwiceFirst page width k)
