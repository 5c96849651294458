-- A page: records of 32 bytes one after another, from record 0. Each byte is a number below 256.
use Rattle.std.specs.Prelude.{◌≡◌, ℕ, ◌+◌, ◌*◌, ◌/◌, ◌%◌, ◌<◌, ◌≤◌, List, length, Bool, not, ◌==◌, ◌≢◌, slice_index}
use Rattle.std.specs.Simd.{first_chunks}

-- how many records the page has
abbrev pub records_in : List ℕ → ℕ
records_in page = length page / 32

-- the records, each by its 32 bytes: a page of one record
abbrev pub records_of : List ℕ → List (List ℕ)
records_of page = first_chunks 32 (records_in page) page

-- byte b of record k
abbrev pub byte_at : List ℕ → ℕ → ℕ → ℕ
byte_at page k b = slice_index page (32 * k + b)

-- the tag of record k, low byte first; 0: the record is free
abbrev pub tag_at : List ℕ → ℕ → ℕ
tag_at page k = byte_at page k 0 + 256 * byte_at page k 1

-- whether a record by itself has this tag, and whether it is in use
abbrev pub has_tag : ℕ → List ℕ → Bool
has_tag tag bytes = tag_at bytes 0 == tag

abbrev pub in_use : List ℕ → Bool
in_use bytes = not (has_tag 0 bytes)

-- the part that record k is of
abbrev pub part_at : List ℕ → ℕ → ℕ
part_at page k = byte_at page k 2

-- the reading of record k at the test of place j, places from 0: test j + 1
abbrev pub code_at : List ℕ → ℕ → ℕ → ℕ
code_at page k j = byte_at page k (4 + j)

-- what may stand in byte b of a record in use: a part is 1 to 250, byte 3 is zero, a test above the width is blank (255),
-- bytes 28 to 31 are zero
abbrev pub RightInUse : ℕ → ℕ → ℕ → Type 0
RightInUse width b v =
    (b ≡ 2 → (1 ≤ v) × (v ≤ 250))
    × (b ≡ 3 → v ≡ 0)
    × (4 + width ≤ b → b < 28 → v ≡ 255)
    × (28 ≤ b → v ≡ 0)

-- what may stand in byte b of a record with this tag: a free record is all zero
abbrev pub Right : ℕ → ℕ → ℕ → ℕ → Type 0
Right tag width b v = (tag ≡ 0 → v ≡ 0) × ((tag ≢ 0) → RightInUse width b v)

-- byte b of record k is as the layout wants it
abbrev pub RightByte : List ℕ → ℕ → ℕ → ℕ → Type 0
RightByte page width k b = Right (tag_at page k) width b (byte_at page k b)

-- all 32 bytes of record k are
abbrev pub RightRecord : List ℕ → ℕ → ℕ → Type 0
RightRecord page width k = (b : ℕ) → b < 32 → RightByte page width k b

-- record k is in use, and an earlier record has its tag
abbrev pub StandsTwice : List ℕ → ℕ → Type 0
StandsTwice page k = (tag_at page k ≢ 0) × ((i : ℕ) × (i < k) × (tag_at page i ≡ tag_at page k))

-- tests are 1 to 24
abbrev pub InWidth : ℕ → Type 0
InWidth width = (1 ≤ width) × (width ≤ 24)

-- whole records, and at most 64 of them
abbrev pub InSize : List ℕ → Type 0
InSize page = (length page ≤ 2048) × (length page % 32 ≡ 0)

-- a page that is a book of this width: every record is right, and no two records have one tag
abbrev pub WellFormed : List ℕ → ℕ → Type 0
WellFormed page width =
    InWidth width
    × InSize page
    × ((k : ℕ) → k < records_in page → RightRecord page width k)
    × ((k : ℕ) → k < records_in page → StandsTwice page k → ⊥)
