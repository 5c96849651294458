-- What a change makes of a page: the 32 bytes of one record, and no other byte.
use Rattle.std.specs.Prelude.{◌≡◌, ℕ, ◌+◌, ◌-◌, ◌*◌, ◌/◌, ◌%◌, ◌<◌, ◌≤◌, cond, ◌&&◌, ◌≢◌, ◌⊎◌, List, ◌++◌, drop, length, map, take, ◌==◌, nat_le, nat_lt, slice_index, slice_index_or}
use Rattle.books.specs.Changes.{Change, amend, enter, withdraw}
use Rattle.page_book.specs.Layout.{byte_at, records_in, tag_at}
use Rattle.std.specs.List.{range_with_len}

-- byte b of a record: the tag low byte first, the part, zero, the readings and then blanks up to test 24, four zeros
abbrev pub entered_byte : ℕ → ℕ → List ℕ → ℕ → ℕ
entered_byte tag part readings b =
    cond (b == 0) (tag % 256)
    (cond (b == 1) (tag / 256) (cond (b == 2) part (cond (nat_le 4 b && nat_lt b 28) (slice_index_or readings (b - 4) 255) 0)))

-- all 32 of them
unfoldable pub entered_bytes : ℕ → ℕ → List ℕ → List ℕ
entered_bytes tag part readings = map (entered_byte tag part readings) (range_with_len 0 32)

-- a page with these bytes at record k
unfoldable pub with_record : List ℕ → ℕ → List ℕ → List ℕ
with_record page k bytes = take (32 * k) page ++ (bytes ++ drop (32 * k + 32) page)

-- byte b of record k once a change is made: entered, all zero, or one reading set
abbrev pub new_byte : List ℕ → ℕ → Change ℕ → ℕ → ℕ
new_byte page k (enter tag part readings) b = entered_byte tag part readings b
new_byte page k (withdraw tag) b = 0
new_byte page k (amend tag test reading) b = cond (b == 3 + test) reading (byte_at page k b)

-- the tag of the record that a change rewrites: a free one, or that of the tag
abbrev pub chosen_tag : Change ℕ → ℕ
chosen_tag (enter tag part readings) = 0
chosen_tag (withdraw tag) = tag
chosen_tag (amend tag test reading) = tag

-- record k has these bytes now, and every byte outside it is as it was
pub record Rewritten (old new : List ℕ) (k : ℕ) (bytes : ℕ → ℕ) : Type 0 where
  pub inside : k < records_in old
  pub long : length new ≡ length old
  pub here : (b : ℕ) → b < 32 → byte_at new k b ≡ bytes b
  pub elsewhere : (i : ℕ) → (i < 32 * k) ⊎ (32 * k + 32 ≤ i) → slice_index new i ≡ slice_index old i

-- the lowest record that has the chosen tag is rewritten as the change says
unfoldable pub Rewrites : List ℕ → Change ℕ → List ℕ → Type 0
Rewrites old change new =
    (k : ℕ)
    × (tag_at old k ≡ chosen_tag change)
    × ((i : ℕ) → i < k → tag_at old i ≢ chosen_tag change)
    × Rewritten old new k (new_byte old k change)
