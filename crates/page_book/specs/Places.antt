-- A page as a book: each record is a place, empty where it is free.
use Rattle.std.specs.Prelude.{ℕ, Bool, true, false, cond, not, ◌&&◌, List, [], ◌∷◌, find, map, is_some, Some, None, Option, ◌==◌, nat_lt}
use Rattle.books.specs.Gathered.{gathered}
use Rattle.books.specs.Meanings.{Meaning, Rec}
use Rattle.page_book.specs.Layout.{code_at, has_tag, part_at, records_in, records_of, tag_at}
use Rattle.page_book.specs.Lowest.{lowest}
use Rattle.page_book.specs.Refused.{refused_page, same_tag}
use Rattle.std.specs.List.{range_with_len}

-- the readings of record k, tests 1 to the width
unfoldable pub codes_at : List ℕ → ℕ → ℕ → List ℕ
codes_at page width k = map (code_at page k) (range_with_len 0 width)

-- record k as it stands
abbrev pub record_at : List ℕ → ℕ → ℕ → Rec ℕ
record_at page width k = record { tag = tag_at page k; part = part_at page k; readings = codes_at page width k }

-- record k, where it is in use
unfoldable pub place_at : List ℕ → ℕ → ℕ → Option (Rec ℕ)
place_at page width k = cond ((tag_at page k) == 0) None (Some (record_at page width k))

-- all records, from record 0
unfoldable pub places : List ℕ → ℕ → List (Option (Rec ℕ))
places page width = map (place_at page width) (range_with_len 0 (records_in page))

-- whether every number is a byte
unfoldable pub are_bytes : List ℕ → Bool
are_bytes [] = true
are_bytes (x ∷ xs) = nat_lt x 256 && are_bytes xs

-- whether the page is bytes that pass the check at this width
unfoldable pub valid : List ℕ → ℕ → Bool
valid page width = are_bytes page && not (is_some (refused_page page width))

-- what the page means as a book: as many places as records, and nothing closed
abbrev pub page_meaning : List ℕ → ℕ → Meaning ℕ
page_meaning page width = record {
  width = width;
  capacity = records_in page;
  closed_test = λ _. false;
  closed_part = λ _. false;
  held = gathered (places page width);
}

-- the record of a tag, where a record in use has it
unfoldable pub place_of : List ℕ → ℕ → Option ℕ
place_of page tag = cond (tag == 0) None (lowest (same_tag page tag) (records_in page))

-- its bytes
unfoldable pub record_of : List ℕ → ℕ → Option (List ℕ)
record_of page tag = cond (tag == 0) None (find (has_tag tag) (records_of page))
