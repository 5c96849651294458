-- Why a page is refused, computed: the first fault in rising number, or none.
use Rattle.std.specs.Prelude.{ℕ, ◌+◌, ◌%◌, Bool, true, false, cond, not, ◌&&◌, ◌||◌, List, length, is_some, Some, None, Option, ◌==◌, nat_le}
use Rattle.books.specs.declared.faults.BookFault.TheVariants.{InPage, Size, Width}
use Rattle.books.specs.declared.faults.BookFault.{BookFault}
use Rattle.books.specs.declared.faults.PageFault.TheVariants.{Layout, Twice}
use Rattle.books.specs.declared.faults.PageFault.{PageFault}
use Rattle.page_book.specs.Layout.{byte_at, records_in, tag_at}
use Rattle.page_book.specs.Lowest.{lowest}
use Rattle.refusals.specs.Faults.{or_else, when}

-- whether v may stand in byte b of a record with this tag
abbrev pub right_byte : ℕ → ℕ → ℕ → ℕ → Bool
right_byte tag width b v =
    cond (tag == 0 || (b == 3 || nat_le 28 b)) (v == 0)
    (cond (b == 2) (nat_le 1 v && nat_le v 250)
    (cond (nat_le (4 + width) b) (v == 255) true))

-- byte b of record k, where it is wrong
abbrev pub wrong_at : List ℕ → ℕ → ℕ → ℕ → Option ℕ
wrong_at page width k b = when (not (right_byte (tag_at page k) width b (byte_at page k b))) b

-- the lowest wrong byte of record k
unfoldable pub wrong_byte : List ℕ → ℕ → ℕ → Option ℕ
wrong_byte page width k = lowest (wrong_at page width k) 32

-- the fault of record k with this lowest wrong byte
abbrev pub layout_of : ℕ → Option ℕ → Option PageFault
layout_of k (Some b) = Some (Layout k b)
layout_of k None = None

-- the fault of record k against the layout
abbrev pub layout_at : List ℕ → ℕ → ℕ → Option PageFault
layout_at page width k = layout_of k (wrong_byte page width k)

-- that of the lowest record against the layout
unfoldable pub layout_fault : List ℕ → ℕ → Option PageFault
layout_fault page width = lowest (layout_at page width) (records_in page)

-- record i, where it has this tag
abbrev pub same_tag : List ℕ → ℕ → ℕ → Option ℕ
same_tag page tag i = when ((tag_at page i) == tag) i

-- whether record k is in use and an earlier record has its tag
unfoldable pub twice : List ℕ → ℕ → Bool
twice page k = cond ((tag_at page k) == 0) false (is_some (lowest (same_tag page (tag_at page k)) k))

-- the fault of record k with a tag that stands in an earlier one
abbrev pub twice_at : List ℕ → ℕ → Option PageFault
twice_at page k = when (twice page k) (Twice k)

-- that of the lowest record with a tag that stands in an earlier one
unfoldable pub twice_fault : List ℕ → Option PageFault
twice_fault page = lowest (twice_at page) (records_in page)

-- a record against the layout anywhere on the page comes before a tag that stands twice
abbrev pub page_fault : List ℕ → ℕ → Option PageFault
page_fault page width = or_else (layout_fault page width) (twice_fault page)

-- the page's fault as a book's
abbrev pub in_page : Option PageFault → Option BookFault
in_page (Some fault) = Some (InPage fault)
in_page None = None

-- first the width, then the size
abbrev pub fit_fault : List ℕ → ℕ → Option BookFault
fit_fault page width =
    cond (nat_le 1 width && nat_le width 24)
    (cond (nat_le (length page) 2048 && (length page % 32) == 0) None (Some Size))
    (Some Width)

-- width and size come before the page
abbrev pub refused_page : List ℕ → ℕ → Option BookFault
refused_page page width = or_else (fit_fault page width) (in_page (page_fault page width))
