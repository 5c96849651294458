-- A change made in a page that the caller holds: what is answered, and every byte of the page at the return.
use Rattle.std.specs.Prelude.{◌≡◌, ℕ, List, None, Ok, Err, Result}
use Rattle.books.specs.Changes.{Change, after, refused}
use Rattle.books.specs.declared.faults.BookFault.{BookFault}
use Rattle.page_book.specs.Places.{page_meaning}
use Rattle.page_book.specs.Refused.{refused_page}
use Rattle.page_book.specs.Rewrites.{Rewrites}
use Rattle.readings.specs.Codes.{codes}
use Rattle.refusals.specs.Faults.{or_else, passed}

-- accepted: the bytes of one record are rewritten, the page passes its check again and means what the change makes of it;
-- refused: every byte is as it was
abbrev pub LeftIn : List ℕ → ℕ → Change ℕ → List ℕ → Result (Unit {0}) BookFault → Type 0
LeftIn old width change new (Ok u) =
    Rewrites old change new × (refused_page new width ≡ None) × (page_meaning new width ≡ after (page_meaning old width) change)
LeftIn old width change new (Err fault) = new ≡ old

-- the page's check answers first, then the table
pub record ChangedIn (old : List ℕ) (width : ℕ) (change : Change ℕ) (new : List ℕ) (r : Result (Unit {0}) BookFault) : Type 0 where
  pub answer : r ≡ passed (or_else (refused_page old width) (refused codes (page_meaning old width) change))
  pub left : LeftIn old width change new r
