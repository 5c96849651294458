-- A page book: what it means, and what a change makes of its memory.
use Rattle.books.specs.Changes.{Change}
use Rattle.books.specs.Meanings.{Meaning}
use Rattle.page_book.specs.Places.{page_meaning}
use Rattle.page_book.specs.Refused.{refused_page}
use Rattle.page_book.specs.Rewrites.{Rewrites}
use Rattle.page_book.specs.declared.book.PageBook.{PageBook}
use Rattle.refusals.specs.Faults.{leaves}
use Rattle.std.specs.Prelude.{◌≡◌, ℕ, false, List, []}

abbrev pub book_means : PageBook → Meaning ℕ
book_means b = page_meaning b.page.now b.width

-- a book of width 1 with no room
abbrev pub no_room : Meaning ℕ
no_room = record {
  width = 1;
  capacity = 0;
  closed_test = λ _. false;
  closed_part = λ _. false;
  held = [];
}

-- what a page opened at a width means: itself, and no room where the check refuses it
abbrev pub opened_meaning : List ℕ → ℕ → Meaning ℕ
opened_meaning page width = leaves (refused_page page width) no_room (page_meaning page width)

-- one record is rewritten, in the same lent memory
abbrev pub book_rewrites : PageBook → Change ℕ → PageBook → Type 0
book_rewrites b change d = Rewrites b.page.now change d.page.now × (d.page.ghost_name ≡ b.page.ghost_name)
