-- The refusal table's lines for the faults of a page and of a book: number, origin, place.
use Rattle.books.specs.declared.faults.BookFault.TheVariants.{ClosedPart, ClosedTest, Full, Held, InPage, NoTag, NotHeld, Part, Readings, Size, Test, Width}
use Rattle.books.specs.declared.faults.BookFault.{BookFault}
use Rattle.books.specs.declared.faults.PageFault.TheVariants.{Layout, Twice}
use Rattle.books.specs.declared.faults.PageFault.{PageFault}
use Rattle.refusals.specs.declared.Origin.TheVariants.{Assembly, Bar, Book, Page}
use Rattle.refusals.specs.declared.Place.TheVariants.{At, InPage as ByteOf}
use Rattle.refusals.specs.declared.Refusal.{Refusal}

-- 3: a record against the layout, named with its lowest wrong byte; 4: a tag that stands in an earlier record, byte 0
abbrev pub page_line : PageFault → Refusal
page_line (Layout k b) = record { number = 3; origin = Page; place = ByteOf k b }
page_line (Twice k) = record { number = 4; origin = Page; place = ByteOf k 0 }

-- 1: a width that is not 1 to 24; 2: memory of no book's size; the page's lines stay as they are; then the changes' lines: 5: tag 0;
-- 6: a part that is not 1 to 250; 7: readings not as many as the width; 8: a test outside the width; 9: a closed part;
-- 10: a closed test; 11: a tag that is held; 12: as many held as the capacity; 13: a tag that is not held
abbrev pub book_line : BookFault → Refusal
book_line Width = record { number = 1; origin = Book; place = At 0 }
book_line Size = record { number = 2; origin = Book; place = At 0 }
book_line (InPage fault) = page_line fault
book_line NoTag = record { number = 5; origin = Book; place = At 0 }
book_line (Part part) = record { number = 6; origin = Book; place = At part }
book_line Readings = record { number = 7; origin = Book; place = At 0 }
book_line (Test test) = record { number = 8; origin = Book; place = At test }
book_line (ClosedPart part) = record { number = 9; origin = Assembly; place = At part }
book_line (ClosedTest test) = record { number = 10; origin = Bar; place = At test }
book_line (Held tag) = record { number = 11; origin = Book; place = At tag }
book_line Full = record { number = 12; origin = Book; place = At 0 }
book_line (NotHeld tag) = record { number = 13; origin = Book; place = At tag }
