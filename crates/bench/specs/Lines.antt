-- The refusal table's lines for the faults of a bench.
use Rattle.bench.specs.declared.faults.BenchFault.TheVariants.{InBook, Work}
use Rattle.bench.specs.declared.faults.BenchFault.{BenchFault}
use Rattle.books.specs.Lines.{book_line}
use Rattle.refusals.specs.declared.Origin.TheVariants.{Bench}
use Rattle.refusals.specs.declared.Place.TheVariants.{At}
use Rattle.refusals.specs.declared.Refusal.{Refusal}

-- 14: work memory below 2,016 places; the book's lines stay as they are
abbrev pub bench_line : BenchFault → Refusal
bench_line Work = record { number = 14; origin = Bench; place = At 0 }
bench_line (InBook fault) = book_line fault
