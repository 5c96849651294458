-- What is left of the readings, counted on, still decides.
use Rattle.std.proofs.Common.{◌≡◌, ◌+◌, drop}
use Rattle.books.proofs.table.check_readings.Given as goal
use Rattle.books.specs.Changes.{closed_reading}

abbrev pub invariant-loop-place : goal.invariant-loop-place
invariant-loop-place g l =
    closed_reading g.B.Reading.Reading.kind (g.B.Shown.means l.book).closed_test (l.place + 1) (drop l.place l.readings)
    ≡ closed_reading g.B.Reading.Reading.kind (g.B.Shown.means l.book).closed_test 1 l.readings
