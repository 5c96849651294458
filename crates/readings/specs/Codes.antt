-- Codes: a byte, 255 being the blank; two are compatible when they are equal or one is blank.
use Rattle.std.specs.Prelude.{ℕ, ◌||◌, ◌==◌}
use Rattle.readings.specs.Kinds.{Kind}

abbrev pub codes : Kind ℕ
codes = record {
  blank = 255;
  is_blank = λ x. (x == 255);
  agrees = λ x y. (x == y) || (x == 255 || y == 255);
}
