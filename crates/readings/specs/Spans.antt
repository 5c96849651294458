-- Spans: all numbers from low to high, both ends included; two are compatible when they share a number; the blank is 0 to 65,535.
use Rattle.std.specs.Prelude.{◌≡◌, ℕ, ◌<◌, ◌≤◌, ◌&&◌, Ok, Err, Result, ◌==◌, nat_le}
use Rattle.readings.specs.Kinds.{Kind}
use Rattle.readings.specs.declared.faults.SpanFault.TheVariants.{Backward}
use Rattle.readings.specs.declared.faults.SpanFault.{SpanFault}
use Rattle.readings.specs.declared.spans.Span.{Span}
use Rattle.std.proofs.Common.{lit≤}

-- n is a number of the span
abbrev pub Within : Span → ℕ → Type 0
Within x n = (x.low ≤ n) × (n ≤ x.high)

abbrev pub everything : Span
everything = record { low = 0; high = 65535; ordered = lit≤ tt; bounded = lit≤ tt }

abbrev pub spans : Kind Span
spans = record {
  blank = everything;
  is_blank = λ x. (x.low == 0) && (x.high == 65535);
  agrees = λ x y. nat_le x.low y.high && nat_le y.low x.high;
}

-- a span is made with these ends, unless low is above high
abbrev pub Made : ℕ → ℕ → Result Span SpanFault → Type 0
Made low high (Ok x) = (low ≤ high) × (x.low ≡ low) × (x.high ≡ high)
Made low high (Err fault) = (high < low) × (fault ≡ Backward)

-- two spans share a number
abbrev pub Shares : Span → Span → Type 0
Shares x y = (n : ℕ) × Within x n × Within y n
