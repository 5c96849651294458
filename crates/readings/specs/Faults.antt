-- The refusal table's line for a span.
use Rattle.readings.specs.declared.faults.SpanFault.TheVariants.{Backward}
use Rattle.readings.specs.declared.faults.SpanFault.{SpanFault}
use Rattle.refusals.specs.declared.Origin.TheVariants.{Span}
use Rattle.refusals.specs.declared.Place.TheVariants.{At}
use Rattle.refusals.specs.declared.Refusal.{Refusal}

-- 17: a span is made with low above high
abbrev pub span_line : SpanFault → Refusal
span_line Backward = record { number = 17; origin = Span; place = At 0 }
