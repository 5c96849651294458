-- Spans are a lawful kind, and are compatible exactly when they share a number.
use Rattle.std.specs.Prelude.{◌≡◌, ◌≤◌, max, Bool, true, false, ◌&&◌, ◌↔◌, ◌==◌, nat_le, refl}
use Rattle.readings.specs.Kinds.{Lawful}
use Rattle.readings.specs.Spans.{Shares, everything, spans}
use Rattle.readings.specs.declared.spans.Span.{Span}
use Rattle.std.proofs.lemmas.Bool.{and_from, and_parts, eqb-true, le-leb, leb-true}
use mathlib.Core.HLevel.{is_prop→PathP}
use Rattle.std.proofs.Common.{arith}
use Rattle.std.proofs.Math.Bridge.{le_prop}

-- spans with the same ends are the same
pub same_span : (x y : Span) → x.low ≡ y.low → x.high ≡ y.high → x ≡ y
same_span x y p q = λ i. record {
  low = p i;
  high = q i;
  ordered = is_prop→PathP (λ j. p j ≤ q j) (λ j. le_prop {n = p j} {m = q j}) x.ordered y.ordered i;
  bounded = is_prop→PathP (λ j. q j ≤ 65535) (λ j. le_prop {n = q j} {m = 65535}) x.bounded y.bounded i;
}

both_exchanged : (a b : Bool) → (a && b) ≡ (b && a)
both_exchanged true true = refl
both_exchanged true false = refl
both_exchanged false true = refl
both_exchanged false false = refl

pub spans_lawful : Lawful Span spans
spans_lawful = record {
  itself = λ x. and_from (nat_le x.low x.high) (nat_le x.low x.high) (le-leb _ _ x.ordered) (le-leb _ _ x.ordered);
  exchanged = λ x y. both_exchanged (nat_le x.low y.high) (nat_le y.low x.high);
  with_blank = λ x. and_from (nat_le 0 x.high) (nat_le x.low 65535) (le-leb 0 x.high (omega arith)) (le-leb x.low 65535 (omega (arith, x.ordered, x.bounded)));
  blank_is = refl;
  only_blank = λ x e. let p = and_parts (x.low == 0) (x.high == 65535) e in same_span x everything (eqb-true x.low 0 p.0) (eqb-true x.high 65535 p.1);
}

-- compatible exactly when they share a number
pub sharing : (x y : Span) → (spans.agrees x y ≡ true) ↔ Shares x y
sharing x y = (common, shared)
  where
    common : spans.agrees x y ≡ true → Shares x y
    common e =
        let p = and_parts (nat_le x.low y.high) (nat_le y.low x.high) e in
        let a = leb-true x.low y.high p.0 in
        let b = leb-true y.low x.high p.1 in
        let c = x.ordered in
        let d = y.ordered in
        (max x.low y.low, (omega arith, omega arith), (omega arith, omega arith))

    shared : Shares x y → spans.agrees x y ≡ true
    shared (n, (a, b), (c, d)) =
        and_from (nat_le x.low y.high) (nat_le y.low x.high) (le-leb x.low y.high (omega arith)) (le-leb y.low x.high (omega arith))
