-- A kind of reading: its blank, and which readings are compatible.
use Rattle.std.specs.Prelude.{◌≡◌, Bool, true}

-- one blank value, whether a reading is the blank, and whether two readings are compatible
pub record Kind (R : Type 0) : Type 0 where
  pub blank : R
  pub is_blank : R → Bool
  pub agrees : R → R → Bool

-- a reading is compatible with itself; the answer is the same with the two exchanged; the blank is compatible with everything;
-- and is-blank answers yes exactly at the blank
pub record Lawful (R : Type 0) (kind : Kind R) : Type 0 where
  pub itself : (x : R) → kind.agrees x x ≡ true
  pub exchanged : (x y : R) → kind.agrees x y ≡ kind.agrees y x
  pub with_blank : (x : R) → kind.agrees kind.blank x ≡ true
  pub blank_is : kind.is_blank kind.blank ≡ true
  pub only_blank : (x : R) → kind.is_blank x ≡ true → x ≡ kind.blank
