-- What a layer shows is again a sound book.
use Rattle.std.specs.Prelude.{◌≡◌, ℕ, ◌-◌, Bool, true, false, cond, not, ◌||◌, ◌⊎◌, List, length, is_some, ◌==◌, slice_index, refl}
use Rattle.books.specs.Meanings.{Fits, Meaning, Rec, Sound, is_part, is_test}
use Rattle.layers.specs.Blanks.{blank_blanked, length_blanked}
use Rattle.layers.specs.Entries.{assembly_part}
use Rattle.layers.specs.Mapped.{rising_map}
use Rattle.layers.specs.Assemblies.{as_assembly, assembly_means, belongs, wrong_part}
use Rattle.layers.specs.Bars.{bar_means, barred, under_bar}
use Rattle.readings.specs.Kinds.{Kind}
use Rattle.std.proofs.ByRecursion.{All-map, All-weaker}
use Rattle.std.proofs.lemmas.Bool.{and_parts, both_ways, eq-eqb, not-true, or_cases}
use Rattle.std.proofs.lemmas.List.{length-map}
use Rattle.std.proofs.Common.{inl, inr, ◌∙◌}

module _ {R : Type 0} (kind : Kind R) (tests : ℕ) (m : Meaning R) (s : Sound kind m) where
  abbrev shut : ℕ → Bool
  shut = barred m.width tests

  abbrev shown : Rec R → Rec R
  shown = under_bar kind (barred m.width tests)

  -- a record as a bar may hold it
  abbrev Fit : Rec R → Type 0
  Fit = Fits kind m.width (λ t. barred m.width tests t || m.closed_test t)

  fits : (x : Rec R) → Fits kind m.width m.closed_test x → Fit (shown x)
  fits x h = record {
    tagged = h.tagged;
    parted = h.parted;
    full = length_blanked kind shut 1 x.readings ∙ h.full;
    blank = blank_blanked kind shut m.closed_test 1 x.readings h.blank;
  }

  within : (test : ℕ) → (shut test ≡ true) ⊎ (m.closed_test test ≡ true) → is_test m.width test ≡ true
  within test (inl e) = (and_parts (is_test m.width test) _ e).0
  within test (inr e) = s.tests test e

  pub bar_sound : Sound kind (bar_means kind tests m)
  bar_sound = record {
    wide = s.wide;
    roomy = s.roomy;
    fitting = rw length-map s.fitting;
    tests = λ test e. within test (or_cases (shut test) (m.closed_test test) e);
    parts = s.parts;
    rising = rising_map shown (λ x. refl) m.held s.rising;
    records = All-map Fit shown m.held (All-weaker (Fits kind m.width m.closed_test) (λ x. Fit (shown x)) fits m.held s.records);
  }

-- only a part belongs to another
belongs_part : (table : List ℕ) (part : ℕ) → belongs table part ≡ true → is_part part ≡ true
belongs_part table part h = go (is_part part) refl h
  where
    go : (b : Bool) → is_part part ≡ b → not (cond b (slice_index table (part - 1)) part == part) ≡ true → is_part part ≡ true
    go true e z = e
    go false e z = absurd (both_ways (part == part) (not-true (part == part) z) (eq-eqb part part refl))

module _ {R : Type 0} (kind : Kind R) (table : List ℕ) (whole : length table ≡ 250) (right : is_some (wrong_part table) ≡ false)
    (m : Meaning R) (s : Sound kind m) where
  abbrev FitBelow : Rec R → Type 0
  FitBelow = Fits kind m.width m.closed_test

  named : (x : Rec R) → FitBelow x → FitBelow (as_assembly table x)
  named x h = record { tagged = h.tagged; parted = assembly_part table whole right x.part h.parted; full = h.full; blank = h.blank }

  a_part : (part : ℕ) → (belongs table part ≡ true) ⊎ (m.closed_part part ≡ true) → is_part part ≡ true
  a_part part (inl e) = belongs_part table part e
  a_part part (inr e) = s.parts part e

  pub assembly_sound : Sound kind (assembly_means table m)
  assembly_sound = record {
    wide = s.wide;
    roomy = s.roomy;
    fitting = rw length-map s.fitting;
    tests = s.tests;
    parts = λ part e. a_part part (or_cases (belongs table part) (m.closed_part part) e);
    rising = rising_map (as_assembly table) (λ x. refl) m.held s.rising;
    records = All-map FitBelow (as_assembly table) m.held (All-weaker FitBelow (λ x. FitBelow (as_assembly table x)) named m.held s.records);
  }
