-- What a layer means once a change was handed down: exactly what the change makes of what it meant.
use Rattle.std.proofs.Common.{◌≡◌, ℕ, ◌+◌, ◌-◌, ◌≤◌, Bool, false, ◌||◌, eqb, leb, List, map, is_some, Some, None, Ok, Option, Result, refl, ap, ◌∙◌, arith}
use Rattle.books.specs.Changes.{Change, after, amend, enter, held_after, refused, withdraw}
use Rattle.books.specs.Meanings.{Meaning, Rec}
use Rattle.layers.specs.Blanks.{blanked_same, blanked_set}
use Rattle.layers.specs.Down.{Amends, Over, amends, changed_up, enters}
use Rattle.layers.specs.Mapped.{find_map, is_some_mapped, map_insert, map_remove, map_reread}
use Rattle.layers.specs.Assemblies.{as_assembly, assembly_means, assembly_of, belongs}
use Rattle.layers.specs.Bars.{bar_means, barred, under_bar}
use Rattle.readings.specs.Kinds.{Kind, Lawful}
use Rattle.books.specs.Promises.{Changed}
use Rattle.books.specs.declared.faults.BookFault.{BookFault}
use Rattle.layers.specs.declared.assembly.Assembly.{Assembly}
use Rattle.layers.specs.declared.bar.Bar.{Bar}
use Rattle.refusals.specs.Faults.{passed}
use Rattle.std.proofs.lemmas.Bool.{and_parts, eqb-true, leb-true, not-false, or_parts, or_right}
use lib.ListN.{length-map}

-- a meaning with other records
abbrev holding : {R : Type 0} → Meaning R → List (Rec R) → Meaning R
holding n xs = record {
  width = n.width;
  capacity = n.capacity;
  closed_test = n.closed_test;
  closed_part = n.closed_part;
  held = xs;
}

-- ---- the bar

module _ {R : Type 0} (kind : Kind R) (tests : ℕ) (m : Meaning R) where
  abbrev shut : ℕ → Bool
  shut = barred m.width tests

  abbrev shown : Rec R → Rec R
  shown = under_bar kind (barred m.width tests)

  pub bar_over : Over (bar_means kind tests m) m
  bar_over = record {
    wide = refl;
    roomy = refl;
    tests = λ test e. or_right (barred m.width tests test) (m.closed_test test) e;
    parts = λ part e. e;
    tags = λ tag. ap is_some (find_map shown (λ x. refl) tag m.held) ∙ is_some_mapped _ _;
    count = length-map m.held shown;
  }

  -- a test that may be amended is not shut
  not_shut : (test : ℕ) (tag : ℕ) → Amends (bar_means kind tests m) tag test → shut (1 + (test - 1)) ≡ false
  not_shut test tag a =
      let first : 1 ≤ test = leb-true 1 test (and_parts (leb 1 test) (leb test m.width) a.within).0 in
      let e : 1 + (test - 1) ≡ test = omega arith in
      ap shut e ∙ (or_parts (shut test) (m.closed_test test) a.free).0

  bar_held : Lawful R kind → (change : Change R) → refused kind (bar_means kind tests m) change ≡ None
      → map shown (held_after m.held change) ≡ held_after (map shown m.held) change
  unfolding held_after
  bar_held law (enter tag part readings) h =
      map_insert shown (λ x. refl) (record { tag = tag; part = part; readings = readings }) m.held
      ∙ ap (λ (ys : List R). held_after (map shown m.held) (enter tag part ys))
      (blanked_same kind shut law m.closed_test 1 readings (enters kind (bar_means kind tests m) tag part readings h).blank)
  bar_held law (withdraw tag) h = map_remove shown (λ x. refl) tag m.held
  bar_held law (amend tag test r) h =
      let free = not_shut test tag (amends kind (bar_means kind tests m) tag test r h) in
      map_reread shown (λ x. refl) tag test r
      (λ x. ap (λ (ys : List R). record { tag = x.tag; part = x.part; readings = ys })
      (blanked_set kind shut 1 (test - 1) x.readings r free)) m.held

  pub bar_after : Lawful R kind → (change : Change R) → refused kind (bar_means kind tests m) change ≡ None
      → bar_means kind tests (after m change) ≡ after (bar_means kind tests m) change
  bar_after law change h = ap (holding (bar_means kind tests m)) (bar_held law change h)

-- ---- the assembly

module _ {R : Type 0} (kind : Kind R) (table : List ℕ) (m : Meaning R) where
  pub assembly_over : Over (assembly_means table m) m
  assembly_over = record {
    wide = refl;
    roomy = refl;
    tests = λ test e. e;
    parts = λ part e. or_right (belongs table part) (m.closed_part part) e;
    tags = λ tag. ap is_some (find_map (as_assembly table) (λ x. refl) tag m.held) ∙ is_some_mapped _ _;
    count = length-map m.held (as_assembly table);
  }

  -- an open part is its own assembly
  its_own : (part : ℕ) → (belongs table part || m.closed_part part) ≡ false → assembly_of table part ≡ part
  its_own part h =
      let t = not-false (eqb (assembly_of table part) part) (or_parts (belongs table part) (m.closed_part part) h).0 in
      eqb-true (assembly_of table part) part t

  assembly_held : (change : Change R) → refused kind (assembly_means table m) change ≡ None
      → map (as_assembly table) (held_after m.held change) ≡ held_after (map (as_assembly table) m.held) change
  unfolding held_after
  assembly_held (enter tag part readings) h =
      map_insert (as_assembly table) (λ x. refl) (record { tag = tag; part = part; readings = readings }) m.held
      ∙ ap (λ (p : ℕ). held_after (map (as_assembly table) m.held) (enter tag p readings))
      (its_own part (enters kind (assembly_means table m) tag part readings h).free)
  assembly_held (withdraw tag) h = map_remove (as_assembly table) (λ x. refl) tag m.held
  assembly_held (amend tag test r) h = map_reread (as_assembly table) (λ x. refl) tag test r (λ x. refl) m.held

  pub assembly_after : (change : Change R) → refused kind (assembly_means table m) change ≡ None
      → assembly_means table (after m change) ≡ after (assembly_means table m) change
  assembly_after change h = ap (holding (assembly_means table m)) (assembly_held change h)

-- ---- a change handed down

-- a check that passes found no fault
accepted : {E : Type 0} (o : Option E) → Ok tt ≡ passed o → o ≡ None
accepted None e = refl
accepted (Some fault) e = absurd cc

-- what a bar's own table passes, and the book below does, the bar does
pub bar_handed : {R B : Type 0} (kind : Kind R) (means : B → Meaning R) (rewrites : B → Change R → B → Type 0) (change : Change R)
    (before later : Bar B) (r : Result (Unit {0}) BookFault) → Lawful R kind → later.tests ≡ before.tests
    → Ok tt ≡ passed (refused kind (bar_means kind before.tests (means before.below)) change)
    → Changed kind means rewrites change before.below later.below r
    → Changed kind (λ (b : Bar B). bar_means kind b.tests (means b.below))
    (λ (b : Bar B) (c : Change R) (d : Bar B). rewrites b.below c d.below × (d.tests ≡ b.tests)) change before later r
bar_handed kind means rewrites change before later r law same ok done =
    let m = means before.below in
    let none = accepted _ ok in
    changed_up kind means rewrites _ _ change before.below later.below before later r (bar_over kind before.tests m) none done
    (λ e. ap (λ (k : ℕ). bar_means kind k (means later.below)) same ∙ ap (bar_means kind before.tests) e
    ∙ bar_after kind before.tests m law change none) (λ w. (w, same))

-- the same of an assembly
pub assembly_handed : {R B : Type 0} (kind : Kind R) (means : B → Meaning R) (rewrites : B → Change R → B → Type 0) (change : Change R)
    (before later : Assembly B) (r : Result (Unit {0}) BookFault) → later.table ≡ before.table
    → Ok tt ≡ passed (refused kind (assembly_means before.table (means before.below)) change)
    → Changed kind means rewrites change before.below later.below r
    → Changed kind (λ (b : Assembly B). assembly_means b.table (means b.below))
    (λ (b : Assembly B) (c : Change R) (d : Assembly B). rewrites b.below c d.below × (d.table ≡ b.table)) change before later r
assembly_handed kind means rewrites change before later r same ok done =
    let m = means before.below in
    let none = accepted _ ok in
    changed_up kind means rewrites _ _ change before.below later.below before later r (assembly_over kind before.table m) none done
    (λ e. ap (λ (k : List ℕ). assembly_means k (means later.below)) same ∙ ap (assembly_means before.table) e
    ∙ assembly_after kind before.table m change none) (λ w. (w, same))
