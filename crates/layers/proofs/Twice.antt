-- Two bars are one bar of both sets; an assembly over itself shows what it shows once.
use Rattle.std.proofs.Common.{◌≡◌, ℕ, suc, ◌-◌, max, Bool, true, false, cond, ◌&&◌, ◌||◌, eqb, ◌⊎◌, List, [], ◌∷◌, map, length, is_some, refl, ap, ◌∙◌, inl, inr}
use Rattle.books.specs.Meanings.{Meaning, Rec, is_test}
use Rattle.layers.specs.Entries.{assembly_twice}
use Rattle.layers.specs.Assemblies.{TwiceAsOnce, as_assembly, belongs, wrong_part}
use Rattle.layers.specs.Bars.{TwoAsOne, barred, blanked, under_bar}
use Rattle.readings.specs.Kinds.{Kind}
use Rattle.sets.proofs.Bits.{bit_cases, bit_of_or}
use Rattle.sets.specs.Sets.{bit}
use Rattle.std.proofs.Math.Bool.{or_assoc}
use lib.Bits.{bit_or}
use mathlib.Core.Path.{fun_ext}

-- ---- two bars

-- a test of a union is a test of one of the two
has_or : (j s t : ℕ) → eqb (bit j (bit_or s t)) 1 ≡ (eqb (bit j t) 1 || eqb (bit j s) 1)
has_or j s t = ap (λ (n : ℕ). eqb n 1) (bit_of_or j s t) ∙ go (bit j s) (bit j t) (bit_cases j s) (bit_cases j t)
  where
    go : (a b : ℕ) → (a ≡ 1) ⊎ (a ≡ 0) → (b ≡ 1) ⊎ (b ≡ 0) → eqb (max a b) 1 ≡ (eqb b 1 || eqb a 1)
    go a b (inl p) (inl q) = simp (p, q)
    go a b (inl p) (inr q) = simp (p, q)
    go a b (inr p) (inl q) = simp (p, q)
    go a b (inr p) (inr q) = simp (p, q)

barred_or : (width s t test : ℕ) → barred width (bit_or s t) test ≡ (barred width t test || barred width s test)
barred_or width s t test =
    ap (λ (b : Bool). is_test width test && b) (has_or (test - 1) s t)
    ∙ spread (is_test width test) (eqb (bit (test - 1) t) 1) (eqb (bit (test - 1) s) 1)
  where
    spread : (a b c : Bool) → (a && (b || c)) ≡ ((a && b) || (a && c))
    spread true b c = refl
    spread false b c = refl

module _ {R : Type 0} (kind : Kind R) where
  blanked_twice : (p q : ℕ → Bool) (test : ℕ) (xs : List R)
      → blanked kind (λ t. p t || q t) test xs ≡ blanked kind p test (blanked kind q test xs)
  unfolding blanked
  blanked_twice p q test [] = refl
  blanked_twice p q test (x ∷ xs) =
      ap (λ (y : R). y ∷ blanked kind (λ t. p t || q t) (suc test) xs) (one (p test) (q test))
      ∙ ap (λ (ys : List R). cond (p test) kind.blank (cond (q test) kind.blank x) ∷ ys) (blanked_twice p q (suc test) xs)
    where
      one : (a b : Bool) → cond (a || b) kind.blank x ≡ cond a kind.blank (cond b kind.blank x)
      one true b = refl
      one false b = refl

  shown_twice : (p q : ℕ → Bool) (xs : List (Rec R))
      → map (under_bar kind (λ t. p t || q t)) xs ≡ map (under_bar kind p) (map (under_bar kind q) xs)
  shown_twice p q [] = refl
  shown_twice p q (x ∷ xs) =
      ap (λ (rs : List R). record { tag = x.tag; part = x.part; readings = rs } ∷ map (under_bar kind (λ t. p t || q t)) xs)
      (blanked_twice p q 1 x.readings)
      ∙ ap (λ (ys : List (Rec R)). under_bar kind p (under_bar kind q x) ∷ ys) (shown_twice p q xs)

  -- a bar that shuts some tests, over m
  abbrev shutting : Meaning R → (ℕ → Bool) → Meaning R
  shutting m p = record {
    width = m.width;
    capacity = m.capacity;
    closed_test = λ test. p test || m.closed_test test;
    closed_part = m.closed_part;
    held = map (under_bar kind p) m.held;
  }

  -- to shut some and then others is to shut both
  shutting_twice : (m : Meaning R) (p q : ℕ → Bool) → shutting m (λ test. p test || q test) ≡ shutting (shutting m q) p
  shutting_twice m p q =
      ap (λ (closed : ℕ → Bool). closing closed (map (under_bar kind (λ test. p test || q test)) m.held))
      (fun_ext (λ test. or_assoc (p test) (q test) (m.closed_test test)))
      ∙ ap (closing (λ test. p test || (q test || m.closed_test test))) (shown_twice p q m.held)
    where
      closing : (ℕ → Bool) → List (Rec R) → Meaning R
      closing closed xs = record { width = m.width; capacity = m.capacity; closed_test = closed; closed_part = m.closed_part; held = xs }

  pub two_bars : (s t : ℕ) (m : Meaning R) → TwoAsOne kind s t (bit_or s t) m
  two_bars s t m =
      ap (shutting m) (fun_ext (λ test. barred_or m.width s t test)) ∙ shutting_twice m (barred m.width t) (barred m.width s)

-- ---- an assembly over itself

or_same : (a b : Bool) → (a || (a || b)) ≡ (a || b)
or_same true b = refl
or_same false b = refl

module _ {R : Type 0} (table : List ℕ) (whole : length table ≡ 250) (right : is_some (wrong_part table) ≡ false) where
  named_twice : (xs : List (Rec R)) → map (as_assembly table) (map (as_assembly table) xs) ≡ map (as_assembly table) xs
  named_twice [] = refl
  named_twice (x ∷ xs) =
      ap (λ (p : ℕ). record { tag = x.tag; part = p; readings = x.readings } ∷ map (as_assembly table) (map (as_assembly table) xs))
      (assembly_twice table whole right x.part)
      ∙ ap (λ (ys : List (Rec R)). as_assembly table x ∷ ys) (named_twice xs)

  pub same_assembly : (m : Meaning R) → TwiceAsOnce table m
  same_assembly m =
      ap (naming (λ part. belongs table part || (belongs table part || m.closed_part part))) (named_twice m.held)
      ∙ ap (λ (closed : ℕ → Bool). naming closed (map (as_assembly table) m.held)) (fun_ext (λ part. or_same (belongs table part) (m.closed_part part)))
    where
      naming : (ℕ → Bool) → List (Rec R) → Meaning R
      naming closed xs = record { width = m.width; capacity = m.capacity; closed_test = m.closed_test; closed_part = closed; held = xs }
