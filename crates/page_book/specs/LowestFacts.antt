-- The lowest number at which f gives something: a loop's start, step and find; what none and some say of each number.
use Rattle.std.proofs.Common.{◌≡◌, ℕ, zero, suc, ◌+◌, ◌<◌, Bool, true, false, ◌⊎◌, Some, None, Option, sym, refl, ap, ◌∙◌, inl, inr, add-one, arith}
use Rattle.page_book.specs.Lowest.{lowest}
use Rattle.refusals.specs.Faults.{or_else, when}
use Rattle.std.proofs.lemmas.Bool.{cases_order}

-- what a test gives
pub when_true : {A : Type 0} (t : Bool) (a : A) → t ≡ true → when t a ≡ Some a
when_true true a h = refl
when_true false a h = cc

pub when_false : {A : Type 0} (t : Bool) (a : A) → t ≡ false → when t a ≡ None
when_false true a h = cc
when_false false a h = refl

-- and what it was
pub true_by : {A : Type 0} (t : Bool) (a b : A) → when t a ≡ Some b → (t ≡ true) × (a ≡ b)
true_by true a b h = (refl, cc)
true_by false a b h = cc

pub false_by : {A : Type 0} (t : Bool) (a : A) → when t a ≡ None → t ≡ false
false_by true a h = cc
false_by false a h = refl

-- the answer names n, which is where it was found
pub named : {A B : Type 0} (f : ℕ → A) (g : A → B) (n k : ℕ) (r : A) → n ≡ k → r ≡ f k → g (f n) ≡ g r
named f g n k r e h = ap (λ m. g (f m)) e ∙ sym (ap g h)

-- neither is there
pub or_none : {A : Type 0} (x y : Option A) → or_else x y ≡ None → (x ≡ None) × (y ≡ None)
or_none (Some a) y h = cc
or_none None y h = (refl, h)

-- one of the two is there, the second only where the first is not
pub or_some : {A : Type 0} (x y : Option A) (a : A) → or_else x y ≡ Some a → (x ≡ Some a) ⊎ ((x ≡ None) × (y ≡ Some a))
or_some (Some b) y a h = inl h
or_some None y a h = inr (refl, h)

module _ {A : Type 0} (f : ℕ → Option A) where
  -- nothing below 0
  pub lowest_none : lowest f 0 ≡ None
  unfolding lowest
  lowest_none = refl

  -- nothing below i and nothing at i
  pub lowest_more : (i : ℕ) → lowest f i ≡ None → f i ≡ None → lowest f (i + 1) ≡ None
  unfolding lowest
  lowest_more i h e = rw (add-one, h) e

  -- nothing below i and a at i: a is what stands lowest, however far one looks
  pub lowest_found : (i n : ℕ) (a : A) → lowest f i ≡ None → f i ≡ Some a → i < n → lowest f n ≡ Some a
  unfolding lowest
  lowest_found i zero a h e l = absurd (omega arith)
  lowest_found i (suc n) a h e l =
      elim (cases_order i n) [
        | inl same ↦ rw (← same, h) e
        | inr (inl below) ↦ rw (lowest_found i n a h e below)
        | inr (inr above) ↦ absurd (omega arith)
      ]

  -- where nothing is found, nothing stands at any number
  pub none_below : (n : ℕ) → lowest f n ≡ None → (k : ℕ) → k < n → f k ≡ None
  unfolding lowest
  none_below zero h k l = absurd (omega arith)
  none_below (suc n) h k l =
      let p : (lowest f n ≡ None) × (f n ≡ None) = or_none (lowest f n) (f n) h in
      elim (cases_order k n) [
        | inl same ↦ rw same p.1
        | inr (inl below) ↦ none_below n p.0 k below
        | inr (inr above) ↦ absurd (omega arith)
      ]

  -- where nothing stands at any number, nothing is found
  pub none_from_below : (n : ℕ) → ((k : ℕ) → k < n → f k ≡ None) → lowest f n ≡ None
  unfolding lowest
  none_from_below zero h = refl
  none_from_below (suc n) h = rw (none_from_below n (λ k l. h k (omega arith))) (h n (omega arith))

  -- what is found stands at some number, and nothing below it
  pub found_at : (n : ℕ) (a : A) → lowest f n ≡ Some a → (k : ℕ) × (k < n) × (f k ≡ Some a) × (lowest f k ≡ None)
  unfolding lowest
  found_at zero a h = cc
  found_at (suc n) a h =
      elim (or_some (lowest f n) (f n) a h) [
        | inl low ↦ (let p = found_at n a low in (p.0, omega arith, p.2, p.3))
        | inr here ↦ (n, omega arith, here.1, here.0)
      ]
