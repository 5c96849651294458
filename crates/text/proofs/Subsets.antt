-- The tests of a set, one by one: one more at the high end, the lowest, and that none is left out.
use Rattle.std.proofs.Common.{◌≡◌, ℕ, zero, suc, ◌+◌, ◌-◌, ◌/◌, ◌%◌, ◌^◌, ◌<◌, ◌≤◌, Bool, true, false, cond, List, [], ◌∷◌, ◌++◌, sym, refl, ap, ◌∙◌, inl, inr, add-zero, arith, pow_mono}
use Rattle.std.specs.List.{AllByRecursion as Every}
use Rattle.std.proofs.lemmas.Bool.{cases_Bool, cases_eq, eqb-true, eq-eqb, cond_both}
use Rattle.text.specs.Sets.{Has, is_in, tests_from}
use Rattle.sets.specs.Lists.{In, Rising}
use native.Mathlib.Nat.{div-eq_of_lt}

-- the test j alone where it is in s, else none
abbrev pub single : ℕ → ℕ → List ℕ
single j s = cond (is_in j s) (j ∷ []) []

cond_append : (b : Bool) (x : ℕ) (xs ys : List ℕ) → cond b (x ∷ (xs ++ ys)) (xs ++ ys) ≡ cond b (x ∷ xs) xs ++ ys
cond_append true x xs ys = refl
cond_append false x xs ys = refl

-- one more at the high end
pub tests_more : (first n s : ℕ) → tests_from first (suc n) s ≡ tests_from first n s ++ single (first + n) s
unfolding tests_from
tests_more first zero s = rw add-zero
tests_more first (suc n) s =
    let e : first + 1 + n ≡ first + suc n = omega arith in
    ap
    (λ (js : List ℕ). cond (is_in first s) (first ∷ js) js)
    (tests_more (first + 1) n s ∙ ap (λ (j : ℕ). tests_from (first + 1) n s ++ single j s) e)
    ∙ cond_append (is_in first s) first (tests_from (first + 1) n s) (single (first + suc n) s)

-- the same for the tests from 1 on, by the number that comes
pub tests_to : (test s : ℕ) → 0 < test → tests_from 1 (test + 1 - 1) s ≡ tests_from 1 (test - 1) s ++ single test s
tests_to test s low =
    let all : test + 1 - 1 ≡ suc (test - 1) = omega arith in
    let last : 1 + (test - 1) ≡ test = omega arith in
    ap (λ (n : ℕ). tests_from 1 n s) all
    ∙ tests_more 1 (test - 1) s
    ∙ ap (λ (j : ℕ). tests_from 1 (test - 1) s ++ single j s) last

-- what is listed is in the set, and among those looked at
pub among_has : (first n s j : ℕ) → In (tests_from first n s) j → (first ≤ j) × (j < first + n) × Has j s
unfolding tests_from
among_has first zero s j h = absurd h
among_has first (suc n) s j h =
    elim (cases_Bool (is_in first s)) [
      | inl e ↦
          elim (rw e at h) [
            | inl g ↦ (omega arith, omega arith, rw (← g) (eqb-true _ _ e))
            | inr g ↦ let r = among_has (first + 1) n s j g in (omega arith, omega arith, r.2)
          ]
      | inr e ↦ let r = among_has (first + 1) n s j (rw e at h) in (omega arith, omega arith, r.2)
    ]

-- and what is in the set is listed
pub has_among : (first n s j : ℕ) → first ≤ j → j < first + n → Has j s → In (tests_from first n s) j
unfolding tests_from
has_among first zero s j lo hi h = omega arith
has_among first (suc n) s j lo hi h =
    elim (cases_eq j first) [
      | inl g ↦ rw (eq-eqb (s / 2 ^ (first - 1) % 2) 1 (rw g at h)) (inl (sym g))
      | inr g ↦
          cond_both (is_in first s) (first ∷ tests_from (first + 1) n s) (tests_from (first + 1) n s)
          (λ js. In js j)
          (λ e. inr (has_among (first + 1) n s j (omega arith) (omega arith) h))
          (λ e. has_among (first + 1) n s j (omega arith) (omega arith) h)
    ]

above_first : (k first n s : ℕ) → k < first → Every (λ y. k < y) (tests_from first n s)
unfolding tests_from
above_first k first zero s h = tt
above_first k first (suc n) s h =
    cond_both (is_in first s) (first ∷ tests_from (first + 1) n s) (tests_from (first + 1) n s)
    (λ js. Every (λ y. k < y) js)
    (λ e. (h, above_first k (first + 1) n s (omega arith)))
    (λ e. above_first k (first + 1) n s (omega arith))

pub rising_tests : (first n s : ℕ) → Rising (tests_from first n s)
unfolding tests_from
rising_tests first zero s = tt
rising_tests first (suc n) s =
    cond_both (is_in first s) (first ∷ tests_from (first + 1) n s) (tests_from (first + 1) n s)
    (λ js. Rising js)
    (λ e. (above_first first (first + 1) n s (omega arith), rising_tests (first + 1) n s))
    (λ e. rising_tests (first + 1) n s)

-- a 32-bit set has no test above 32
pub has_32 : (s j : ℕ) → s < 2 ^ 32 → 32 < j → Has j s → ⊥
has_32 s j small high h =
    let p : 2 ^ 32 ≤ 2 ^ (j - 1) = pow_mono {i = 32} {j = j - 1} (omega arith) in
    let z : s / 2 ^ (j - 1) ≡ 0 = div-eq_of_lt (omega arith) in
    omega (arith, rw z at h)
