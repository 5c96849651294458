-- What the checks tell of the set.
use Rattle.std.proofs.Common.{◌≡◌, ℕ, ◌^◌, ◌<◌, ◌≤◌, List, [], ◌∷◌, Some, None, refl, ap, inl, inr, arith}
use Rattle.std.proofs.lemmas.Bool.{cases_lt}
use Rattle.text.proofs.Subsets.{among_has, has_among, has_32, rising_tests}
use Rattle.text.specs.Refused.{lowest_outside, test_fault}
use Rattle.text.specs.Sets.{Has, tests_from}
use Rattle.sets.specs.Lists.{In, Rising}
use Rattle.sets.specs.Sets.{LowestAbove}
use Rattle.std.specs.List.{AllByRecursion as Every}
use Rattle.text.specs.Told.{Lists, Plain}
use Rattle.text.specs.declared.faults.TextFault.TheVariants.{Outside}

above_among : (j : ℕ) (ks : List ℕ) (k : ℕ) → Every (λ y. j < y) ks → In ks k → j < k
above_among j [] k a m = absurd m
above_among j (i ∷ ks) k a m = elim m [ inl e ↦ omega (arith, a.0) | inr h ↦ above_among j ks k a.1 h ]

-- every test above 24 of a 32-bit set is among the eight that are looked at
outside_among : (s : ℕ) → s < 2 ^ 32 → (j : ℕ) → 24 < j → Has j s → In (tests_from 25 8 s) j
outside_among s small j high h =
    elim (cases_lt 32 j)
    [ inl l ↦ absurd (has_32 s j small l h) | inr l ↦ has_among 25 8 s j (omega arith) (omega arith) h ]

-- a set with no test above 24 has no fault
pub none_fault : (s : ℕ) → LowestAbove s 24 None → test_fault s ≡ None
none_fault s none = go (tests_from 25 8 s) refl
  where
    go : (js : List ℕ) → tests_from 25 8 s ≡ js → lowest_outside js ≡ None
    go [] e = refl
    go (j ∷ js) e =
        let m = among_has 25 8 s j (rw e (inl refl)) in
        absurd (none j (omega (arith, m.0)) m.2)

-- the lowest test above 24 is the first of those that are looked at
pub some_fault : (s test : ℕ) → s < 2 ^ 32 → LowestAbove s 24 (Some test) → test_fault s ≡ Some (Outside test)
some_fault s test small low = go (tests_from 25 8 s) refl
  where
    among : In (tests_from 25 8 s) test
    among = outside_among s small test low.0 low.1

    go : (js : List ℕ) → tests_from 25 8 s ≡ js → lowest_outside js ≡ Some (Outside test)
    go [] e = absurd (rw e at among)
    go (j ∷ js) e =
        let m = among_has 25 8 s j (rw e (inl refl)) in
        let up : Rising (j ∷ js) = rw e at (rising_tests 25 8 s) in
        let n : In (j ∷ js) test = rw e at among in
        let above : j ≤ test = elim n [ inl g ↦ omega arith | inr g ↦ omega (arith, above_among j js test up.0 g) ] in
        elim (cases_lt j test) [
          | inl l ↦ absurd (low.2 j (omega (arith, m.0)) l m.2)
          | inr l ↦ let same : j ≡ test = omega arith in ap (λ (k : ℕ). Some (Outside k)) same
        ]

pub lists_plain : (s : ℕ) → Plain s → Lists (tests_from 1 24 s) s
lists_plain s none = record {
  rising = rising_tests 1 24 s;
  listed = λ j m. ((among_has 1 24 s j m).0, (among_has 1 24 s j m).2);
  whole = λ j low h.
      elim (cases_lt 24 j) [ inl l ↦ absurd (none j l h) | inr l ↦ has_among 1 24 s j low (omega arith) h ];
}

pub ruleset fault_told = (none_fault, some_fault)
