-- Numbers with one space between, as one more comes at the end.
use Rattle.std.proofs.Common.{◌≡◌, ℕ, ◌+◌, ◌-◌, ◌^◌, ◌<◌, ◌≤◌, Bool, true, false, cond, List, [], ◌∷◌, ◌++◌, ◌==◌, length, codes, decimal, sym, refl, ap, ◌∙◌, inl, append_assoc, append-nil, arith, length-append}
use Rattle.std.proofs.lemmas.Fmt.{decimal_nonempty}
use Rattle.std.proofs.lemmas.Bool.{le-leb, ne_eqb}
use Rattle.text.proofs.Subsets.{among_has, tests_to}
use Rattle.text.specs.Printed.{next_test, spaced, trail}
use Rattle.text.specs.Sets.{is_in, tests_from}
use Rattle.sets.specs.Lists.{In}
use Rattle.sets.specs.Sets.{has_test}

-- the numbers of the list fit 64 bits, so that `decimal` writes them whole
abbrev pub Small : List ℕ → Type 0
Small js = (j : ℕ) → In js j → j < 2 ^ 64

pub trail_append : (js ks : List ℕ) → trail (js ++ ks) ≡ trail js ++ trail ks
trail_append [] ks = refl
trail_append (j ∷ js) ks =
    ap (λ (bs : List ℕ). codes " " ++ decimal j ++ bs) (trail_append js ks)
    ∙ sym (append_assoc (codes " " ++ decimal j) (trail js) (trail ks))

spaced_some : (j : ℕ) (js : List ℕ) → j < 2 ^ 64 → 0 < length (spaced (j ∷ js))
spaced_some j js h = simp length-append (omega (arith, decimal_nonempty j h))

-- a list with a number in it has a text of some bytes
pub some_not_none : (j : ℕ) (js : List ℕ) → j < 2 ^ 64 → (length (spaced (j ∷ js)) == 0) ≡ false
some_not_none j js h = ne_eqb (length (spaced (j ∷ js))) 0 (λ e. omega (arith, spaced_some j js h))

-- a number after others has a space before it
next_later : (at j : ℕ) → 0 < at → next_test at j ≡ trail (j ∷ [])
next_later at j h =
    ap (λ (b : Bool). cond b [] (codes " ") ++ decimal j) (ne_eqb at 0 (λ e. omega arith))
    ∙ sym (append-nil (codes " " ++ decimal j))

spaced_more : (js : List ℕ) (j : ℕ) → Small js
    → spaced (js ++ j ∷ []) ≡ spaced js ++ next_test (length (spaced js)) j
spaced_more [] j h = append-nil (decimal j)
spaced_more (k ∷ js) j h =
    ap (λ (bs : List ℕ). decimal k ++ bs) (trail_append js (j ∷ []))
    ∙ sym (append_assoc (decimal k) (trail js) (trail (j ∷ [])))
    ∙ ap
    (λ (bs : List ℕ). spaced (k ∷ js) ++ bs)
    (sym (next_later (length (spaced (k ∷ js))) j (spaced_some k js (h k (inl refl)))))

pub small_tests : (first n s : ℕ) → first + n ≤ 2 ^ 64 → Small (tests_from first n s)
small_tests first n s h j m = let r = among_has first n s j m in omega arith

pub tests_none : (first s : ℕ) → tests_from first 0 s ≡ []
unfolding tests_from
tests_none first s = refl

-- a test of 1 to 32, as the sets crate tells it
has_is_in : (test s : ℕ) → 0 < test → test ≤ 32 → has_test s test ≡ is_in test s
has_is_in test s low high = rw (le-leb 1 test (omega arith), le-leb test 32 high) refl

-- the tests below the next number: one more where this one is in the set
pub tests_next : (test s : ℕ) → 0 < test → test ≤ 32
    → spaced (tests_from 1 (test + 1 - 1) s)
    ≡ cond (has_test s test)
    (spaced (tests_from 1 (test - 1) s) ++ next_test (length (spaced (tests_from 1 (test - 1) s))) test)
    (spaced (tests_from 1 (test - 1) s))
tests_next test s low high =
    ap spaced (tests_to test s low)
    ∙ go (is_in test s)
    ∙ ap (λ (b : Bool). cond b (spaced before ++ next_test (length (spaced before)) test) (spaced before)) (sym (has_is_in test s low high))
  where
    before : List ℕ
    before = tests_from 1 (test - 1) s

    go : (b : Bool) → spaced (before ++ cond b (test ∷ []) [])
        ≡ cond b (spaced before ++ next_test (length (spaced before)) test) (spaced before)
    go true = spaced_more before test (small_tests 1 (test - 1) s (omega arith))
    go false = ap spaced (append-nil before)
