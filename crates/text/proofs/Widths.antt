-- Every line has fewer than 64 bytes.
use Rattle.std.proofs.Common.{◌≡◌, ℕ, zero, suc, ◌+◌, ◌-◌, ◌*◌, ◌^◌, ◌<◌, ◌≤◌, Bool, true, false, cond, eqb, List, [], ◌∷◌, ◌++◌, ◌==◌, length, codes, decimal, refl, ap, ◌∙◌, inl, inr, arith, length-append}
use Rattle.std.proofs.lemmas.Fmt.{length-decimal-le}
use Rattle.std.proofs.lemmas.Bool.{cases_lt, cond_both}
use Rattle.text.proofs.Spacing.{Small, small_tests, some_not_none, trail_append}
use Rattle.text.proofs.Subsets.{single, tests_more}
use Rattle.text.specs.Printed.{head_line, line_feed, listed, next_test, of_page, page_place, plan_line}
use Rattle.text.specs.Printed.{refusal_line, spaced, trail}
use Rattle.text.specs.Sets.{is_in, tests_from}

-- a 32-bit number has ten digits at most
pub length_decimal_32 : (n : ℕ) → n < 2 ^ 32 → length (decimal n) ≤ 10
length_decimal_32 n h = length-decimal-le 10 n (omega arith) (omega arith) (omega arith)

pub length_head_is : (count : ℕ) (over : Bool)
    → length (head_line count over) ≡ cond over (12 + length (decimal count)) (7 + length (decimal count))
unfolding head_line
length_head_is count true = simp length-append (omega arith)
length_head_is count false = simp length-append (omega arith)

pub length_head : (count : ℕ) (over : Bool) → count < 2 ^ 32 → length (head_line count over) < 64
length_head count true h = omega (arith, length_head_is count true, length_decimal_32 count h)
length_head count false h = omega (arith, length_head_is count false, length_decimal_32 count h)

-- with a page's place or without
length_refused : (number k b : ℕ) (page : Bool)
    → length (codes "refused " ++ decimal number ++ cond page (page_place k b) [] ++ line_feed)
    ≡ cond page (23 + length (decimal number) + length (decimal k) + length (decimal b)) (9 + length (decimal number))
unfolding page_place
length_refused number k b true = simp length-append (omega arith)
length_refused number k b false = simp length-append (omega arith)

pub length_refusal_is : (number k b : ℕ)
    → length (refusal_line number k b)
    ≡ cond (of_page number) (23 + length (decimal number) + length (decimal k) + length (decimal b)) (9 + length (decimal number))
unfolding refusal_line
length_refusal_is number k b = length_refused number k b (of_page number)

pub length_refusal : (number k b : ℕ) → number < 2 ^ 32 → k < 2 ^ 32 → b < 2 ^ 32 → length (refusal_line number k b) < 64
length_refusal number k b hn hk hb = rw (length_refusal_is number k b) (small (of_page number))
  where
    small : (page : Bool)
        → cond page (23 + length (decimal number) + length (decimal k) + length (decimal b)) (9 + length (decimal number)) < 64
    small true = omega (arith, length_decimal_32 number hn, length_decimal_32 k hk, length_decimal_32 b hb)
    small false = omega (arith, length_decimal_32 number hn)

length_one : (j s : ℕ) → length (trail (single j s)) ≤ 1 + length (decimal j)
length_one j s =
    cond_both (is_in j s) (j ∷ []) [] (λ js. length (trail js) ≤ 1 + length (decimal j))
    (λ e. simp length-append (omega arith))
    (λ e. omega arith)

length_more : (n s : ℕ)
    → length (trail (tests_from 1 (suc n) s)) ≡ length (trail (tests_from 1 n s)) + length (trail (single (1 + n) s))
length_more n s =
    ap (λ (js : List ℕ). length (trail js)) (tests_more 1 n s)
    ∙ ap length (trail_append (tests_from 1 n s) (single (1 + n) s))
    ∙ length-append (trail (tests_from 1 n s)) (trail (single (1 + n) s))

-- with a space before each: two bytes for each test to 9, three for each to 24
length_trail : (n s : ℕ)
    → (n ≤ 9 → length (trail (tests_from 1 n s)) ≤ 2 * n)
    × (9 ≤ n → n ≤ 24 → length (trail (tests_from 1 n s)) + 9 ≤ 3 * n)
unfolding tests_from
length_trail zero s = ((λ h. omega arith), (λ g h. omega arith))
length_trail (suc n) s =
    let r = length_trail n s in
    let m = length_more n s in
    let o = length_one (1 + n) s in (
      (λ h.
          let digits = length-decimal-le 1 (1 + n) (omega arith) (omega arith) (omega arith) in
          omega (arith, r.0 (omega arith))),
      (λ g h. elim (cases_lt n 9) [
        | inl l ↦
            let digits = length-decimal-le 1 (1 + n) (omega arith) (omega arith) (omega arith) in
            omega (arith, r.0 (omega arith))
        | inr l ↦
            let digits = length-decimal-le 2 (1 + n) (omega arith) (omega arith) (omega arith) in
            omega (arith, r.1 (omega arith) (omega arith))
      ]),
    )

length_spaced : (js : List ℕ) → length (spaced js) ≤ length (trail js)
length_spaced [] = omega arith
length_spaced (j ∷ js) = omega arith

-- the line feed takes no more than the space that the first test lacks
length_listed : (js : List ℕ) → length (trail js) ≤ 63 → length (listed js) + 1 ≤ 63
length_listed [] h = omega arith
length_listed (j ∷ js) h = omega arith

pub length_plan_is : (s : ℕ)
    → length (plan_line s) ≡ cond (length (spaced (tests_from 1 24 s)) == 0) 2 (length (spaced (tests_from 1 24 s)) + 1)
unfolding plan_line
length_plan_is s = go (tests_from 1 24 s) (small_tests 1 24 s (omega arith))
  where
    go : (js : List ℕ) → Small js
        → length (listed js ++ line_feed) ≡ cond (length (spaced js) == 0) 2 (length (spaced js) + 1)
    go [] small = refl
    go (j ∷ js) small = rw (some_not_none j js (small j (inl refl))) (length-append (spaced (j ∷ js)) line_feed)

pub length_plan : (s : ℕ) → length (plan_line s) < 64
unfolding plan_line
length_plan s =
    omega (
      arith,
      length-append (listed (tests_from 1 24 s)) line_feed,
      length_listed (tests_from 1 24 s) (omega (arith, (length_trail 24 s).1 (omega arith) (omega arith))),
    )

pub length_next_is : (at j : ℕ) → length (next_test at j) ≡ cond (at == 0) (length (decimal j)) (1 + length (decimal j))
length_next_is at j = go (at == 0)
  where
    go : (first : Bool)
        → length (cond first [] (codes " ") ++ decimal j) ≡ cond first (length (decimal j)) (1 + length (decimal j))
    go true = refl
    go false = length-append (codes " ") (decimal j)

length_next : (at j : ℕ) → length (next_test at j) ≤ 1 + length (decimal j)
length_next at j =
    cond_both (eqb at 0) [] (codes " ") (λ bs. length (bs ++ decimal j) ≤ 1 + length (decimal j))
    (λ e. omega arith)
    (λ e. omega arith)

-- one more test of a plan finds room
pub room_for_test : (test s : ℕ) → 0 < test → test ≤ 24
    → length (spaced (tests_from 1 (test - 1) s)) + length (next_test (length (spaced (tests_from 1 (test - 1) s))) test) ≤ 64
room_for_test test s low high =
    let n = test - 1 in
    let so_far = length_spaced (tests_from 1 n s) in
    let next = length_next (length (spaced (tests_from 1 n s))) test in
    let digits = length-decimal-le 2 test (omega arith) (omega arith) (omega arith) in
    elim (cases_lt n 9) [
      | inl l ↦ omega (arith, (length_trail n s).0 (omega arith))
      | inr l ↦ omega (arith, (length_trail n s).1 (omega arith) (omega arith))
    ]

-- the tests of a plan leave room for the line feed
pub length_tests : (s : ℕ) → length (spaced (tests_from 1 24 s)) ≤ 62
unfolding plan_line
length_tests s =
    let trailed = (length_trail 24 s).1 (omega arith) (omega arith) in
    shorter (tests_from 1 24 s) (omega arith)
  where
    shorter : (js : List ℕ) → length (trail js) ≤ 63 → length (spaced js) ≤ 62
    shorter [] h = omega arith
    shorter (j ∷ js) h = omega arith
