-- A whole line is what its runs leave, put one after another from the start of the buffer.
use Rattle.std.proofs.Common.{◌≡◌, ℕ, ◌+◌, ◌^◌, ◌<◌, ◌≤◌, Bool, true, false, cond, List, [], ◌∷◌, ◌++◌, ◌==◌, length, codes, decimal, sym, refl, ap, ◌∙◌, inl, arith, append-nil, append_assoc, length-append}
use Rattle.text.proofs.Puts.{sets_laid, sets_on}
use Rattle.text.proofs.Spacing.{Small, small_tests, some_not_none}
use Rattle.text.proofs.Telling.{lists_plain}
use Rattle.text.proofs.Widths.{length_decimal_32, length_head, length_head_is, length_next_is, length_plan, length_plan_is, length_refusal, length_refusal_is, length_tests}
use Rattle.text.specs.Printed.{head_line, line_feed, listed, next_test, of_page, page_place, plan_line, refusal_line, spaced}
use Rattle.text.specs.Refused.{laid}
use Rattle.text.specs.Sets.{tests_from}
use lib.Seq.{sets}

-- runs put one after another from a place on, and the joined run
abbrev pub runs : List ℕ → ℕ → List (List ℕ) → List ℕ
runs l at [] = l
runs l at (xs ∷ xss) = runs (sets l at xs) (at + length xs) xss

abbrev pub joined : List ℕ → List (List ℕ) → List ℕ
joined xs [] = xs
joined xs (ys ∷ yss) = joined (xs ++ ys) yss

runs_joined : (l : List ℕ) (at : ℕ) (xs : List ℕ) (yss : List (List ℕ))
    → runs (sets l at xs) (at + length xs) yss ≡ sets l at (joined xs yss)
runs_joined l at xs [] = refl
runs_joined l at xs (ys ∷ yss) =
    let e : at + length xs + length ys ≡ at + length (xs ++ ys) = omega (arith, length-append xs ys) in
    ap (λ (b : List ℕ). runs b (at + length xs + length ys) yss) (sets_on l at (at + length xs) xs ys refl)
    ∙ ap (λ (n : ℕ). runs (sets l at (xs ++ ys)) n yss) e
    ∙ runs_joined l at (xs ++ ys) yss

-- a line that is these runs, joined, laid at the start
line_laid : (line l xs : List ℕ) (yss : List (List ℕ)) → line ≡ joined xs yss → length line ≤ length l
    → laid line l ≡ runs l 0 (xs ∷ yss)
line_laid line l xs yss e h = sym (sets_laid line l h) ∙ ap (sets l 0) e ∙ sym (runs_joined l 0 xs yss)

-- a part that is left out
left_out : (text rest : List ℕ) → text ++ [] ++ rest ≡ text ++ rest
left_out text rest = ap (λ (t : List ℕ). t ++ rest) (append-nil text)

pub head_laid : (count : ℕ) (over : Bool) (l : List ℕ) → count < 2 ^ 32 → 64 ≤ length l
    → laid (head_line count over) l
    ≡ cond over
    (runs l 0 (codes "plans " ∷ decimal count ∷ codes " over" ∷ line_feed ∷ []))
    (runs l 0 (codes "plans " ∷ decimal count ∷ line_feed ∷ []))
unfolding head_line
head_laid count true l small room =
    line_laid _ l (codes "plans ") (decimal count ∷ codes " over" ∷ line_feed ∷ []) refl
    (let h = length_head count true small in omega arith)
head_laid count false l small room =
    line_laid _ l (codes "plans ") (decimal count ∷ line_feed ∷ []) (left_out (codes "plans " ++ decimal count) line_feed)
    (let h = length_head count false small in omega arith)

-- the place of a page's refusal is four runs more
place_joined : (text r k m b : List ℕ) → text ++ (r ++ k ++ m ++ b) ≡ text ++ r ++ k ++ m ++ b
place_joined text r k m b = simp append_assoc

refused_laid : (number k b : ℕ) (page : Bool) (l : List ℕ)
    → length (codes "refused " ++ decimal number ++ cond page (page_place k b) [] ++ line_feed) ≤ length l
    → laid (codes "refused " ++ decimal number ++ cond page (page_place k b) [] ++ line_feed) l
    ≡ cond page
    (runs l 0 (codes "refused " ∷ decimal number ∷ codes " record " ∷ decimal k ∷ codes " byte " ∷ decimal b ∷ line_feed ∷ []))
    (runs l 0 (codes "refused " ∷ decimal number ∷ line_feed ∷ []))
unfolding page_place
refused_laid number k b true l h =
    let text = codes "refused " ++ decimal number in
    let e = place_joined text (codes " record ") (decimal k) (codes " byte ") (decimal b) in
    line_laid _ l (codes "refused ")
    (decimal number ∷ codes " record " ∷ decimal k ∷ codes " byte " ∷ decimal b ∷ line_feed ∷ [])
    (ap (λ (t : List ℕ). t ++ line_feed) e) h
refused_laid number k b false l h =
    line_laid _ l (codes "refused ") (decimal number ∷ line_feed ∷ [])
    (left_out (codes "refused " ++ decimal number) line_feed) h

pub refusal_laid : (number k b : ℕ) (l : List ℕ) → number < 2 ^ 32 → k < 2 ^ 32 → b < 2 ^ 32 → 64 ≤ length l
    → laid (refusal_line number k b) l
    ≡ cond (of_page number)
    (runs l 0 (codes "refused " ∷ decimal number ∷ codes " record " ∷ decimal k ∷ codes " byte " ∷ decimal b ∷ line_feed ∷ []))
    (runs l 0 (codes "refused " ∷ decimal number ∷ line_feed ∷ []))
unfolding refusal_line
refusal_laid number k b l hn hk hb room =
    let h = length_refusal number k b hn hk hb in
    refused_laid number k b (of_page number) l (omega arith)

-- the tests of a plan, a dash where there is none, and the line feed
pub plan_laid : (s : ℕ) (l : List ℕ) → 64 ≤ length l
    → laid (plan_line s) l
    ≡ cond (length (spaced (tests_from 1 24 s)) == 0)
    (runs l 0 (spaced (tests_from 1 24 s) ∷ codes "-" ∷ line_feed ∷ []))
    (runs l 0 (spaced (tests_from 1 24 s) ∷ line_feed ∷ []))
unfolding plan_line
plan_laid s l room = go (tests_from 1 24 s) (small_tests 1 24 s (omega arith)) (omega (arith, length_plan s))
  where
    go : (js : List ℕ) → Small js → length (listed js ++ line_feed) ≤ length l
        → laid (listed js ++ line_feed) l
        ≡ cond (length (spaced js) == 0)
        (runs l 0 (spaced js ∷ codes "-" ∷ line_feed ∷ []))
        (runs l 0 (spaced js ∷ line_feed ∷ []))
    go [] small h = line_laid _ l [] (codes "-" ∷ line_feed ∷ []) refl h
    go (j ∷ js) small h =
        rw (some_not_none j js (small j (inl refl))) (line_laid _ l (spaced (j ∷ js)) (line_feed ∷ []) refl h)

-- a test after others comes after a space
pub next_put : (l : List ℕ) (at j : ℕ)
    → sets l at (next_test at j)
    ≡ cond (at == 0) (sets l at (decimal j)) (sets (sets l at (codes " ")) (at + 1) (decimal j))
next_put l at j = go (at == 0)
  where
    go : (first : Bool)
        → sets l at (cond first [] (codes " ") ++ decimal j)
        ≡ cond first (sets l at (decimal j)) (sets (sets l at (codes " ")) (at + 1) (decimal j))
    go true = refl
    go false = sym (sets_on l at (at + 1) (codes " ") (decimal j) refl)

-- what each line's code is checked by
pub ruleset head_put = (head_laid, length_head_is, length_decimal_32)

pub ruleset plan_put = (plan_laid, length_plan_is, length_tests, lists_plain)

pub ruleset refusal_put = (refusal_laid, length_refusal_is, length_decimal_32)

pub ruleset test_put = (next_put, length_next_is)
