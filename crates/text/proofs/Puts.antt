-- Bytes put one run after another are the joined run, put once.
use Rattle.std.proofs.Common.{◌≡◌, ℕ, ◌+◌, ◌≤◌, List, ◌++◌, length, take, drop, sym, ap, ◌∙◌, zero-add, arith, append_assoc, drop-drop}
use Rattle.sets.proofs.Runs.{sets_append}
use borrow.Rule.Slice.PartMut.{put_mid}
use lib.Seq.{sets, sets-eq}
use Rattle.text.specs.Refused.{laid}

-- a run that is copied to its place as a whole
pub put_mid_sets : (a k : ℕ) (xs ys : List ℕ) → k ≡ length ys → a + k ≤ length xs → put_mid a k xs ys ≡ sets xs a ys
put_mid_sets a k xs ys e h =
    ap (λ (l : List ℕ). take a xs ++ (ys ++ l)) (drop-drop k a xs ∙ ap (λ (n : ℕ). drop (a + n) xs) e)
    ∙ sym (append_assoc (take a xs) ys (drop (a + length ys) xs))
    ∙ sym (sets-eq ys xs a (omega arith))

-- a run that goes on where the last one ended
pub sets_on : (l : List ℕ) (i j : ℕ) (xs ys : List ℕ) → j ≡ i + length xs → sets (sets l i xs) j ys ≡ sets l i (xs ++ ys)
sets_on l i j xs ys e = ap (λ (n : ℕ). sets (sets l i xs) n ys) e ∙ sym (sets_append l i xs ys)

-- at the start of the buffer: the text, and then the bytes that were there
pub sets_laid : (line l : List ℕ) → length line ≤ length l → sets l 0 line ≡ laid line l
sets_laid line l h = sets-eq line l 0 (omega arith) ∙ ap (λ (n : ℕ). line ++ drop n l) (zero-add (length line))
