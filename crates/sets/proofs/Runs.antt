-- Runs of writes into a list of numbers.
use Rattle.std.proofs.Common.{◌≡◌, ℕ, suc, ◌+◌, ◌≤◌, List, [], ◌∷◌, ◌++◌, length, take, drop, set, sym, ap, ◌∙◌, add-zero, arith}
use lib.Seq.{sets, sets-eq, take-append_seam}

-- a run of writes that goes on with another
pub sets_append : (l : List ℕ) (i : ℕ) (xs ys : List ℕ) → sets l i (xs ++ ys) ≡ sets (sets l i xs) (i + length xs) ys
sets_append l i [] ys = ap (λ (k : ℕ). sets l k ys) (sym (add-zero i))
sets_append l i (x ∷ xs) ys =
    sets_append (set l i x) (suc i) xs ys ∙ ap (λ (k : ℕ). sets (sets (set l i x) (suc i) xs) k ys) place
  where
    place : suc i + length xs ≡ i + suc (length xs)
    place = omega arith

-- what was written from the first place on is what stands there
pub sets_taken : (l xs : List ℕ) (n : ℕ) → n ≡ length xs → n ≤ length l → take n (sets l 0 xs) ≡ xs
sets_taken l xs n e h =
    ap (λ (m : ℕ). take m (sets l 0 xs)) e ∙ ap (take (length xs)) (sets-eq xs l 0 (omega arith)) ∙ take-append_seam xs (drop (0 + length xs) l)
