-- The lowest tag above a number is the least of those that pass.
use Rattle.std.proofs.Common.{◌≡◌, ℕ, zero, suc, ◌≤◌, min, Bool, true, false, cond, ltb, List, [], ◌∷◌, length, map, filter, Some, None, Option, MatchOption, sym, refl, ap, ◌∙◌, arith}
use Rattle.books.specs.Gathered.{lower}
use Rattle.refusals.specs.Faults.{when}
use Rattle.slot_book.specs.Found.{lowest_tag}
use Rattle.slot_book.specs.declared.slots.Slot.{Slot}
use Rattle.std.specs.List.{All, Contains}

lower_assoc : (a b c : Option ℕ) → lower (lower a b) c ≡ lower a (lower b c)
lower_assoc None b c = refl
lower_assoc (Some a) None c = refl
lower_assoc (Some a) (Some b) None = refl
lower_assoc (Some a) (Some b) (Some c) = ap Some least
  where
    least : min (min a b) c ≡ min a (min b c)
    least = omega arith

abbrev least : List ℕ → Option ℕ
least [] = None
least (x ∷ xs) = lower (Some x) (least xs)

lowest_least : (a : ℕ) (ss : List Slot) → lowest_tag a ss ≡ least (filter (ltb a) (map (λ (s : Slot). s.tag) ss))
unfolding lowest_tag
lowest_least a [] = refl
lowest_least a (s ∷ ss) = step (ltb a s.tag) (lowest_least a ss)
  where
    step : (b : Bool) → lowest_tag a ss ≡ least (filter (ltb a) (map (λ (x : Slot). x.tag) ss)) → lower (when b s.tag) (lowest_tag a ss) ≡ least (cond b (s.tag ∷ filter (ltb a) (map (λ (x : Slot). x.tag) ss)) (filter (ltb a) (map (λ (x : Slot). x.tag) ss)))
    step true ih = ap (lower (Some s.tag)) ih
    step false ih = ih

-- none is below m
least_above : (m : ℕ) (xs : List ℕ) → All (λ x. m ≤ x) xs → lower (Some m) (least xs) ≡ Some m
least_above m [] h = refl
least_above m (x ∷ xs) h =
    sym (lower_assoc (Some m) (Some x) (least xs))
    ∙ ap (λ (n : ℕ). lower (Some n) (least xs)) same
    ∙ least_above m xs (λ k d l. h (suc k) d (omega arith))
  where
    same : min m x ≡ m
    same = omega (arith, h 0 m (omega arith))

least_is : (m : ℕ) (xs : List ℕ) → Contains xs m → All (λ x. m ≤ x) xs → least xs ≡ Some m
least_is m [] (k, l, e) h = absurd (omega arith)
least_is m (x ∷ xs) (zero, l, e) h =
    ap (λ (n : ℕ). lower (Some n) (least xs)) e ∙ least_above m xs (λ k d l. h (suc k) d (omega arith))
least_is m (x ∷ xs) (suc k, l, e) h =
    ap (lower (Some x)) (least_is m xs (k, omega arith, e) (λ j d q. h (suc j) d (omega arith))) ∙ ap Some same
  where
    same : min x m ≡ m
    same = omega (arith, h 0 m (omega arith))

pub lowest_is : (a : ℕ) (ss : List Slot) (r : Option ℕ)
    → MatchOption r (length (filter (ltb a) (map (λ (s : Slot). s.tag) ss)) ≡ 0)
    (λ m. Contains (filter (ltb a) (map (λ (s : Slot). s.tag) ss)) m × All (λ x. m ≤ x) (filter (ltb a) (map (λ (s : Slot). s.tag) ss)))
    → r ≡ lowest_tag a ss
lowest_is a ss None e = go (filter (ltb a) (map (λ (s : Slot). s.tag) ss)) e ∙ sym (lowest_least a ss)
  where
    go : (xs : List ℕ) → length xs ≡ 0 → None ≡ least xs
    go [] q = refl
    go (x ∷ xs) q = absurd (omega arith)
lowest_is a ss (Some m) (c, h) = sym (lowest_least a ss ∙ least_is m (filter (ltb a) (map (λ (s : Slot). s.tag) ss)) c h)
