-- What stands in a list, and what holds of all that does.
use Rattle.std.proofs.Common.{◌≡◌, ℕ, ◌<◌, Bool, true, false, ◌⊎◌, List, [], ◌∷◌, ◌++◌, map, filter, sym, refl, ap, ◌∙◌, subst, inl, inr, arith}
use Rattle.sets.specs.Lists.{Among, Rising}
use Rattle.std.proofs.lemmas.Bool.{both_ways, cases_Bool, cond-false, cond-true}
use Rattle.std.specs.List.{AllByRecursion as Every}

module _ {A : Type 0} where
  pub all_in : (P : A → Type 0) (xs : List A) (x : A) → Every P xs → Among xs x → P x
  all_in P [] x h i = absurd i
  all_in P (y ∷ ys) x h (inl e) = subst P e h.0
  all_in P (y ∷ ys) x h (inr i) = all_in P ys x h.1 i

  pub in_all : (P : A → Type 0) (xs : List A) → ((x : A) → Among xs x → P x) → Every P xs
  in_all P [] h = tt
  in_all P (y ∷ ys) h = (h y (inl refl), in_all P ys (λ x i. h x (inr i)))

  pub in_first : (xs ys : List A) (x : A) → Among xs x → Among (xs ++ ys) x
  in_first [] ys x i = absurd i
  in_first (z ∷ xs) ys x (inl e) = inl e
  in_first (z ∷ xs) ys x (inr i) = inr (in_first xs ys x i)

  pub in_second : (xs ys : List A) (x : A) → Among ys x → Among (xs ++ ys) x
  in_second [] ys x i = i
  in_second (z ∷ xs) ys x i = inr (in_second xs ys x i)

  -- what stands in two lists joined stands in one of them
  pub in_joined : (xs ys : List A) (x : A) → Among (xs ++ ys) x → Among xs x ⊎ Among ys x
  in_joined [] ys x i = inr i
  in_joined (z ∷ xs) ys x (inl e) = inl (inl e)
  in_joined (z ∷ xs) ys x (inr i) = go (in_joined xs ys x i)
    where
      go : Among xs x ⊎ Among ys x → Among (z ∷ xs) x ⊎ Among ys x
      go (inl k) = inl (inr k)
      go (inr k) = inr k

  pub in_map : {B : Type 0} (f : A → B) (xs : List A) (x : A) → Among xs x → Among (map f xs) (f x)
  in_map f [] x i = absurd i
  in_map f (z ∷ xs) x (inl e) = inl (ap f e)
  in_map f (z ∷ xs) x (inr i) = inr (in_map f xs x i)

  -- what stands in a mapped list comes from something
  pub map_in : {B : Type 0} (f : A → B) (xs : List A) (y : B) → Among (map f xs) y → (x : A) × Among xs x × (f x ≡ y)
  map_in f [] y i = absurd i
  map_in f (z ∷ xs) y (inl e) = (z, inl refl, e)
  map_in f (z ∷ xs) y (inr i) = let r = map_in f xs y i in (r.0, inr r.1, r.2)

  -- what passes a test and stands in a list stands in what is kept of it, and the other way round
  pub in_kept : (p : A → Bool) (xs : List A) (x : A) → Among xs x → p x ≡ true → Among (filter p xs) x
  in_kept p [] x i h = absurd i
  in_kept p (z ∷ xs) x i h = go i (cases_Bool (p z)) (λ k. in_kept p xs x k h)
    where
      go : Among (z ∷ xs) x → (p z ≡ true) ⊎ (p z ≡ false) → (Among xs x → Among (filter p xs) x) → Among (filter p (z ∷ xs)) x
      go (inl e) (inl t) rest = subst (λ (l : List A). Among l x) (sym (cond-true (p z) (z ∷ filter p xs) (filter p xs) t)) (inl e)
      go (inl e) (inr f) rest = absurd (both_ways (p z) f (ap p e ∙ h))
      go (inr k) (inl t) rest = subst (λ (l : List A). Among l x) (sym (cond-true (p z) (z ∷ filter p xs) (filter p xs) t)) (inr (rest k))
      go (inr k) (inr f) rest = subst (λ (l : List A). Among l x) (sym (cond-false (p z) (z ∷ filter p xs) (filter p xs) f)) (rest k)

  pub kept_in : (p : A → Bool) (xs : List A) (x : A) → Among (filter p xs) x → Among xs x × (p x ≡ true)
  kept_in p [] x i = absurd i
  kept_in p (z ∷ xs) x i = go (cases_Bool (p z)) (kept_in p xs x)
    where
      go : (p z ≡ true) ⊎ (p z ≡ false) → (Among (filter p xs) x → Among xs x × (p x ≡ true)) → Among (z ∷ xs) x × (p x ≡ true)
      go (inl t) f = taken (subst (λ (l : List A). Among l x) (cond-true (p z) (z ∷ filter p xs) (filter p xs) t) i)
        where
          taken : Among (z ∷ filter p xs) x → Among (z ∷ xs) x × (p x ≡ true)
          taken (inl e) = (inl e, ap p (sym e) ∙ t)
          taken (inr k) = let r = f k in (inr r.0, r.1)
      go (inr n) f = let r = f (subst (λ (l : List A). Among l x) (cond-false (p z) (z ∷ filter p xs) (filter p xs) n) i) in (inr r.0, r.1)

-- two rising lists with the same members are the same
pub rising_same : (xs ys : List ℕ) → Rising xs → Rising ys → ((x : ℕ) → Among xs x → Among ys x) → ((x : ℕ) → Among ys x → Among xs x) → xs ≡ ys
rising_same [] [] rx ry f g = refl
rising_same [] (y ∷ ys) rx ry f g = absurd (g y (inl refl))
rising_same (x ∷ xs) [] rx ry f g = absurd (f x (inl refl))
rising_same (x ∷ xs) (y ∷ ys) (ax, rx) (ay, ry) f g = both heads (rising_same xs ys rx ry down up)
  where
    below : (a b : ℕ) (bs : List ℕ) → Every (λ c. b < c) bs → Among (b ∷ bs) a → (b ≡ a) ⊎ (b < a)
    below a b bs l (inl e) = inl e
    below a b bs l (inr i) = inr (all_in (λ c. b < c) bs a l i)

    meet : (y ≡ x) ⊎ (y < x) → (x ≡ y) ⊎ (x < y) → x ≡ y
    meet (inl e) q = sym e
    meet (inr l) (inl e) = e
    meet (inr l) (inr k) = absurd (omega arith)

    heads : x ≡ y
    heads = meet (below x y ys ay (f x (inl refl))) (below y x xs ax (g y (inl refl)))

    later : (a b : ℕ) (bs : List ℕ) → b < a → Among (b ∷ bs) a → Among bs a
    later a b bs l (inl e) = absurd (omega arith)
    later a b bs l (inr i) = i

    down : (a : ℕ) → Among xs a → Among ys a
    down a i = later a y ys (let l : x < a = all_in (λ c. x < c) xs a ax i in let e = heads in omega arith) (f a (inr i))

    up : (a : ℕ) → Among ys a → Among xs a
    up a i = later a x xs (let l : y < a = all_in (λ c. y < c) ys a ay i in let e = heads in omega arith) (g a (inr i))

    both : x ≡ y → xs ≡ ys → (x ∷ xs) ≡ (y ∷ ys)
    both e q = ap (λ (a : ℕ). a ∷ xs) e ∙ ap (λ (l : List ℕ). y ∷ l) q
