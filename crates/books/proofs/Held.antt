-- Records by rising tags: found, put in, taken out, reread; lists with the same records are the same.
use Rattle.std.proofs.Common.{◌≡◌, ℕ, suc, ◌<◌, ◌≤◌, Bool, true, false, cond, not, eqb, ltb, ◌≢◌, ◌⊎◌, List, [], ◌∷◌, length, Some, None, Option, sym, refl, ap, ◌∙◌, subst, inl, inr, arith}
use Rattle.books.specs.Changes.{insert, remove, reread, reread_of}
use Rattle.books.specs.Meanings.{Rec, Rising}
use Rattle.books.specs.Questions.{find}
use Rattle.std.proofs.ByRecursion.{all_kept_by, All-weaker}
use Rattle.std.proofs.lemmas.Bool.{cases_eq, cases_order, cond-false, cond-true, eq-eqb, eqb-true, ltb-false, ltb-true, ne_eqb}
use Rattle.std.specs.List.{AllByRecursion as Every}
use lib.ListN.{length-map}

module _ {R : Type 0} where
  pub find_here : (t : ℕ) (x : Rec R) (xs : List (Rec R)) → x.tag ≡ t → find t (x ∷ xs) ≡ Some x
  unfolding find
  find_here t x xs e = cond-true (eqb x.tag t) (Some x) (find t xs) (eq-eqb x.tag t e)

  pub find_on : (t : ℕ) (x : Rec R) (xs : List (Rec R)) → x.tag ≢ t → find t (x ∷ xs) ≡ find t xs
  unfolding find
  find_on t x xs ne = cond-false (eqb x.tag t) (Some x) (find t xs) (ne_eqb x.tag t ne)

  -- no record of a tag at or below all tags but its own
  pub find_none : (t : ℕ) (xs : List (Rec R)) → Every (λ y. t < y.tag) xs → find t xs ≡ None
  unfolding find
  find_none t [] h = refl
  find_none t (x ∷ xs) (l, h) = cond-false (eqb x.tag t) (Some x) (find t xs) (ne_eqb x.tag t (λ e. omega arith)) ∙ find_none t xs h

  -- ---- lists with the same records are the same

  above_more : (t u : ℕ) → t ≤ u → (xs : List (Rec R)) → Every (λ y. u < y.tag) xs → Every (λ y. t < y.tag) xs
  above_more t u l xs h = All-weaker (λ y. u < y.tag) (λ y. t < y.tag) (λ y k. omega arith) xs h

  same_head : (x y : Rec R) (xs ys : List (Rec R)) → Rising (x ∷ xs) → Rising (y ∷ ys)
      → ((t : ℕ) → find t (x ∷ xs) ≡ find t (y ∷ ys)) → x ≡ y
  same_head x y xs ys (ax, rx) (ay, ry) h = go (cases_order x.tag y.tag)
    where
      at_x : Some x ≡ find x.tag (y ∷ ys)
      at_x = sym (find_here x.tag x xs refl) ∙ h x.tag

      at_y : find y.tag (x ∷ xs) ≡ Some y
      at_y = h y.tag ∙ find_here y.tag y ys refl

      go : (x.tag ≡ y.tag) ⊎ ((x.tag < y.tag) ⊎ (y.tag < x.tag)) → x ≡ y
      go (inl e) = let p = at_x ∙ find_here x.tag y ys (sym e) in cc
      go (inr (inl l)) =
          let none : find x.tag (y ∷ ys) ≡ None = find_none x.tag (y ∷ ys) (l, above_more x.tag y.tag (omega arith) ys ay) in
          let p = at_x ∙ none in cc
      go (inr (inr l)) =
          let none : find y.tag (x ∷ xs) ≡ None = find_none y.tag (x ∷ xs) (l, above_more y.tag x.tag (omega arith) xs ax) in
          let p = sym at_y ∙ none in cc

  same_tail : (x : Rec R) (xs ys : List (Rec R)) → Every (λ z. x.tag < z.tag) xs → Every (λ z. x.tag < z.tag) ys
      → ((t : ℕ) → find t (x ∷ xs) ≡ find t (x ∷ ys)) → (t : ℕ) → find t xs ≡ find t ys
  same_tail x xs ys ax ay h t = go (cases_eq x.tag t)
    where
      go : (x.tag ≡ t) ⊎ (x.tag ≢ t) → find t xs ≡ find t ys
      go (inl e) = find_none t xs (above_more t x.tag (omega arith) xs ax) ∙ sym (find_none t ys (above_more t x.tag (omega arith) ys ay))
      go (inr ne) = sym (find_on t x xs ne) ∙ h t ∙ find_on t x ys ne

  pub same_held : (xs ys : List (Rec R)) → Rising xs → Rising ys → ((t : ℕ) → find t xs ≡ find t ys) → xs ≡ ys
  unfolding find
  same_held [] [] rx ry h = refl
  same_held [] (y ∷ ys) rx ry h = let p = h y.tag ∙ find_here y.tag y ys refl in cc
  same_held (x ∷ xs) [] rx ry h = let p = sym (h x.tag) ∙ find_here x.tag x xs refl in cc
  same_held (x ∷ xs) (y ∷ ys) rx ry h =
      let e = same_head x y xs ys rx ry h in
      let ry' : Rising (x ∷ ys) = subst (λ (z : Rec R). Rising (z ∷ ys)) (sym e) ry in
      let h' : (t : ℕ) → find t (x ∷ xs) ≡ find t (x ∷ ys) = subst (λ (z : Rec R). (t : ℕ) → find t (x ∷ xs) ≡ find t (z ∷ ys)) (sym e) h in
      let tail = same_held xs ys rx.1 ry.1 (same_tail x xs ys rx.0 ry'.0 h') in
      ap (λ (zs : List (Rec R)). x ∷ zs) tail ∙ ap (λ (z : Rec R). z ∷ ys) e

  -- ---- a record put in

  pub find_insert_here : (x : Rec R) (xs : List (Rec R)) → find x.tag xs ≡ None → find x.tag (insert x xs) ≡ Some x
  unfolding insert
  find_insert_here x [] n = find_here x.tag x [] refl
  find_insert_here x (y ∷ ys) n = go (ltb x.tag y.tag) (cases_eq y.tag x.tag) (find_insert_here x ys)
    where
      go : (b : Bool) → (y.tag ≡ x.tag) ⊎ (y.tag ≢ x.tag) → (find x.tag ys ≡ None → find x.tag (insert x ys) ≡ Some x)
          → find x.tag (cond b (x ∷ y ∷ ys) (y ∷ insert x ys)) ≡ Some x
      go true c f = find_here x.tag x (y ∷ ys) refl
      go false (inl e) f = let p = sym n ∙ find_here x.tag y ys e in cc
      go false (inr ne) f = find_on x.tag y (insert x ys) ne ∙ f (sym (find_on x.tag y ys ne) ∙ n)

  pub find_insert_on : (t : ℕ) (x : Rec R) (xs : List (Rec R)) → x.tag ≢ t → find t (insert x xs) ≡ find t xs
  unfolding insert
  find_insert_on t x [] ne = find_on t x [] ne
  find_insert_on t x (y ∷ ys) ne = go (ltb x.tag y.tag) (cases_eq y.tag t) (find_insert_on t x ys ne)
    where
      go : (b : Bool) → (y.tag ≡ t) ⊎ (y.tag ≢ t) → find t (insert x ys) ≡ find t ys
          → find t (cond b (x ∷ y ∷ ys) (y ∷ insert x ys)) ≡ find t (y ∷ ys)
      go true c f = find_on t x (y ∷ ys) ne
      go false (inl e) f = find_here t y (insert x ys) e ∙ sym (find_here t y ys e)
      go false (inr n) f = find_on t y (insert x ys) n ∙ f ∙ sym (find_on t y ys n)

  pub all_insert : (P : Rec R → Type 0) (x : Rec R) (xs : List (Rec R)) → P x → Every P xs → Every P (insert x xs)
  unfolding insert
  all_insert P x [] p h = (p, tt)
  all_insert P x (y ∷ ys) p (q, h) = go (ltb x.tag y.tag) (all_insert P x ys p h)
    where
      go : (b : Bool) → Every P (insert x ys) → Every P (cond b (x ∷ y ∷ ys) (y ∷ insert x ys))
      go true k = (p, (q, h))
      go false k = (q, k)

  pub rising_insert : (x : Rec R) (xs : List (Rec R)) → find x.tag xs ≡ None → Rising xs → Rising (insert x xs)
  unfolding insert
  rising_insert x [] n r = (tt, tt)
  rising_insert x (y ∷ ys) n (a, r) = go (ltb x.tag y.tag) refl (cases_eq y.tag x.tag) (λ k. rising_insert x ys k r)
    where
      go : (b : Bool) → ltb x.tag y.tag ≡ b → (y.tag ≡ x.tag) ⊎ (y.tag ≢ x.tag) → (find x.tag ys ≡ None → Rising (insert x ys))
          → Rising (cond b (x ∷ y ∷ ys) (y ∷ insert x ys))
      go true e c f = let l = ltb-true x.tag y.tag e in ((l, above_more x.tag y.tag (omega arith) ys a), (a, r))
      go false e (inl s) f = let p = sym n ∙ find_here x.tag y ys s in cc
      go false e (inr ne) f =
          let l = ltb-false x.tag y.tag e in
          let above : y.tag < x.tag = omega arith in
          (all_insert (λ z. y.tag < z.tag) x ys above a, f (sym (find_on x.tag y ys ne) ∙ n))

  pub length_insert : (x : Rec R) (xs : List (Rec R)) → length (insert x xs) ≡ suc (length xs)
  unfolding insert
  length_insert x [] = refl
  length_insert x (y ∷ ys) = go (ltb x.tag y.tag) (length_insert x ys)
    where
      go : (b : Bool) → length (insert x ys) ≡ suc (length ys) → length (cond b (x ∷ y ∷ ys) (y ∷ insert x ys)) ≡ suc (suc (length ys))
      go true e = refl
      go false e = ap suc e

  -- ---- a record taken out

  pub find_remove_on : (t u : ℕ) (xs : List (Rec R)) → u ≢ t → find t (remove u xs) ≡ find t xs
  unfolding remove
  find_remove_on t u [] ne = refl
  find_remove_on t u (x ∷ xs) ne = go (eqb x.tag u) refl (cases_eq x.tag t) (find_remove_on t u xs ne)
    where
      go : (b : Bool) → eqb x.tag u ≡ b → (x.tag ≡ t) ⊎ (x.tag ≢ t) → find t (remove u xs) ≡ find t xs
          → find t (cond (not b) (x ∷ remove u xs) (remove u xs)) ≡ find t (x ∷ xs)
      go true e c f = f ∙ sym (find_on t x xs (λ s. ne (sym (eqb-true x.tag u e) ∙ s)))
      go false e (inl s) f = find_here t x (remove u xs) s ∙ sym (find_here t x xs s)
      go false e (inr n) f = find_on t x (remove u xs) n ∙ f ∙ sym (find_on t x xs n)

  pub find_remove_here : (u : ℕ) (xs : List (Rec R)) → find u (remove u xs) ≡ None
  unfolding remove find
  find_remove_here u [] = refl
  find_remove_here u (x ∷ xs) = go (eqb x.tag u) refl (find_remove_here u xs)
    where
      go : (b : Bool) → eqb x.tag u ≡ b → find u (remove u xs) ≡ None → find u (cond (not b) (x ∷ remove u xs) (remove u xs)) ≡ None
      go true e f = f
      go false e f = cond-false (eqb x.tag u) (Some x) (find u (remove u xs)) e ∙ f

  pub all_remove : (P : Rec R → Type 0) (u : ℕ) (xs : List (Rec R)) → Every P xs → Every P (remove u xs)
  unfolding remove
  all_remove P u xs h = all_kept_by (λ x. not (eqb x.tag u)) P xs h

  pub rising_remove : (u : ℕ) (xs : List (Rec R)) → Rising xs → Rising (remove u xs)
  unfolding remove
  rising_remove u [] r = tt
  rising_remove u (x ∷ xs) (a, r) = go (eqb x.tag u) (rising_remove u xs r)
    where
      go : (b : Bool) → Rising (remove u xs) → Rising (cond (not b) (x ∷ remove u xs) (remove u xs))
      go true f = f
      go false f = (all_remove (λ z. x.tag < z.tag) u xs a, f)

  -- ---- one reading set

  rereads : ℕ → ℕ → R → Rec R → Rec R
  rereads u test v x = cond (eqb x.tag u) (reread test v x) x

  tag_rereads : (u test : ℕ) (v : R) (x : Rec R) → (rereads u test v x).tag ≡ x.tag
  unfolding rereads
  tag_rereads u test v x = go (eqb x.tag u)
    where
      go : (b : Bool) → (cond b (reread test v x) x).tag ≡ x.tag
      go true = refl
      go false = refl

  -- the record that is found, reread where it is that of u
  abbrev pub reread_found : ℕ → ℕ → R → Option (Rec R) → Option (Rec R)
  reread_found u test v None = None
  reread_found u test v (Some x) = Some (cond (eqb x.tag u) (reread test v x) x)

  pub find_reread : (t u test : ℕ) (v : R) (xs : List (Rec R)) → find t (reread_of u test v xs) ≡ reread_found u test v (find t xs)
  unfolding reread_of find rereads
  find_reread t u test v [] = refl
  find_reread t u test v (x ∷ xs) = go (cases_eq x.tag t) (find_reread t u test v xs)
    where
      go : (x.tag ≡ t) ⊎ (x.tag ≢ t) → find t (reread_of u test v xs) ≡ reread_found u test v (find t xs)
          → find t (rereads u test v x ∷ reread_of u test v xs) ≡ reread_found u test v (find t (x ∷ xs))
      go (inl e) f =
          find_here t (rereads u test v x) (reread_of u test v xs) (tag_rereads u test v x ∙ e) ∙ sym (ap (reread_found u test v) (find_here t x xs e))
      go (inr ne) f =
          find_on t (rereads u test v x) (reread_of u test v xs) (λ e. ne (sym (tag_rereads u test v x) ∙ e)) ∙ f ∙ sym (ap (reread_found u test v) (find_on t x xs ne))

  pub above_reread : (n u test : ℕ) (v : R) (xs : List (Rec R)) → Every (λ z. n < z.tag) xs → Every (λ z. n < z.tag) (reread_of u test v xs)
  unfolding reread_of rereads
  above_reread n u test v [] h = tt
  above_reread n u test v (x ∷ xs) (l, h) = (omega (arith, tag_rereads u test v x), above_reread n u test v xs h)

  pub rising_reread : (u test : ℕ) (v : R) (xs : List (Rec R)) → Rising xs → Rising (reread_of u test v xs)
  unfolding reread_of rereads
  rising_reread u test v [] r = tt
  rising_reread u test v (x ∷ xs) (a, r) =
      (subst (λ (n : ℕ). Every (λ z. n < z.tag) (reread_of u test v xs)) (sym (tag_rereads u test v x)) (above_reread x.tag u test v xs a), rising_reread u test v xs r)

  pub length_reread : (u test : ℕ) (v : R) (xs : List (Rec R)) → length (reread_of u test v xs) ≡ length xs
  unfolding reread_of
  length_reread u test v xs = length-map xs (λ x. cond (eqb x.tag u) (reread test v x) x)
