-- Records in places: what is gathered of them is asked and changed place by place.
use Rattle.std.proofs.Common.{◌≡◌, ℕ, zero, suc, ◌<◌, ◌≤◌, min, Bool, true, false, cond, eqb, ltb, ◌≢◌, ◌⊎◌, List, [], ◌∷◌, length, get_or, set, Some, None, Option, sym, refl, ap, ◌∙◌, subst, inl, inr, arith}
use Rattle.books.proofs.Held.{all_insert, find_insert_here, find_insert_on, find_reread, find_remove_here, find_remove_on, length_insert, reread_found, rising_insert, rising_remove, rising_reread, same_held}
use Rattle.books.specs.Changes.{insert, remove, reread, reread_of}
use Rattle.books.specs.Gathered.{Distinct, gathered, lower, lowest_above, occupied, standing}
use Rattle.books.specs.Meanings.{Rec, Rising}
use Rattle.books.specs.Questions.{find, next_tag}
use Rattle.refusals.specs.Faults.{when}
use Rattle.std.proofs.lemmas.Bool.{cases_eq, cond-false, cond-true, eq-eqb, le-ltb, lt-ltb, ltb-false, ltb-true, ne_eqb}
use Rattle.std.specs.List.{AllByRecursion as Every}

-- of whatever record there is, something holds
abbrev pub Of : {R : Type 0} → (Rec R → Type 0) → Option (Rec R) → Type 0
Of P None = Unit {0}
Of P (Some x) = P x

module _ {R : Type 0} where
  no_some : (x : Rec R) → ◌≡◌ {A = Option (Rec R)} None (Some x) → ⊥
  no_some x e = cc

  -- ---- the questions

  stands_here : (t : ℕ) (x : Rec R) (ps : List (Option (Rec R))) → x.tag ≡ t → standing t (Some x ∷ ps) ≡ Some x
  unfolding standing
  stands_here t x ps e = cond-true (eqb x.tag t) (Some x) (standing t ps) (eq-eqb x.tag t e)

  stands_on : (t : ℕ) (x : Rec R) (ps : List (Option (Rec R))) → x.tag ≢ t → standing t (Some x ∷ ps) ≡ standing t ps
  unfolding standing
  stands_on t x ps ne = cond-false (eqb x.tag t) (Some x) (standing t ps) (ne_eqb x.tag t ne)

  pub gathered_find : (t : ℕ) (ps : List (Option (Rec R))) → Distinct ps → find t (gathered ps) ≡ standing t ps
  unfolding gathered standing Distinct find
  gathered_find t [] d = refl
  gathered_find t (None ∷ ps) d = gathered_find t ps d
  gathered_find t (Some x ∷ ps) (n, d) = go (cases_eq x.tag t) (gathered_find x.tag ps d) (gathered_find t ps d)
    where
      go : (x.tag ≡ t) ⊎ (x.tag ≢ t) → find x.tag (gathered ps) ≡ standing x.tag ps → find t (gathered ps) ≡ standing t ps
          → find t (insert x (gathered ps)) ≡ standing t (Some x ∷ ps)
      go (inl e) f g = ap (λ (u : ℕ). find u (insert x (gathered ps))) (sym e) ∙ find_insert_here x (gathered ps) (f ∙ n) ∙ sym (stands_here t x ps e)
      go (inr ne) f g = find_insert_on t x (gathered ps) ne ∙ g ∙ sym (stands_on t x ps ne)

  pub gathered_rising : (ps : List (Option (Rec R))) → Distinct ps → Rising (gathered ps)
  unfolding gathered Distinct
  gathered_rising [] d = tt
  gathered_rising (None ∷ ps) d = gathered_rising ps d
  gathered_rising (Some x ∷ ps) (n, d) = rising_insert x (gathered ps) (gathered_find x.tag ps d ∙ n) (gathered_rising ps d)

  pub gathered_length : (ps : List (Option (Rec R))) → length (gathered ps) ≡ occupied ps
  unfolding gathered occupied
  gathered_length [] = refl
  gathered_length (None ∷ ps) = gathered_length ps
  gathered_length (Some x ∷ ps) = length_insert x (gathered ps) ∙ ap suc (gathered_length ps)

  pub gathered_all : (P : Rec R → Type 0) (ps : List (Option (Rec R))) → Every (Of P) ps → Every P (gathered ps)
  unfolding gathered
  gathered_all P [] h = tt
  gathered_all P (None ∷ ps) (u, h) = gathered_all P ps h
  gathered_all P (Some x ∷ ps) (p, h) = all_insert P x (gathered ps) p (gathered_all P ps h)

  next_here : (a : ℕ) (x : Rec R) (xs : List (Rec R)) → a < x.tag → next_tag a (x ∷ xs) ≡ Some x.tag
  unfolding next_tag
  next_here a x xs l = cond-true (ltb a x.tag) (Some x.tag) (next_tag a xs) (lt-ltb a x.tag l)

  next_on : (a : ℕ) (x : Rec R) (xs : List (Rec R)) → x.tag ≤ a → next_tag a (x ∷ xs) ≡ next_tag a xs
  unfolding next_tag
  next_on a x xs l = cond-false (ltb a x.tag) (Some x.tag) (next_tag a xs) (le-ltb a x.tag l)

  pub next_insert : (a : ℕ) (x : Rec R) (xs : List (Rec R)) → next_tag a (insert x xs) ≡ lower (when (ltb a x.tag) x.tag) (next_tag a xs)
  unfolding insert next_tag
  next_insert a x [] = go (ltb a x.tag) refl
    where
      go : (b : Bool) → ltb a x.tag ≡ b → next_tag a (x ∷ []) ≡ lower (when b x.tag) (next_tag {R = R} a [])
      go true e = next_here a x [] (ltb-true a x.tag e)
      go false e = next_on a x [] (ltb-false a x.tag e)
  next_insert a x (y ∷ ys) = go (ltb x.tag y.tag) refl (ltb a x.tag) refl (ltb a y.tag) refl (next_insert a x ys)
    where
      go : (b : Bool) → ltb x.tag y.tag ≡ b → (c : Bool) → ltb a x.tag ≡ c → (d : Bool) → ltb a y.tag ≡ d
          → next_tag a (insert x ys) ≡ lower (when (ltb a x.tag) x.tag) (next_tag a ys)
          → next_tag a (cond b (x ∷ y ∷ ys) (y ∷ insert x ys)) ≡ lower (when c x.tag) (next_tag a (y ∷ ys))
      go true e true f d g ih =
          let l = ltb-true x.tag y.tag e in
          let m = ltb-true a x.tag f in
          let k : min x.tag y.tag ≡ x.tag = omega arith in
          next_here a x (y ∷ ys) m ∙ sym (ap (lower (Some x.tag)) (next_here a y ys (omega arith)) ∙ ap Some k)
      go true e false f d g ih = next_on a x (y ∷ ys) (ltb-false a x.tag f)
      go false e c f true g ih = first c f
        where
          first : (c : Bool) → ltb a x.tag ≡ c → next_tag a (y ∷ insert x ys) ≡ lower (when c x.tag) (next_tag a (y ∷ ys))
          first true f' =
              let l = ltb-false x.tag y.tag e in
              let m = ltb-true a y.tag g in
              let k : min x.tag y.tag ≡ y.tag = omega arith in
              next_here a y (insert x ys) m ∙ sym (ap (lower (Some x.tag)) (next_here a y ys m) ∙ ap Some k)
          first false f' = next_here a y (insert x ys) (ltb-true a y.tag g) ∙ sym (next_here a y ys (ltb-true a y.tag g))
      go false e c f false g ih =
          let l = ltb-false a y.tag g in
          next_on a y (insert x ys) l ∙ ih
          ∙ ap (λ (b : Bool). lower (when b x.tag) (next_tag a ys)) f
          ∙ sym (ap (lower (when c x.tag)) (next_on a y ys l))

  pub gathered_next : (a : ℕ) (ps : List (Option (Rec R))) → next_tag a (gathered ps) ≡ lowest_above a ps
  unfolding gathered lowest_above next_tag
  gathered_next a [] = refl
  gathered_next a (None ∷ ps) = gathered_next a ps
  gathered_next a (Some x ∷ ps) = next_insert a x (gathered ps) ∙ ap (lower (when (ltb a x.tag) x.tag)) (gathered_next a ps)

  -- ---- one place written

  stands_some : (ps : List (Option (Rec R))) (k : ℕ) (x : Rec R) → get_or ps k None ≡ Some x → standing x.tag ps ≡ None → ⊥
  unfolding standing
  stands_some [] k x e n = no_some x e
  stands_some (None ∷ ps) zero x e n = no_some x e
  stands_some (Some y ∷ ps) zero x e n =
      let same : y ≡ x = cc in
      no_some y (sym n ∙ stands_here x.tag y ps (ap (λ (r : Rec R). r.tag) same))
  stands_some (None ∷ ps) (suc k) x e n = stands_some ps k x e n
  stands_some (Some y ∷ ps) (suc k) x e n = go (cases_eq y.tag x.tag) (stands_some ps k x e)
    where
      go : (y.tag ≡ x.tag) ⊎ (y.tag ≢ x.tag) → (standing x.tag ps ≡ None → ⊥) → ⊥
      go (inl s) f = no_some y (sym n ∙ stands_here x.tag y ps s)
      go (inr ne) f = f (sym (stands_on x.tag y ps ne) ∙ n)

  -- what stands at place k is what has the tag u, or nothing has
  pub record Place (u : ℕ) (ps : List (Option (Rec R))) (k : ℕ) (new : Option (Rec R)) : Type 0 where
    pub inside : k < length ps
    pub tagged : Of (λ x. x.tag ≡ u) (get_or ps k None)
    pub stands : standing u ps ≡ get_or ps k None
    pub newly : Of (λ x. x.tag ≡ u) new
    pub distinct : Distinct ps

  -- the first place: no later one has the tag
  alone : (u : ℕ) (p : Option (Rec R)) (ps : List (Option (Rec R))) → Of (λ x. x.tag ≡ u) p → standing u (p ∷ ps) ≡ p → Distinct (p ∷ ps) → standing u ps ≡ None
  unfolding standing Distinct
  alone u None ps t s d = s
  alone u (Some x) ps t s (n, d) = ap (λ (v : ℕ). standing v ps) (sym t) ∙ n

  -- a later place: the first has another tag
  other : (u : ℕ) (z : Rec R) (ps : List (Option (Rec R))) (k : ℕ) → standing u (Some z ∷ ps) ≡ get_or ps k None → Distinct (Some z ∷ ps) → z.tag ≢ u
  unfolding Distinct
  other u z ps k s (n, d) e = stands_some ps k z (sym s ∙ stands_here u z ps e) n

  skip : (u t : ℕ) (p : Option (Rec R)) (ps : List (Option (Rec R))) → Of (λ x. x.tag ≡ u) p → u ≢ t → standing t (p ∷ ps) ≡ standing t ps
  unfolding standing
  skip u t None ps h ne = refl
  skip u t (Some x) ps h ne = stands_on t x ps (λ e. ne (sym h ∙ e))

  first_place : (u t : ℕ) (p new : Option (Rec R)) (ps : List (Option (Rec R))) → Of (λ x. x.tag ≡ u) p → Of (λ x. x.tag ≡ u) new → standing u ps ≡ None
      → standing t (new ∷ ps) ≡ cond (eqb u t) new (standing t (p ∷ ps))
  unfolding standing
  first_place u t p new ps hp hn none = go (cases_eq u t) new hn
    where
      go : (u ≡ t) ⊎ (u ≢ t) → (n : Option (Rec R)) → Of (λ x. x.tag ≡ u) n → standing t (n ∷ ps) ≡ cond (eqb u t) n (standing t (p ∷ ps))
      go (inl e) None h = ap (λ (v : ℕ). standing v ps) (sym e) ∙ none ∙ sym (cond-true (eqb u t) None (standing t (p ∷ ps)) (eq-eqb u t e))
      go (inl e) (Some y) h = stands_here t y ps (h ∙ e) ∙ sym (cond-true (eqb u t) (Some y) (standing t (p ∷ ps)) (eq-eqb u t e))
      go (inr ne) n h = skip u t n ps h ne ∙ sym (skip u t p ps hp ne) ∙ sym (cond-false (eqb u t) n (standing t (p ∷ ps)) (ne_eqb u t ne))

  pub standing_set : (u : ℕ) (ps : List (Option (Rec R))) (k : ℕ) (new : Option (Rec R)) → Place u ps k new
      → (t : ℕ) → standing t (set ps k new) ≡ cond (eqb u t) new (standing t ps)
  unfolding standing Distinct
  standing_set u [] k new w t = absurd (none w.inside)
    where
      none : k < 0 → ⊥
      none h = omega arith
  standing_set u (p ∷ ps) zero new w t = first_place u t p new ps w.tagged w.newly (alone u p ps w.tagged w.stands w.distinct)
  standing_set u (None ∷ ps) (suc k) new w t =
      standing_set u ps k new (record { inside = omega (arith, w.inside); tagged = w.tagged; stands = w.stands; newly = w.newly; distinct = w.distinct }) t
  standing_set u (Some z ∷ ps) (suc k) new w t =
      go (cases_eq z.tag t)
      (standing_set u ps k new (record { inside = omega (arith, w.inside); tagged = w.tagged; stands = sym (stands_on u z ps away) ∙ w.stands; newly = w.newly; distinct = w.distinct.1 }) t)
    where
      away : z.tag ≢ u
      away = other u z ps k w.stands w.distinct

      go : (z.tag ≡ t) ⊎ (z.tag ≢ t) → standing t (set ps k new) ≡ cond (eqb u t) new (standing t ps)
          → standing t (Some z ∷ set ps k new) ≡ cond (eqb u t) new (standing t (Some z ∷ ps))
      go (inl e) ih =
          stands_here t z (set ps k new) e
          ∙ sym (cond-false (eqb u t) new (standing t (Some z ∷ ps)) (ne_eqb u t (λ f. away (e ∙ sym f))) ∙ stands_here t z ps e)
      go (inr ne) ih = stands_on t z (set ps k new) ne ∙ ih ∙ ap (cond (eqb u t) new) (sym (stands_on t z ps ne))

  pub distinct_set : (u : ℕ) (ps : List (Option (Rec R))) (k : ℕ) (new : Option (Rec R)) → Place u ps k new → Distinct (set ps k new)
  unfolding standing Distinct
  distinct_set u [] k new w = tt
  distinct_set u (p ∷ ps) zero new w = go p w.tagged w.stands w.distinct new w.newly
    where
      go : (p : Option (Rec R)) → Of (λ x. x.tag ≡ u) p → standing u (p ∷ ps) ≡ p → Distinct (p ∷ ps) → (n : Option (Rec R)) → Of (λ x. x.tag ≡ u) n → Distinct (n ∷ ps)
      go None h s d None hn = d
      go None h s d (Some y) hn = (ap (λ (v : ℕ). standing v ps) hn ∙ s, d)
      go (Some x) h s d None hn = d.1
      go (Some x) h s d (Some y) hn = (ap (λ (v : ℕ). standing v ps) hn ∙ alone u (Some x) ps h s d, d.1)
  distinct_set u (None ∷ ps) (suc k) new w =
      distinct_set u ps k new (record { inside = omega (arith, w.inside); tagged = w.tagged; stands = w.stands; newly = w.newly; distinct = w.distinct })
  distinct_set u (Some z ∷ ps) (suc k) new w =
      (standing_set u ps k new below z.tag ∙ cond-false (eqb u z.tag) new (standing z.tag ps) (ne_eqb u z.tag (λ e. away (sym e))) ∙ w.distinct.0, distinct_set u ps k new below)
    where
      away : z.tag ≢ u
      away = other u z ps k w.stands w.distinct

      below : Place u ps k new
      below = record { inside = omega (arith, w.inside); tagged = w.tagged; stands = sym (stands_on u z ps away) ∙ w.stands; newly = w.newly; distinct = w.distinct.1 }

  standing_tag : (t : ℕ) (ps : List (Option (Rec R))) → Of (λ x. x.tag ≡ t) (standing t ps)
  unfolding standing
  standing_tag t [] = tt
  standing_tag t (None ∷ ps) = standing_tag t ps
  standing_tag t (Some x ∷ ps) = go (cases_eq x.tag t) (standing_tag t ps)
    where
      go : (x.tag ≡ t) ⊎ (x.tag ≢ t) → Of (λ y. y.tag ≡ t) (standing t ps) → Of (λ y. y.tag ≡ t) (standing t (Some x ∷ ps))
      go (inl e) h = subst (Of (λ y. y.tag ≡ t)) (sym (stands_here t x ps e)) e
      go (inr ne) h = subst (Of (λ y. y.tag ≡ t)) (sym (stands_on t x ps ne)) h

  -- ---- the changes

  -- a record entered at an empty place
  pub gathered_enter : (x : Rec R) (ps : List (Option (Rec R))) (k : ℕ) → k < length ps → get_or ps k None ≡ None → standing x.tag ps ≡ None → Distinct ps
      → (gathered (set ps k (Some x)) ≡ insert x (gathered ps)) × Distinct (set ps k (Some x))
  gathered_enter x ps k l e n d =
      (same_held (gathered (set ps k (Some x))) (insert x (gathered ps)) (gathered_rising (set ps k (Some x)) d') (rising_insert x (gathered ps) absent (gathered_rising ps d)) same, d')
    where
      w : Place x.tag ps k (Some x)
      w = record { inside = l; tagged = subst (Of (λ y. y.tag ≡ x.tag)) (sym e) tt; stands = n ∙ sym e; newly = refl; distinct = d }

      d' : Distinct (set ps k (Some x))
      d' = distinct_set x.tag ps k (Some x) w

      absent : find x.tag (gathered ps) ≡ None
      absent = gathered_find x.tag ps d ∙ n

      same : (t : ℕ) → find t (gathered (set ps k (Some x))) ≡ find t (insert x (gathered ps))
      same t = gathered_find t (set ps k (Some x)) d' ∙ standing_set x.tag ps k (Some x) w t ∙ go (cases_eq x.tag t)
        where
          go : (x.tag ≡ t) ⊎ (x.tag ≢ t) → cond (eqb x.tag t) (Some x) (standing t ps) ≡ find t (insert x (gathered ps))
          go (inl s) =
              cond-true (eqb x.tag t) (Some x) (standing t ps) (eq-eqb x.tag t s)
              ∙ sym (find_insert_here x (gathered ps) absent)
              ∙ ap (λ (v : ℕ). find v (insert x (gathered ps))) s
          go (inr ne) =
              cond-false (eqb x.tag t) (Some x) (standing t ps) (ne_eqb x.tag t ne)
              ∙ sym (gathered_find t ps d)
              ∙ sym (find_insert_on t x (gathered ps) ne)

  -- the place of a record, where another of the same tag or none is put
  at_place : (x : Rec R) (ps : List (Option (Rec R))) (k : ℕ) (new : Option (Rec R)) → k < length ps → get_or ps k None ≡ Some x → Of (λ y. y.tag ≡ x.tag) new
      → standing x.tag ps ≡ Some x → Distinct ps → Place x.tag ps k new
  at_place x ps k new l e h s d = record { inside = l; tagged = subst (Of (λ y. y.tag ≡ x.tag)) (sym e) refl; stands = s ∙ sym e; newly = h; distinct = d }

  pub gathered_withdraw : (x : Rec R) (ps : List (Option (Rec R))) (k : ℕ) → k < length ps → get_or ps k None ≡ Some x → standing x.tag ps ≡ Some x → Distinct ps
      → (gathered (set ps k None) ≡ remove x.tag (gathered ps)) × Distinct (set ps k None)
  gathered_withdraw x ps k l e s d =
      (same_held (gathered (set ps k None)) (remove x.tag (gathered ps)) (gathered_rising (set ps k None) d') (rising_remove x.tag (gathered ps) (gathered_rising ps d)) same, d')
    where
      w : Place x.tag ps k None
      w = at_place x ps k None l e tt s d

      d' : Distinct (set ps k None)
      d' = distinct_set x.tag ps k None w

      same : (t : ℕ) → find t (gathered (set ps k None)) ≡ find t (remove x.tag (gathered ps))
      same t = gathered_find t (set ps k None) d' ∙ standing_set x.tag ps k None w t ∙ go (cases_eq x.tag t)
        where
          go : (x.tag ≡ t) ⊎ (x.tag ≢ t) → cond (eqb x.tag t) None (standing t ps) ≡ find t (remove x.tag (gathered ps))
          go (inl q) =
              cond-true (eqb x.tag t) None (standing t ps) (eq-eqb x.tag t q)
              ∙ sym (find_remove_here x.tag (gathered ps))
              ∙ ap (λ (v : ℕ). find v (remove x.tag (gathered ps))) q
          go (inr ne) =
              cond-false (eqb x.tag t) None (standing t ps) (ne_eqb x.tag t ne)
              ∙ sym (gathered_find t ps d)
              ∙ sym (find_remove_on t x.tag (gathered ps) ne)

  pub gathered_amend : (x : Rec R) (test : ℕ) (v : R) (ps : List (Option (Rec R))) (k : ℕ) → k < length ps → get_or ps k None ≡ Some x → standing x.tag ps ≡ Some x → Distinct ps
      → (gathered (set ps k (Some (reread test v x))) ≡ reread_of x.tag test v (gathered ps)) × Distinct (set ps k (Some (reread test v x)))
  gathered_amend x test v ps k l e s d =
      (same_held (gathered (set ps k new)) (reread_of x.tag test v (gathered ps)) (gathered_rising (set ps k new) d') (rising_reread x.tag test v (gathered ps) (gathered_rising ps d)) same, d')
    where
      new : Option (Rec R)
      new = Some (reread test v x)

      w : Place x.tag ps k new
      w = at_place x ps k new l e refl s d

      d' : Distinct (set ps k new)
      d' = distinct_set x.tag ps k new w

      here : reread_found x.tag test v (Some x) ≡ new
      here = ap Some (cond-true (eqb x.tag x.tag) (reread test v x) x (eq-eqb x.tag x.tag refl))

      there : (t : ℕ) → x.tag ≢ t → (o : Option (Rec R)) → Of (λ y. y.tag ≡ t) o → o ≡ reread_found x.tag test v o
      there t ne None h = refl
      there t ne (Some y) h = sym (ap Some (cond-false (eqb y.tag x.tag) (reread test v y) y (ne_eqb y.tag x.tag (λ q. ne (sym q ∙ h)))))

      same : (t : ℕ) → find t (gathered (set ps k new)) ≡ find t (reread_of x.tag test v (gathered ps))
      same t =
          gathered_find t (set ps k new) d' ∙ standing_set x.tag ps k new w t ∙ go (cases_eq x.tag t)
          ∙ ap (reread_found x.tag test v) (sym (gathered_find t ps d)) ∙ sym (find_reread t x.tag test v (gathered ps))
        where
          go : (x.tag ≡ t) ⊎ (x.tag ≢ t) → cond (eqb x.tag t) new (standing t ps) ≡ reread_found x.tag test v (standing t ps)
          go (inl q) =
              cond-true (eqb x.tag t) new (standing t ps) (eq-eqb x.tag t q)
              ∙ sym here ∙ ap (reread_found x.tag test v) (sym s ∙ ap (λ (u : ℕ). standing u ps) q)
          go (inr ne) = cond-false (eqb x.tag t) new (standing t ps) (ne_eqb x.tag t ne) ∙ there t ne (standing t ps) (standing_tag t ps)

  -- where not every place is taken, one is empty
  pub some_empty : (ps : List (Option (Rec R))) → occupied ps < length ps → (k : ℕ) × (k < length ps) × (get_or ps k None ≡ None)
  unfolding occupied
  some_empty [] l = absurd (none l)
    where
      none : 0 < 0 → ⊥
      none h = omega arith
  some_empty (None ∷ ps) l = (0, omega arith, refl)
  some_empty (Some x ∷ ps) l = let r = some_empty ps (omega arith) in (suc r.0, omega (arith, r.1), r.2)

  pub occupied_few : (ps : List (Option (Rec R))) → occupied ps ≤ length ps
  unfolding occupied
  occupied_few [] = omega arith
  occupied_few (None ∷ ps) = omega (arith, occupied_few ps)
  occupied_few (Some x ∷ ps) = omega (arith, occupied_few ps)
