-- Walking held tags: what is left above a tag, and what the next tag takes of it.
use Rattle.std.proofs.Common.{◌≡◌, ℕ, ◌<◌, ◌≤◌, Bool, true, false, cond, ltb, ◌≢◌, ◌⊎◌, List, [], ◌∷◌, ◌++◌, map, Some, None, filter, Option, sym, refl, ap, ◌∙◌, subst, inl, inr, arith}
use Rattle.books.proofs.Gathering.{Of}
use Rattle.books.proofs.Held.{find_here, find_on}
use Rattle.books.specs.Meanings.{Fits, Meaning, Rec, Rising, Sound}
use Rattle.books.specs.Questions.{find, next_tag}
use Rattle.matrix.specs.Apart.{differ}
use Rattle.matrix.specs.Rows.{matrix_of, row_of, rows_of, rows_with}
use Rattle.matrix.specs.Walks.{above, differing, row_in}
use Rattle.readings.specs.Kinds.{Kind}
use Rattle.std.proofs.ByRecursion.{All-weaker}
use Rattle.std.proofs.lemmas.Bool.{cases_lt, cases_eq, cond-false, cond-true, le-ltb, lt-ltb}
use Rattle.std.specs.List.{AllByRecursion as Every}

pub no_some : {A : Type 0} (x : A) → ◌≡◌ {A = Option A} None (Some x) → ⊥
no_some x e = cc

module _ {R : Type 0} where
  above_here : (a : ℕ) (x : Rec R) (xs : List (Rec R)) → a < x.tag → above a (x ∷ xs) ≡ x ∷ above a xs
  unfolding above
  above_here a x xs l = cond-true (ltb a x.tag) (x ∷ above a xs) (above a xs) (lt-ltb a x.tag l)

  above_on : (a : ℕ) (x : Rec R) (xs : List (Rec R)) → x.tag ≤ a → above a (x ∷ xs) ≡ above a xs
  unfolding above
  above_on a x xs l = cond-false (ltb a x.tag) (x ∷ above a xs) (above a xs) (le-ltb a x.tag l)

  above_all : (a : ℕ) (xs : List (Rec R)) → Every (λ x. a < x.tag) xs → above a xs ≡ xs
  unfolding above
  above_all a [] h = refl
  above_all a (x ∷ xs) (l, h) = above_here a x xs l ∙ ap (λ (ys : List (Rec R)). x ∷ ys) (above_all a xs h)

  -- a walk from 0 meets every record
  pub above_zero : (kind : Kind R) (m : Meaning R) → Sound kind m → above 0 m.held ≡ m.held
  above_zero kind m s =
      above_all 0 m.held (All-weaker (Fits kind m.width m.closed_test) (λ x. 0 < x.tag) (λ x f. omega (arith, f.tagged)) m.held s.records)

  next_here : (a : ℕ) (x : Rec R) (xs : List (Rec R)) → a < x.tag → next_tag a (x ∷ xs) ≡ Some x.tag
  unfolding next_tag
  next_here a x xs l = cond-true (ltb a x.tag) (Some x.tag) (next_tag a xs) (lt-ltb a x.tag l)

  next_on : (a : ℕ) (x : Rec R) (xs : List (Rec R)) → x.tag ≤ a → next_tag a (x ∷ xs) ≡ next_tag a xs
  unfolding next_tag
  next_on a x xs l = cond-false (ltb a x.tag) (Some x.tag) (next_tag a xs) (le-ltb a x.tag l)

  -- t is the tag of the first record above a, and what is left is above t
  pub record Next (a t : ℕ) (xs : List (Rec R)) : Type 0 where
    pub one : Rec R
    pub found : find t xs ≡ Some one
    pub further : a < t
    pub left : above a xs ≡ one ∷ above t xs

  next_first : (a t : ℕ) (x : Rec R) (xs : List (Rec R)) → a < x.tag → Every (λ y. x.tag < y.tag) xs → x.tag ≡ t → Next a t (x ∷ xs)
  next_first a t x xs l h e = record {
    one = x;
    found = find_here t x xs e;
    further = omega arith;
    left =
        above_here a x xs l
        ∙ ap (λ (ys : List (Rec R)). x ∷ ys) (above_all a xs (All-weaker (λ y. x.tag < y.tag) (λ y. a < y.tag) (λ y k. omega arith) xs h))
        ∙ sym (ap (λ (ys : List (Rec R)). x ∷ ys) (above_on t x xs (omega arith) ∙ above_all t xs (All-weaker (λ y. x.tag < y.tag) (λ y. t < y.tag) (λ y k. omega arith) xs h)));
  }

  next_later : (a t : ℕ) (x : Rec R) (xs : List (Rec R)) → x.tag ≤ a → Next a t xs → Next a t (x ∷ xs)
  next_later a t x xs l n = record {
    one = n.one;
    found = find_on t x xs (λ e. let f = n.further in omega arith) ∙ n.found;
    further = n.further;
    left = above_on a x xs l ∙ n.left ∙ ap (λ (ys : List (Rec R)). n.one ∷ ys) (sym (above_on t x xs (let f = n.further in omega arith)));
  }

  pub next_some : (a t : ℕ) (xs : List (Rec R)) → Rising xs → next_tag a xs ≡ Some t → Next a t xs
  unfolding next_tag
  next_some a t [] r e = absurd (no_some t e)
  next_some a t (x ∷ xs) (h, r) e = go (cases_lt a x.tag) (next_some a t xs r)
    where
      go : (a < x.tag) ⊎ (x.tag ≤ a) → (next_tag a xs ≡ Some t → Next a t xs) → Next a t (x ∷ xs)
      go (inl l) f = let p = sym (next_here a x xs l) ∙ e in next_first a t x xs l h (cc)
      go (inr l) f = next_later a t x xs l (f (sym (next_on a x xs l) ∙ e))

  pub next_held : (kind : Kind R) (m : Meaning R) → Sound kind m → (a t : ℕ) → Some t ≡ next_tag a m.held → Next a t m.held
  next_held kind m s a t e = next_some a t m.held s.rising (sym e)

  pub next_none : (a : ℕ) (xs : List (Rec R)) → next_tag a xs ≡ None → above a xs ≡ []
  unfolding next_tag above
  next_none a [] e = refl
  next_none a (x ∷ xs) e = go (cases_lt a x.tag) (next_none a xs)
    where
      go : (a < x.tag) ⊎ (x.tag ≤ a) → (next_tag a xs ≡ None → above a xs ≡ []) → above a (x ∷ xs) ≡ []
      go (inl l) f = absurd (no_some x.tag (sym e ∙ next_here a x xs l))
      go (inr l) f = above_on a x xs l ∙ f (sym (next_on a x xs l) ∙ e)

  -- what holds of all records holds of the one that is found
  pub all_find : (P : Rec R → Type 0) (t : ℕ) (xs : List (Rec R)) → Every P xs → Of P (find t xs)
  unfolding find
  all_find P t [] h = tt
  all_find P t (x ∷ xs) (p, h) = go (cases_eq x.tag t) (all_find P t xs h)
    where
      go : (x.tag ≡ t) ⊎ (x.tag ≢ t) → Of P (find t xs) → Of P (find t (x ∷ xs))
      go (inl e) k = subst (Of P) (sym (find_here t x xs e)) p
      go (inr ne) k = subst (Of P) (sym (find_on t x xs ne)) k

module _ {R : Type 0} (kind : Kind R) where
  -- ---- the matrix by the next tag

  pub matrix_next : (a t : ℕ) (xs : List (Rec R)) → Next a t xs
      → matrix_of kind (above a xs) ≡ rows_of kind (above t xs) (find t xs) ++ matrix_of kind (above t xs)
  unfolding matrix_of
  matrix_next a t xs n =
      ap (matrix_of kind) n.left ∙ ap (λ (o : Option (Rec R)). rows_of kind (above t xs) o ++ matrix_of kind (above t xs)) (sym n.found)

  -- a walk from 0 meets the whole matrix
  pub matrix_from_zero : (m : Meaning R) → Sound kind m → matrix_of kind (above 0 m.held) ≡ matrix_of kind m.held
  matrix_from_zero m s = ap (matrix_of kind) (above_zero kind m s)

  pub matrix_end : (a : ℕ) (xs : List (Rec R)) → next_tag a xs ≡ None → matrix_of kind (above a xs) ≡ []
  unfolding matrix_of
  matrix_end a xs e = ap (matrix_of kind) (next_none a xs e)

  -- ---- the rows of one record by the next tag

  -- one more record brings its row first, or none
  rows_more : (o : Option (Rec R)) (y : Rec R) (ys : List (Rec R))
      → rows_of kind (y ∷ ys) o ≡ cond (differing o (Some y)) (row_in kind o (Some y) ∷ rows_of kind ys o) (rows_of kind ys o)
  unfolding rows_with
  rows_more None y ys = refl
  rows_more (Some x) y ys = go (differ x y)
    where
      go : (b : Bool) → map (row_of kind x) (cond b (y ∷ filter (differ x) ys) (filter (differ x) ys))
          ≡ cond b (row_of kind x y ∷ map (row_of kind x) (filter (differ x) ys)) (map (row_of kind x) (filter (differ x) ys))
      go true = refl
      go false = refl

  rows_next : (o : Option (Rec R)) (a t : ℕ) (xs : List (Rec R)) → Next a t xs
      → rows_of kind (above a xs) o
      ≡ cond (differing o (find t xs)) (row_in kind o (find t xs) ∷ rows_of kind (above t xs) o) (rows_of kind (above t xs) o)
  rows_next o a t xs n =
      ap (λ (ys : List (Rec R)). rows_of kind ys o) n.left ∙ rows_more o n.one (above t xs)
      ∙ ap (λ (p : Option (Rec R)). cond (differing o p) (row_in kind o p ∷ rows_of kind (above t xs) o) (rows_of kind (above t xs) o)) (sym n.found)

  pub rows_next_one : (o : Option (Rec R)) (a t : ℕ) (xs : List (Rec R)) → Next a t xs → differing o (find t xs) ≡ true
      → rows_of kind (above a xs) o ≡ row_in kind o (find t xs) ∷ rows_of kind (above t xs) o
  rows_next_one o a t xs n e = rows_next o a t xs n ∙ cond-true (differing o (find t xs)) _ _ e

  pub rows_next_none : (o : Option (Rec R)) (a t : ℕ) (xs : List (Rec R)) → Next a t xs → differing o (find t xs) ≡ false
      → rows_of kind (above a xs) o ≡ rows_of kind (above t xs) o
  rows_next_none o a t xs n e = rows_next o a t xs n ∙ cond-false (differing o (find t xs)) _ _ e

  pub rows_end : (o : Option (Rec R)) (a : ℕ) (xs : List (Rec R)) → next_tag a xs ≡ None → rows_of kind (above a xs) o ≡ []
  unfolding rows_with
  rows_end None a xs e = refl
  rows_end (Some x) a xs e = ap (λ (ys : List (Rec R)). rows_of kind ys (Some x)) (next_none a xs e)
