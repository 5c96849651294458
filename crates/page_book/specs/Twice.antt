-- Tags that stand twice: what the search of the earlier records finds, and the lowest such record of the page.
use Rattle.std.proofs.Common.{◌≡◌, ℕ, ◌<◌, true, false, eqb, List, is_some, Some, None, Option, sym, refl, ◌∙◌, subst, inl, inr}
use Rattle.books.specs.declared.faults.PageFault.TheVariants.{Layout, Twice}
use Rattle.page_book.specs.LowestFacts.{false_by, found_at, lowest_found, none_below, none_from_below, true_by, when_false, when_true}
use Rattle.page_book.specs.Layout.{StandsTwice, records_in, tag_at}
use Rattle.page_book.specs.Lowest.{lowest}
use Rattle.page_book.specs.Refused.{same_tag, twice, twice_at, twice_fault}
use Rattle.std.proofs.lemmas.Bool.{both_ways, cases_Bool, cases_eq, cond-false, cond-true, eq-eqb, eqb-false, eqb-true, ne_eqb}

module _ (page : List ℕ) (k tag : ℕ) (t : tag ≡ tag_at page k) where
  -- a free record's tag does not stand twice
  pub twice_free : tag ≡ 0 → twice page k ≡ false
  unfolding twice
  twice_free z =
      cond-true (eqb (tag_at page k) 0) false (is_some (lowest (same_tag page (tag_at page k)) k))
      (eq-eqb (tag_at page k) 0 (sym t ∙ z))

  -- of a record in use it is as the search of the earlier records says
  pub twice_in_use : (tag ≡ 0 → ⊥) → twice page k ≡ is_some (lowest (same_tag page tag) k)
  unfolding twice
  twice_in_use n =
      rw t
      (cond-false (eqb (tag_at page k) 0) false (is_some (lowest (same_tag page (tag_at page k)) k))
      (ne_eqb (tag_at page k) 0 (λ z. n (t ∙ z))))

-- record k is the first whose tag stands in an earlier one
abbrev pub First : List ℕ → ℕ → Type 0
First page k = (k < records_in page) × StandsTwice page k × ((i : ℕ) → i < k → StandsTwice page i → ⊥)

some_by : (o : Option ℕ) → is_some o ≡ true → (i : ℕ) × (o ≡ Some i)
some_by (Some i) h = (i, refl)
some_by None h = cc

none_by : (o : Option ℕ) → is_some o ≡ false → o ≡ None
none_by (Some i) h = cc
none_by None h = refl

module _ (page : List ℕ) (k : ℕ) where
  -- the test says what the words say
  twice_by : twice page k ≡ true → StandsTwice page k
  twice_by h =
      elim (cases_eq (tag_at page k) 0) [
        | inl free ↦ absurd (both_ways _ (twice_free page k (tag_at page k) refl free) h)
        | inr used ↦
            (let s = some_by _ (sym (twice_in_use page k (tag_at page k) refl used) ∙ h) in
            let p = found_at (same_tag page (tag_at page k)) k s.0 s.1 in
            (used, (p.0, p.1, eqb-true _ _ (true_by _ p.0 s.0 p.2).0)))
      ]

  unseen : (tag_at page k ≡ 0 → ⊥) → twice page k ≡ false → (i : ℕ) → i < k → tag_at page i ≡ tag_at page k → ⊥
  unseen used fail i l e =
      let none = none_by _ (sym (twice_in_use page k (tag_at page k) refl used) ∙ fail) in
      eqb-false _ _ (false_by _ i (none_below (same_tag page (tag_at page k)) k none i l)) e

  by_twice : StandsTwice page k → twice page k ≡ true
  by_twice s =
      elim (cases_Bool (twice page k)) [
        | inl pass ↦ pass
        | inr fail ↦ absurd (unseen s.0 fail s.1.0 s.1.1 s.1.2)
      ]

  -- nothing is given for a record whose tag stands in no earlier one
  once_by : twice_at page k ≡ None → StandsTwice page k → ⊥
  once_by h s = both_ways _ (false_by _ (Twice k) h) (by_twice s)

  by_once : (StandsTwice page k → ⊥) → twice_at page k ≡ None
  by_once n =
      elim (cases_Bool (twice page k)) [
        | inl pass ↦ absurd (n (twice_by pass))
        | inr fail ↦ when_false _ (Twice k) fail
      ]

module _ (page : List ℕ) where
  -- no fault: no tag stands twice
  pub tags_once : twice_fault page ≡ None → (k : ℕ) → k < records_in page → StandsTwice page k → ⊥
  unfolding twice_fault
  tags_once h k l = once_by page k (none_below (twice_at page) (records_in page) h k l)

  pub tags_none : ((k : ℕ) → k < records_in page → StandsTwice page k → ⊥) → twice_fault page ≡ None
  unfolding twice_fault
  tags_none h = none_from_below (twice_at page) (records_in page) (λ k l. by_once page k (h k l))

  -- a fault: at the first record whose tag stands in an earlier one
  pub twice_first : (k : ℕ) → twice_fault page ≡ Some (Twice k) → First page k
  unfolding twice_fault
  twice_first k h =
      let p = found_at (twice_at page) (records_in page) (Twice k) h in
      let q = true_by _ (Twice p.0) (Twice k) p.2 in
      let same : p.0 ≡ k = cc in
      let low : (i : ℕ) → i < p.0 → StandsTwice page i → ⊥ =
      λ i l. once_by page i (none_below (twice_at page) p.0 p.3 i l) in
      subst (First page) same (p.1, twice_by page p.0 q.0, low)

  pub twice_some : (k : ℕ) → First page k → twice_fault page ≡ Some (Twice k)
  unfolding twice_fault
  twice_some k h =
      lowest_found (twice_at page) k (records_in page) (Twice k)
      (none_from_below (twice_at page) k (λ i l. by_once page i (h.2 i l)))
      (when_true _ (Twice k) (by_twice page k h.1)) h.0

  -- and never one of the layout
  pub twice_not_layout : (k b : ℕ) → twice_fault page ≡ Some (Layout k b) → ⊥
  unfolding twice_fault
  twice_not_layout k b h =
      let p = found_at (twice_at page) (records_in page) (Layout k b) h in
      let q = true_by _ (Twice p.0) (Layout k b) p.2 in
      cc
