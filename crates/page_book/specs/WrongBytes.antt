-- Records against the layout: the lowest wrong byte of a record, and the lowest wrong record of the page.
use Rattle.std.proofs.Common.{◌≡◌, ℕ, ◌<◌, List, Some, None, Option, refl, ap, subst}
use Rattle.books.specs.declared.faults.PageFault.TheVariants.{Layout, Twice}
use Rattle.page_book.specs.Bytes.{none_at, right_at, some_at, wrong_at_lem}
use Rattle.page_book.specs.LowestFacts.{found_at, lowest_found, none_below, none_from_below}
use Rattle.page_book.specs.Layout.{RightByte, RightRecord, records_in}
use Rattle.page_book.specs.Refused.{layout_at, layout_fault, layout_of, wrong_at, wrong_byte}
use Rattle.page_book.specs.Told.{WrongFirst}

-- byte b of record k is its first wrong one
abbrev FirstIn : List ℕ → ℕ → ℕ → ℕ → Type 0
FirstIn page width k b = (b < 32) × (RightByte page width k b → ⊥) × ((j : ℕ) → j < b → RightByte page width k j)

module _ (page : List ℕ) (width k : ℕ) where
  record_right : wrong_byte page width k ≡ None → RightRecord page width k
  unfolding wrong_byte
  record_right h b l = right_at page width k b (none_below (wrong_at page width k) 32 h b l)

  record_none : RightRecord page width k → wrong_byte page width k ≡ None
  unfolding wrong_byte
  record_none h = none_from_below (wrong_at page width k) 32 (λ b l. none_at page width k b (h b l))

  byte_first : (b : ℕ) → wrong_byte page width k ≡ Some b → FirstIn page width k b
  unfolding wrong_byte
  byte_first b h =
      let p = found_at (wrong_at page width k) 32 b h in
      let w = wrong_at_lem page width k p.0 b p.2 in
      let low : (j : ℕ) → j < p.0 → RightByte page width k j =
      λ j l. right_at page width k j (none_below (wrong_at page width k) p.0 p.3 j l) in
      subst (FirstIn page width k) w.0 (p.1, w.1, low)

  byte_some : (b : ℕ) → FirstIn page width k b → wrong_byte page width k ≡ Some b
  unfolding wrong_byte
  byte_some b h =
      lowest_found (wrong_at page width k) b 32 b
      (none_from_below (wrong_at page width k) b (λ j l. none_at page width k j (h.2 j l)))
      (some_at page width k b h.1) h.0

-- a record's fault is that of its lowest wrong byte
of_none : (k : ℕ) (o : Option ℕ) → layout_of k o ≡ None → o ≡ None
of_none k (Some b) h = cc
of_none k None h = refl

of_some : (k : ℕ) (o : Option ℕ) (i b : ℕ) → layout_of k o ≡ Some (Layout i b) → (k ≡ i) × (o ≡ Some b)
of_some k (Some c) i b h = (cc, cc)
of_some k None i b h = cc

of_twice : (k : ℕ) (o : Option ℕ) (i : ℕ) → layout_of k o ≡ Some (Twice i) → ⊥
of_twice k (Some c) i h = cc
of_twice k None i h = cc

module _ (page : List ℕ) (width : ℕ) where
  -- no fault: every record is right
  pub records_right : layout_fault page width ≡ None → (k : ℕ) → k < records_in page → RightRecord page width k
  unfolding layout_fault
  records_right h k l = record_right page width k (of_none k _ (none_below (layout_at page width) (records_in page) h k l))

  pub records_none : ((k : ℕ) → k < records_in page → RightRecord page width k) → layout_fault page width ≡ None
  unfolding layout_fault
  records_none h =
      none_from_below (layout_at page width) (records_in page) (λ k l. ap (layout_of k) (record_none page width k (h k l)))

  -- a fault: at the first wrong byte
  pub wrong_first : (k b : ℕ) → layout_fault page width ≡ Some (Layout k b) → WrongFirst page width k b
  unfolding layout_fault
  wrong_first k b h =
      let p = found_at (layout_at page width) (records_in page) (Layout k b) h in
      let q = of_some p.0 _ k b p.2 in
      let f : FirstIn page width p.0 b = byte_first page width p.0 b q.1 in
      let low : (i : ℕ) → i < p.0 → RightRecord page width i =
      λ i l. record_right page width i (of_none i _ (none_below (layout_at page width) p.0 p.3 i l)) in
      subst (λ n. WrongFirst page width n b) q.0 (p.1, f.0, f.1, f.2, low)

  pub wrong_some : (k b : ℕ) → WrongFirst page width k b → layout_fault page width ≡ Some (Layout k b)
  unfolding layout_fault
  wrong_some k b h =
      lowest_found (layout_at page width) k (records_in page) (Layout k b)
      (none_from_below (layout_at page width) k (λ i l. ap (layout_of i) (record_none page width i (h.4 i l))))
      (ap (layout_of k) (byte_some page width k b (h.1, h.2, h.3))) h.0

  -- and never one of a tag
  pub layout_not_twice : (k : ℕ) → layout_fault page width ≡ Some (Twice k) → ⊥
  unfolding layout_fault
  layout_not_twice k h =
      let p = found_at (layout_at page width) (records_in page) (Twice k) h in of_twice p.0 _ k p.2
