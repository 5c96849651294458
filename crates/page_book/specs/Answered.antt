-- What each answer of the check tells: from the computed answer to the words of the layout, and back.
use Rattle.std.proofs.Common.{◌≡◌, ℕ, ◌%◌, Bool, true, false, ◌&&◌, eqb, leb, ◌⊎◌, List, length, Some, None, Ok, Err, Option, Result, sym, refl, ap, ◌∙◌, inl, inr}
use Rattle.books.specs.declared.faults.BookFault.TheVariants.{InPage, Size, Width}
use Rattle.books.specs.declared.faults.BookFault.{BookFault}
use Rattle.books.specs.declared.faults.PageFault.TheVariants.{Layout, Twice}
use Rattle.books.specs.declared.faults.PageFault.{PageFault}
use Rattle.page_book.specs.LowestFacts.{or_none, or_some}
use Rattle.page_book.specs.Twice.{tags_none, tags_once, twice_first, twice_not_layout, twice_some}
use Rattle.page_book.specs.WrongBytes.{layout_not_twice, records_none, records_right, wrong_first, wrong_some}
use Rattle.page_book.specs.Layout.{InSize, InWidth, WellFormed}
use Rattle.refusals.specs.Faults.{passed, or_else}
use Rattle.page_book.specs.Refused.{fit_fault, in_page, layout_fault, page_fault, refused_page, twice_fault}
use Rattle.page_book.specs.Told.{Accepted, AgainstLayout, Misfit, TagTwice, TwiceFirst, WrongFirst}
use Rattle.std.proofs.lemmas.Bool.{and_from, and_parts, cond-false, cond-true, eq-eqb, eqb-true, le-leb, leb-true}

-- the tests of width and size say what the words say
width_by : (width : ℕ) → (leb 1 width && leb width 24) ≡ true → InWidth width
width_by width h = let p = and_parts (leb 1 width) (leb width 24) h in (leb-true _ _ p.0, leb-true _ _ p.1)

by_width : (width : ℕ) → InWidth width → (leb 1 width && leb width 24) ≡ true
by_width width h = and_from (leb 1 width) (leb width 24) (le-leb _ _ h.0) (le-leb _ _ h.1)

size_by : (page : List ℕ) → (leb (length page) 2048 && eqb (length page % 32) 0) ≡ true → InSize page
size_by page h =
    let p = and_parts (leb (length page) 2048) (eqb (length page % 32) 0) h in
    (leb-true _ _ p.0, eqb-true _ _ p.1)

by_size : (page : List ℕ) → InSize page → (leb (length page) 2048 && eqb (length page % 32) 0) ≡ true
by_size page h =
    and_from (leb (length page) 2048) (eqb (length page % 32) 0) (le-leb _ _ h.0) (eq-eqb _ _ h.1)

-- one of the two
decided : (t : Bool) (P : Type 0) → (t ≡ true → P) → (P → t ≡ true) → P ⊎ (P → ⊥)
decided true P to from = inl (to refl)
decided false P to from = inr (λ p. let e = from p in cc)

false_from : (t : Bool) (P : Type 0) → (t ≡ true → P) → (P → ⊥) → t ≡ false
false_from true P to n = absurd (n (to refl))
false_from false P to n = refl

-- a page's fault is a book's of its own kind
page_none : (o : Option PageFault) → in_page o ≡ None → o ≡ None
page_none (Some f) h = cc
page_none None h = refl

page_some : (o : Option PageFault) (f : PageFault) → in_page o ≡ Some (InPage f) → o ≡ Some f
page_some (Some g) f h = (cc)
page_some None f h = cc

page_no_misfit : (o : Option PageFault) → (in_page o ≡ Some Width → ⊥) × (in_page o ≡ Some Size → ⊥)
page_no_misfit (Some g) =
    ((λ h. cc), (λ h. cc))
page_no_misfit None =
    ((λ h. cc), (λ h. cc))

-- what was answered, from the answer
pub err_by : (o : Option BookFault) (f : BookFault) → passed o ≡ Err f → o ≡ Some f
err_by (Some g) f h = (cc)
err_by None f h = cc

pub ok_by : (o : Option BookFault) → passed o ≡ Ok tt → o ≡ None
ok_by (Some g) h = cc
ok_by None h = refl

module _ (page : List ℕ) (width : ℕ) where
  -- the three ways
  misfit_width : (InWidth width → ⊥) → refused_page page width ≡ Some Width
  misfit_width n =
      let e : fit_fault page width ≡ Some Width = cond-false _ _ _ (false_from _ _ (width_by width) n) in
      ap (λ o. or_else o (in_page (page_fault page width))) e

  misfit_size : InWidth width → (InSize page → ⊥) → refused_page page width ≡ Some Size
  misfit_size w n =
      let e : fit_fault page width ≡ Some Size =
      cond-true _ _ _ (by_width width w) ∙ cond-false _ _ _ (false_from _ _ (size_by page) n) in
      ap (λ o. or_else o (in_page (page_fault page width))) e

  fits : InWidth width → InSize page → refused_page page width ≡ in_page (page_fault page width)
  fits w s =
      let e : fit_fault page width ≡ None = cond-true _ _ _ (by_width width w) ∙ cond-true _ _ _ (by_size page s) in
      ap (λ o. or_else o (in_page (page_fault page width))) e

  ways : (InWidth width → ⊥) ⊎ ((InWidth width × (InSize page → ⊥)) ⊎ (InWidth width × InSize page))
  ways =
      elim (decided _ (InWidth width) (width_by width) (by_width width)) [
        | inl w ↦ elim (decided _ (InSize page) (size_by page) (by_size page)) [ inl s ↦ inr (inr (w, s)) | inr n ↦ inr (inl (w, n)) ]
        | inr n ↦ inl n
      ]

  -- and back
  width_told : refused_page page width ≡ Some Width → InWidth width → ⊥
  width_told h w =
      elim ways [
        | inl n ↦ n w
        | inr (inl p) ↦ (let e = misfit_size p.0 p.1 in cc)
        | inr (inr p) ↦ (page_no_misfit (page_fault page width)).0 (sym (fits p.0 p.1) ∙ h)
      ]

  size_told : refused_page page width ≡ Some Size → InWidth width × (InSize page → ⊥)
  size_told h =
      elim ways [
        | inl n ↦ (let e = misfit_width n in cc)
        | inr (inl p) ↦ p
        | inr (inr p) ↦ absurd ((page_no_misfit (page_fault page width)).1 (sym (fits p.0 p.1) ∙ h))
      ]

  page_told : (f : PageFault) → refused_page page width ≡ Some (InPage f) → InWidth width × InSize page × (page_fault page width ≡ Some f)
  page_told f h =
      elim ways [
        | inl n ↦ (let e = misfit_width n in cc)
        | inr (inl p) ↦ (let e = misfit_size p.0 p.1 in cc)
        | inr (inr p) ↦ (p.0, p.1, page_some (page_fault page width) f (sym (fits p.0 p.1) ∙ h))
      ]

  fine_told : refused_page page width ≡ None → InWidth width × InSize page × (page_fault page width ≡ None)
  fine_told h =
      elim ways [
        | inl n ↦ (let e = misfit_width n in cc)
        | inr (inl p) ↦ (let e = misfit_size p.0 p.1 in cc)
        | inr (inr p) ↦ (p.0, p.1, page_none (page_fault page width) (sym (fits p.0 p.1) ∙ h))
      ]

  -- the page's own faults
  pub well_formed : refused_page page width ≡ None → WellFormed page width
  well_formed h =
      let p = fine_told h in
      let q = or_none (layout_fault page width) (twice_fault page) p.2 in
      (p.0, p.1, records_right page width q.0, tags_once page q.1)

  pub by_well_formed : WellFormed page width → refused_page page width ≡ None
  by_well_formed h =
      let l = records_none page width h.2 in
      let t = tags_none page h.3 in
      let e : page_fault page width ≡ None = rw l t in
      fits h.0 h.1 ∙ ap in_page e

  against : (k b : ℕ) → refused_page page width ≡ Some (InPage (Layout k b)) → InWidth width × InSize page × WrongFirst page width k b
  against k b h =
      let p = page_told (Layout k b) h in
      elim (or_some (layout_fault page width) (twice_fault page) (Layout k b) p.2) [
        | inl l ↦ (p.0, p.1, wrong_first page width k b l)
        | inr t ↦ absurd (twice_not_layout page k b t.1)
      ]

  by_against : (k b : ℕ) → InWidth width × InSize page × WrongFirst page width k b → refused_page page width ≡ Some (InPage (Layout k b))
  by_against k b h =
      let l = wrong_some page width k b h.2 in
      let e : page_fault page width ≡ Some (Layout k b) = rw l in
      fits h.0 h.1 ∙ ap in_page e

  doubled : (k : ℕ) → refused_page page width ≡ Some (InPage (Twice k)) → InWidth width × InSize page × TwiceFirst page width k
  doubled k h =
      let p = page_told (Twice k) h in
      elim (or_some (layout_fault page width) (twice_fault page) (Twice k) p.2) [
        | inl l ↦ absurd (layout_not_twice page width k l)
        | inr t ↦ (let f = twice_first page k t.1 in (p.0, p.1, (f.0, records_right page width t.0, f.1, f.2)))
      ]

  by_doubled : (k : ℕ) → InWidth width × InSize page × TwiceFirst page width k → refused_page page width ≡ Some (InPage (Twice k))
  by_doubled k h =
      let l = records_none page width h.2.1 in
      let t = twice_some page k (h.2.0, h.2.2, h.2.3) in
      let e : page_fault page width ≡ Some (Twice k) = rw l t in
      fits h.0 h.1 ∙ ap in_page e

  -- the four clauses
  module _ (r : Result (Unit {0}) BookFault) (e : r ≡ passed (refused_page page width)) where
    pub accepted : Accepted page width r
    unfolding Accepted
    accepted = ((λ h. well_formed (ok_by _ (sym e ∙ h))), (λ w. e ∙ ap passed (by_well_formed w)))

    pub misfit : Misfit page width r
    unfolding Misfit
    misfit = (
      ((λ h. width_told (err_by _ _ (sym e ∙ h))), (λ n. e ∙ ap passed (misfit_width n))),
      ((λ h. size_told (err_by _ _ (sym e ∙ h))), (λ p. e ∙ ap passed (misfit_size p.0 p.1))),
    )

    pub against_layout : AgainstLayout page width r
    unfolding AgainstLayout
    against_layout k b = ((λ h. against k b (err_by _ _ (sym e ∙ h))), (λ w. e ∙ ap passed (by_against k b w)))

    pub tag_twice : TagTwice page width r
    unfolding TagTwice
    tag_twice k = ((λ h. doubled k (err_by _ _ (sym e ∙ h))), (λ w. e ∙ ap passed (by_doubled k w)))

pub ruleset clauses = (accepted, misfit, against_layout, tag_twice)
