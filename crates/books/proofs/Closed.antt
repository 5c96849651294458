-- The lowest closed test with a reading that is not blank, as a loop over the readings finds it.
use Rattle.std.proofs.Common.{◌≡◌, ℕ, ◌+◌, ◌<◌, ◌≤◌, Bool, true, false, cond, not, ◌&&◌, List, length, get_or, drop, Some, None, sym, ap, ◌∙◌}
use Rattle.books.specs.Changes.{closed_reading}
use Rattle.books.specs.declared.faults.BookFault.TheVariants.{ClosedTest}
use Rattle.readings.specs.Kinds.{Kind}
use Rattle.std.proofs.lemmas.List.{at_drop_all, at_drop_more}
use Rattle.std.proofs.lemmas.Bool.{cond-false, cond-true}

module _ {R : Type 0} (kind : Kind R) (closed : ℕ → Bool) (test : ℕ) (xs : List R) (i : ℕ) where
  here : (x : R) → i < length xs → x ≡ get_or xs i x
      → closed_reading kind closed test (drop i xs)
      ≡ cond (closed test && not (kind.is_blank x)) (Some (ClosedTest test)) (closed_reading kind closed (test + 1) (drop (i + 1) xs))
  unfolding closed_reading
  here x l e =
      at_drop_more (closed_reading kind closed test) xs i x l
      ∙ ap (λ (y : R). cond (closed test && not (kind.is_blank y)) (Some (ClosedTest test)) (closed_reading kind closed (test + 1) (drop (i + 1) xs))) (sym e)

  pub closed_found : (x : R) → i < length xs → x ≡ get_or xs i x → (closed test && not (kind.is_blank x)) ≡ true
      → closed_reading kind closed test (drop i xs) ≡ Some (ClosedTest test)
  closed_found x l e t = here x l e ∙ cond-true (closed test && not (kind.is_blank x)) _ _ t

  pub closed_more : (x : R) → i < length xs → x ≡ get_or xs i x → (closed test && not (kind.is_blank x)) ≡ false
      → closed_reading kind closed test (drop i xs) ≡ closed_reading kind closed (test + 1) (drop (i + 1) xs)
  closed_more x l e t = here x l e ∙ cond-false (closed test && not (kind.is_blank x)) _ _ t

  pub closed_none : length xs ≤ i → closed_reading kind closed test (drop i xs) ≡ None
  unfolding closed_reading
  closed_none h = at_drop_all (closed_reading kind closed test) xs i h
