-- Plans for one record: what is found, counted and listed.
use Rattle.std.proofs.Common.{◌≡◌, ℕ, ◌^◌, ◌<◌, Bool, true, false, not, eqb, List, length, is_some, Some, None, Ok, Option, sym, refl, ap, ◌∙◌, subst}
use Rattle.bench.proofs.Shelving.{listing}
use Rattle.bench.specs.Ledger.{in_book, short_of}
use Rattle.bench.specs.Promise.{Listing}
use Rattle.bench.specs.Single.{Singled, plans_for, single_fault}
use Rattle.bench.specs.declared.faults.BenchFault.{BenchFault}
use Rattle.books.specs.Changes.{withdraw_fault}
use Rattle.books.specs.Meanings.{Meaning, Rec, Sound}
use Rattle.books.specs.Questions.{find}
use Rattle.books.specs.declared.faults.BookFault.TheVariants.{NoTag, NotHeld}
use Rattle.books.specs.declared.faults.BookFault.{BookFault}
use Rattle.covers.proofs.PlanLists.{plans_list}
use Rattle.covers.specs.Answers.{listed, told}
use Rattle.covers.specs.Plans.{plans_of}
use Rattle.matrix.proofs.Matrices.{rows_with_are}
use Rattle.matrix.proofs.Single.{one_narrow}
use Rattle.matrix.specs.Apart.{DifferentFrom}
use Rattle.matrix.specs.Rows.{rows_of, rows_with}
use Rattle.readings.specs.Kinds.{Kind}
use Rattle.refusals.proofs.Answered.{answered_ok}
use Rattle.refusals.specs.Faults.{or_else, passed, when}
use Rattle.std.proofs.lemmas.Bool.{both_ways}
use Rattle.std.specs.Option.{option_map}
use Rattle.std.specs.List.{AllByRecursion as Every}

-- no fault is found where the work memory is enough and the tag is held
pub single_none : {R : Type 0} (m : Meaning R) (tag work : ℕ) → Ok tt ≡ passed (short_of work) → None ≡ withdraw_fault m tag → single_fault m tag work ≡ None
single_none m tag work enough held =
    ap (λ (o : Option BenchFault). or_else o (in_book (withdraw_fault m tag))) (answered_ok (short_of work) tt tt enough).0
    ∙ ap in_book (sym held)

module _ {R : Type 0} (kind : Kind R) (m : Meaning R) where
  -- how many rows were written
  pub single_count : (o : Option (Rec R)) (n : ℕ) → Some n ≡ option_map (λ x. length (rows_with kind x m.held)) o → n ≡ length (rows_of kind m.held o)
  single_count None n e = cc
  single_count (Some x) n e = cc

  module _ (sound : Sound kind m) (tag places : ℕ) (answer : ℕ × ℕ) (list : List ℕ)
      (answers : answer ≡ told places (plans_for kind m tag)) (lists : list ≡ listed places (plans_for kind m tag)) where
    for_record : (x : Rec R) → find tag m.held ≡ Some x
        → Listing kind (DifferentFrom x m.held) (rows_with kind x m.held) m.width answer.0 answer.1 list
    for_record x e =
        subst (λ (l : List ℕ). Listing kind pairs rows m.width answer.0 answer.1 l) (sym (lists ∙ ap (listed places) same))
        (subst (λ (a : ℕ × ℕ). Listing kind pairs rows m.width a.0 a.1 (listed places (plans_of rows m.width))) (sym (answers ∙ ap (told places) same))
        (listing kind pairs rows m.width (plans_list rows m.width narrow) (rows_with_are kind x m.held) places))
      where
        pairs : Rec R → Rec R → Type 0
        pairs = DifferentFrom x m.held

        rows : List ℕ
        rows = rows_with kind x m.held

        same : plans_for kind m tag ≡ plans_of rows m.width
        same = ap (λ (o : Option (Rec R)). plans_of (rows_of kind m.held o) m.width) e

        narrow : Every (λ row. row < 2 ^ m.width) rows
        narrow = subst (λ (o : Option (Rec R)). Every (λ row. row < 2 ^ m.width) (rows_of kind m.held o)) e (one_narrow kind m sound tag)

    pub singled : is_some (find tag m.held) ≡ true → Singled kind m tag answer.0 answer.1 list
    singled h = go (find tag m.held) refl
      where
        go : (o : Option (Rec R)) → find tag m.held ≡ o → Singled kind m tag answer.0 answer.1 list
        go (Some x) e = record { one = x; found = e; listing = for_record x e }
        go None e = absurd (both_ways false refl (sym (ap is_some e) ∙ h))

  -- a tag that may be withdrawn is held
  pub held_not_refused : (tag : ℕ) → None ≡ withdraw_fault m tag → is_some (find tag m.held) ≡ true
  held_not_refused tag e = go (eqb tag 0) (is_some (find tag m.held)) e
    where
      go : (zero held : Bool) → None ≡ or_else (when zero NoTag) (when (not held) (NotHeld tag)) → held ≡ true
      go true held h = cc
      go false true h = refl
      go false false h = cc

  -- and so is one for which no fault is found
  pub single_held : (tag work : ℕ) → single_fault m tag work ≡ None → is_some (find tag m.held) ≡ true
  single_held tag work e = held_not_refused tag (go (short_of work) (withdraw_fault m tag) e)
    where
      go : (short : Option BenchFault) (fault : Option BookFault) → or_else short (in_book fault) ≡ None → None ≡ fault
      go (Some f) fault e = cc
      go None (Some f) e = cc
      go None None e = refl
