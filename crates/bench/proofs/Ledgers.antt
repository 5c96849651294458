-- The ledger after one call more, and the promise carried on by it.
use Rattle.std.proofs.Common.{◌≡◌, ℕ, Bool, true, false, not, ◌||◌, List, [], ◌∷◌, ◌++◌, is_some, Some, None, Option, sym, refl, ap, ◌∙◌, subst}
use Rattle.bench.specs.Ledger.{Call, accepted, entered, fault, ledger_after, next, number, refusals_of}
use Rattle.bench.specs.Promise.{Shelved, Stands}
use Rattle.bench.specs.declared.faults.BenchFault.{BenchFault}
use Rattle.books.specs.Meanings.{Meaning}
use Rattle.readings.specs.Kinds.{Kind}
use Rattle.refusals.specs.Faults.{leaves}
use Rattle.std.proofs.lemmas.Bool.{both_ways}

module _ {R : Type 0} (kind : Kind R) where
  -- ---- one call more

  pub ledger_push : (start : Meaning R) (calls : List (Call R)) (call : Call R)
      → ledger_after kind start (calls ++ call ∷ []) ≡ next kind (ledger_after kind start calls) call
  unfolding ledger_after
  ledger_push start [] call = refl
  ledger_push start (c ∷ calls) call = ledger_push (next kind start c) calls call

  pub refusals_push : (start : Meaning R) (calls : List (Call R)) (call : Call R)
      → refusals_of kind start (calls ++ call ∷ []) ≡ refusals_of kind start calls ++ number (fault kind (ledger_after kind start calls) call) ∷ []
  unfolding ledger_after refusals_of
  refusals_push start [] call = refl
  refusals_push start (c ∷ calls) call = ap (λ (l : List ℕ). number (fault kind start c) ∷ l) (refusals_push (next kind start c) calls call)

  or_assoc : (a b c : Bool) → (a || (b || c)) ≡ ((a || b) || c)
  or_assoc true b c = refl
  or_assoc false b c = refl

  or_none : (a : Bool) → (a || false) ≡ a
  or_none true = refl
  or_none false = refl

  pub accepted_push : (start : Meaning R) (calls : List (Call R)) (call : Call R)
      → accepted kind start (calls ++ call ∷ []) ≡ (accepted kind start calls || not (is_some (fault kind (ledger_after kind start calls) call)))
  unfolding ledger_after accepted
  accepted_push start [] call = or_none (not (is_some (fault kind start call)))
  accepted_push start (c ∷ calls) call =
      ap (λ (b : Bool). not (is_some (fault kind start c)) || b) (accepted_push (next kind start c) calls call)
      ∙ or_assoc (not (is_some (fault kind start c))) (accepted kind (next kind start c) calls)
      (not (is_some (fault kind (ledger_after kind (next kind start c) calls) call)))

  -- ---- the ledger and a refused, or an accepted, call

  pub next_refused : (m : Meaning R) (call : Call R) (f : BenchFault) → fault kind m call ≡ Some f → next kind m call ≡ m
  unfolding next
  next_refused m call f e = ap (λ (o : Option BenchFault). leaves o m (entered m call)) e

  pub next_accepted : (m : Meaning R) (call : Call R) → fault kind m call ≡ None → next kind m call ≡ entered m call
  unfolding next
  next_accepted m call e = ap (λ (o : Option BenchFault). leaves o m (entered m call)) e

  or_left : (a : Bool) → (a || true) ≡ true
  or_left true = refl
  or_left false = refl

  module _ (start : Meaning R) (calls : List (Call R)) (numbers : List ℕ) (call : Call R) (m : Meaning R) (count over : ℕ) (list : List ℕ)
      (stands : Stands kind start calls numbers m count over list) where
    numbered : numbers ++ number (fault kind m call) ∷ [] ≡ refusals_of kind start (calls ++ call ∷ [])
    numbered =
        ap (λ (n : List ℕ). n ++ number (fault kind m call) ∷ []) stands.refusals
        ∙ ap (λ (w : Meaning R). refusals_of kind start calls ++ number (fault kind w call) ∷ []) stands.book
        ∙ sym (refusals_push start calls call)

    ledgered : ledger_after kind start (calls ++ call ∷ []) ≡ next kind m call
    ledgered = ledger_push start calls call ∙ ap (λ (w : Meaning R). next kind w call) (sym stands.book)

    faulted : fault kind (ledger_after kind start calls) call ≡ fault kind m call
    faulted = ap (λ (w : Meaning R). fault kind w call) (sym stands.book)

    -- refused: nothing changes, and the number is noted
    pub stands_refused : (f : BenchFault) → fault kind m call ≡ Some f
        → Stands kind start (calls ++ call ∷ []) (numbers ++ number (fault kind m call) ∷ []) m count over list
    stands_refused f e = record {
      book = sym (ledgered ∙ next_refused m call f e);
      refusals = numbered;
      unshelved = λ h. stands.unshelved (sym same ∙ h);
      shelved = λ h. subst (λ (w : Meaning R). Shelved kind w count over list) (sym kept) (stands.shelved (sym same ∙ h));
    }
      where
        same : accepted kind start (calls ++ call ∷ []) ≡ accepted kind start calls
        same =
            accepted_push start calls call
            ∙ ap (λ (o : Option BenchFault). accepted kind start calls || not (is_some o)) (faulted ∙ e)
            ∙ or_none (accepted kind start calls)

        kept : ledger_after kind start (calls ++ call ∷ []) ≡ ledger_after kind start calls
        kept = ledgered ∙ next_refused m call f e ∙ stands.book

    -- accepted: what is counted and listed is that of the ledger as it is now
    pub stands_accepted : (n : Meaning R) (c o : ℕ) (l : List ℕ) → fault kind m call ≡ None → n ≡ entered m call → Shelved kind n c o l
        → Stands kind start (calls ++ call ∷ []) (numbers ++ number (fault kind m call) ∷ []) n c o l
    stands_accepted n c o l e h s = record {
      book = now_is;
      refusals = numbered;
      unshelved = λ k. absurd (both_ways (accepted kind start (calls ++ call ∷ [])) k yes);
      shelved = λ k. subst (λ (w : Meaning R). Shelved kind w c o l) now_is s;
    }
      where
        now_is : n ≡ ledger_after kind start (calls ++ call ∷ [])
        now_is = h ∙ sym (ledgered ∙ next_accepted m call e)

        yes : accepted kind start (calls ++ call ∷ []) ≡ true
        yes =
            accepted_push start calls call
            ∙ ap (λ (x : Option BenchFault). accepted kind start calls || not (is_some x)) (faulted ∙ e)
            ∙ or_left (accepted kind start calls)
