-- What is counted and listed after an accepted call.
use Rattle.std.proofs.Common.{◌≡◌, ℕ, ◌-◌, ◌<◌, ◌≤◌, leb, ◌⊎◌, List, ◌++◌, length, take, replicate, sym, refl, ap, ◌∙◌, subst, inl, inr, arith}
use Rattle.bench.proofs.Serving.{serves}
use Rattle.bench.specs.Promise.{Exact, Listing, Serves}
use Rattle.books.specs.Meanings.{Rec}
use Rattle.covers.proofs.Calls.{listed_not, over_fits, over_not}
use Rattle.covers.specs.Answers.{listed, over}
use Rattle.covers.specs.Plans.{plans_of}
use Rattle.covers.specs.Theorems.{Lists}
use Rattle.matrix.specs.Theorems.{IsMatrix}
use Rattle.readings.specs.Kinds.{Kind}
use Rattle.std.proofs.lemmas.List.{length-append, length-replicate}
use Rattle.std.proofs.lemmas.Bool.{cases_lt, cond-true, le-leb}
use lib.Seq.{take-append_seam}

-- ---- the places of a list

listed_is : (places : ℕ) (plans : List ℕ) → length plans ≤ places → listed places plans ≡ plans ++ replicate (places - length plans) 0
unfolding listed
listed_is places plans h = cond-true (leb (length plans) places) (plans ++ replicate (places - length plans) 0) (replicate places 0) (le-leb (length plans) places h)

-- a list has as many places after as before
pub length_listed : (places : ℕ) (plans : List ℕ) → length (listed places plans) ≡ places
length_listed places plans = go (cases_lt places (length plans))
  where
    go : (places < length plans) ⊎ (length plans ≤ places) → length (listed places plans) ≡ places
    go (inr h) =
        ap length (listed_is places plans h)
        ∙ (length-append plans (replicate (places - length plans) 0)
        ∙ (let e = length-replicate {A = ℕ} (places - length plans) 0 in omega (arith, h, e)))
    go (inl h) = ap length (sym (listed_not places plans h)) ∙ length-replicate {A = ℕ} places 0

module _ {R : Type 0} (kind : Kind R) (pairs : Rec R → Rec R → Type 0) (rows : List ℕ) (width : ℕ)
    (lists : Lists rows (plans_of rows width)) (is : IsMatrix kind pairs rows) where
  exactly : (places : ℕ) → length (plans_of rows width) ≤ places → Exact kind pairs rows (length (plans_of rows width)) (listed places (plans_of rows width))
  exactly places h = record {
    zeros =
        listed_is places plans h
        ∙ ap (λ (l : List ℕ). l ++ replicate (places - length plans) 0) (sym first)
        ∙ ap (λ (n : ℕ). take (length plans) (listed places plans) ++ replicate (n - length plans) 0) (sym (length_listed places plans));
    lists = subst (Lists rows) (sym first) lists;
    serves = subst (Serves kind pairs) (sym first) (serves kind pairs rows is plans lists);
  }
    where
      plans : List ℕ
      plans = plans_of rows width

      first : take (length plans) (listed places plans) ≡ plans
      first = ap (take (length plans)) (listed_is places plans h) ∙ take-append_seam plans (replicate (places - length plans) 0)

  -- the two numbers and the list, for any number of places
  pub listing : (places : ℕ) → Listing kind pairs rows width (length (plans_of rows width)) (over places (plans_of rows width)) (listed places (plans_of rows width))
  listing places = record {
    counted = refl;
    plans = lists;
    outnumber = ap (λ (n : ℕ). over n (plans_of rows width)) (sym (length_listed places (plans_of rows width)));
    exact = fits (cases_lt places (length (plans_of rows width)));
    empty = fills (cases_lt places (length (plans_of rows width)));
  }
    where
      plans : List ℕ
      plans = plans_of rows width

      fits : (places < length plans) ⊎ (length plans ≤ places) → over places plans ≡ 0 → Exact kind pairs rows (length plans) (listed places plans)
      fits (inl h) z = absurd (let e = over_not places plans h in omega (arith, z, e))
      fits (inr h) z = exactly places h

      fills : (places < length plans) ⊎ (length plans ≤ places) → over places plans ≡ 1 → listed places plans ≡ replicate (length (listed places plans)) 0
      fills (inl h) o = sym (listed_not places plans h) ∙ ap (λ (n : ℕ). replicate n 0) (sym (length_listed places plans))
      fills (inr h) o = absurd (let e = over_fits places plans h in omega (arith, o, e))
