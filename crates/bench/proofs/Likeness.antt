-- Ledgers that are alike, order and tags aside, have the same plans.
use Rattle.std.proofs.Common.{◌≡◌, ℕ, List, map, take, sym, ap, ◌∙◌, subst}
use Rattle.bench.proofs.Serving.{covers_separates, separates_covers}
use Rattle.bench.specs.Ledger.{Call, ledger_after}
use Rattle.bench.specs.Promise.{SamePlans, Stands, untagged}
use Rattle.books.specs.Meanings.{Meaning, Rec}
use Rattle.covers.proofs.Same.{same_lists}
use Rattle.covers.specs.Plans.{Covers}
use Rattle.covers.specs.Theorems.{Lists}
use Rattle.matrix.proofs.Matrices.{matrix_is}
use Rattle.matrix.specs.Apart.{Different, Separates, Tells, TellsAt}
use Rattle.matrix.specs.Rows.{matrix_of}
use Rattle.matrix.specs.Theorems.{IsMatrix}
use Rattle.readings.specs.Kinds.{Kind, Lawful}
use Rattle.sets.proofs.Members.{all_in, in_all, in_map, map_in}
use Rattle.sets.specs.Lists.{Among}
use Rattle.std.proofs.lemmas.List.Sorted.{IsPermutation-sym}
use Rattle.std.proofs.ByRecursion.{all_shuffled}
use Rattle.std.specs.List.Sorted.{IsPermutation}
use Rattle.std.specs.List.{AllByRecursion as Every}

module _ {R : Type 0} (kind : Kind R) where
  -- ---- one record for another

  -- a record of the one has its like in the other
  like_of : (xs ys : List (Rec R)) → IsPermutation (map untagged xs) (map untagged ys) → (y : Rec R) → Among ys y
      → (x : Rec R) × Among xs x × (untagged x ≡ untagged y)
  like_of xs ys h y i = map_in untagged xs (untagged y) (all_in (Among (map untagged xs)) (map untagged ys) (untagged y) moved (in_map untagged ys y i))
    where
      moved : Every (Among (map untagged xs)) (map untagged ys)
      moved = all_shuffled (Among (map untagged xs)) (map untagged xs) (map untagged ys) h (in_all (Among (map untagged xs)) (map untagged xs) (λ z k. k))

  abbrev part_of : ℕ × List R → ℕ
  part_of p = p.0

  abbrev readings_of : ℕ × List R → List R
  readings_of p = p.1

  -- what tells two records apart tells their likes apart
  tells_likes : (s : ℕ) (x y a b : Rec R) → untagged x ≡ untagged a → untagged y ≡ untagged b → Tells kind s x y → Tells kind s a b
  tells_likes s x y a b e f (j, h, t) = (
    j,
    h,
    subst (λ (l : List R). TellsAt kind (rec a.tag a.part l) b j) (ap readings_of e)
        (subst (λ (l : List R). TellsAt kind x (rec b.tag b.part l) j) (ap readings_of f) t),
  )
    where
      rec : ℕ → ℕ → List R → Rec R
      rec tag part readings = record { tag = tag; part = part; readings = readings }

  separates_like : (xs ys : List (Rec R)) → IsPermutation (map untagged xs) (map untagged ys) → (s : ℕ)
      → Separates kind (Different xs) s → Separates kind (Different ys) s
  separates_like xs ys h s f a b (i, k, d) =
      let x = like_of xs ys h a i in
      let y = like_of xs ys h b k in
      tells_likes s x.0 y.0 a b x.2 y.2
      (f x.0 y.0 (x.1, y.1, λ e. d (sym (ap part_of x.2) ∙ e ∙ ap part_of y.2)))

  -- ---- the same plans

  module _ (xs ys : List (Rec R)) (rows rows' : List ℕ)
      (is : IsMatrix kind (Different xs) rows) (is' : IsMatrix kind (Different ys) rows') (like : IsPermutation (map untagged xs) (map untagged ys)) where
    covers_like : (s : ℕ) → Covers rows s → Covers rows' s
    covers_like s c =
        separates_covers kind (Different ys) rows' is' s
        (separates_like xs ys like s (covers_separates kind (Different xs) rows is s c))

    covers_back : (s : ℕ) → Covers rows' s → Covers rows s
    covers_back s c =
        separates_covers kind (Different xs) rows is s
        (separates_like ys xs (IsPermutation-sym (map untagged xs) (map untagged ys) like) s (covers_separates kind (Different ys) rows' is' s c))

    pub same_plans : (plans plans' : List ℕ) → Lists rows plans → Lists rows' plans' → plans ≡ plans'
    same_plans = same_lists rows rows' covers_like covers_back

  -- two histories, each with the promise, of which the ledgers are alike
  pub histories_agree : Lawful R kind → (start start' : Meaning R) (calls calls' : List (Call R)) (numbers numbers' : List ℕ) (m m' : Meaning R)
      (count count' over over' : ℕ) (list list' : List ℕ)
      → Stands kind start calls numbers m count over list → Stands kind start' calls' numbers' m' count' over' list'
      → SamePlans kind start calls count over list start' calls' count' over' list'
  histories_agree lawful start start' calls calls' numbers numbers' m m' count count' over over' list list' s s' a a' o o' like =
      same_plans (held start calls) (held start' calls') (matrix_of kind (held start calls)) (matrix_of kind (held start' calls'))
      (matrix_is kind lawful (held start calls)) (matrix_is kind lawful (held start' calls')) like.held
      (take count list) (take count' list') ((s.shelved a).exact o).lists ((s'.shelved a').exact o').lists
    where
      held : Meaning R → List (Call R) → List (Rec R)
      held start calls = (ledger_after kind start calls).held
