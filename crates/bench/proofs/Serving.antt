-- What a list of all plans is good for, said of the records that are to be told apart.
use Rattle.std.proofs.Common.{ℕ, List, sym, subst}
use Rattle.bench.specs.Promise.{Serves}
use Rattle.books.specs.Meanings.{Rec}
use Rattle.covers.specs.Plans.{Covers, Plan}
use Rattle.covers.specs.Theorems.{Lists}
use Rattle.matrix.specs.Apart.{Separates, TellsAt}
use Rattle.matrix.specs.Theorems.{IsMatrix, IsRow}
use Rattle.readings.specs.Kinds.{Kind}
use Rattle.sets.proofs.Members.{all_in}
use Rattle.sets.proofs.Places.{without_lacks, without_within}
use Rattle.sets.proofs.Places.{without}
use Rattle.sets.specs.Sets.{Has, Shares}
use Rattle.std.proofs.ByRecursion.{All-weaker}
use Rattle.std.specs.List.{AllByRecursion as Every}

module _ {R : Type 0} (kind : Kind R) (pairs : Rec R → Rec R → Type 0) (rows : List ℕ) (is : IsMatrix kind pairs rows) where
  -- a cover of the matrix tells all apart
  pub covers_separates : (s : ℕ) → Covers rows s → Separates kind pairs s
  covers_separates s c x y p =
      let r = is.all x y p in
      let m = all_in (λ row. Shares row s) rows r.0 c r.1 in
      (m.0, m.2, (r.2 m.0).0 m.1)

  -- and what tells all apart covers
  pub separates_covers : (s : ℕ) → Separates kind pairs s → Covers rows s
  separates_covers s h =
      All-weaker (λ row. (x : Rec R) × (y : Rec R) × pairs x y × IsRow kind x y row) (λ row. Shares row s)
      (λ row r. let t = h r.0 r.1 r.2 in (t.0, (r.3 t.0).1 t.2, t.1)) rows is.each

  module _ (plans : List ℕ) (lists : Lists rows plans) where
    no_spare : (p : ℕ) → Plan rows p → (j : ℕ) → Has j p → Separates kind pairs (without j p) → ⊥
    no_spare p plan j h s =
        plan.1 (without j p)
        (without_within j p, λ e. without_lacks j p (subst (λ (q : ℕ). Has j q) (sym e) h))
        (separates_covers (without j p) s)

    -- s has all tests of some two
    abbrev Blocks : ℕ → Type 0
    Blocks s = (x : Rec R) × (y : Rec R) × pairs x y × ((j : ℕ) → TellsAt kind x y j → Has j s)

    blocking : (s : ℕ) → Every (Shares s) plans → Blocks s
    blocking s h =
        let r = (lists.dual s).0 h in
        let m = all_in (λ row. (x : Rec R) × (y : Rec R) × pairs x y × IsRow kind x y row) rows r.0 is.each r.1 in
        (m.0, m.1, m.2, λ j t. r.2 j ((m.3 j).1 t))

    blocked : (s : ℕ) → Blocks s → Every (Shares s) plans
    blocked s (x, y, p, f) =
        let r = is.all x y p in
        (lists.dual s).1 (r.0, r.1, λ j h. f j ((r.2 j).0 h))

    pub serves : Serves kind pairs plans
    serves = record {
      enough = λ s h. lists.inner s (separates_covers s h);
      apart = All-weaker (Plan rows) (Separates kind pairs) (λ p plan. covers_separates p plan.0) plans lists.sound;
      spare = All-weaker (Plan rows) (λ p. (j : ℕ) → Has j p → Separates kind pairs (without j p) → ⊥) no_spare plans lists.sound;
      blocks = λ s. (blocking s, blocked s);
    }
