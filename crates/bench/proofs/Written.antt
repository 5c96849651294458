-- The rows that were written into the work memory are those that are covered.
use Rattle.std.proofs.Common.{◌≡◌, ℕ, ◌^◌, ◌<◌, ◌≤◌, List, length, take, sym, ap, ◌∙◌, subst, arith}
use Rattle.covers.specs.Plans.{plans_of}
use Rattle.sets.proofs.Runs.{sets_taken}
use Rattle.std.specs.List.{AllByRecursion as Every}
use lib.Seq.{sets}

module _ (work rows now : List ℕ) (n : ℕ) (after : now ≡ sets work 0 rows) (count : n ≡ length rows) (few : n ≤ 2016)
    (room : 2016 ≤ length work) where
  pub rows_written : take n now ≡ rows
  rows_written = ap (take n) after ∙ sets_taken work rows n count (omega (arith, few, room))

  -- the plans of what was written, at the width that was asked for
  pub plans_written : (width wide : ℕ) → width ≡ wide → plans_of (take n now) width ≡ plans_of rows wide
  plans_written width wide e = ap (λ (l : List ℕ). plans_of l width) rows_written ∙ ap (plans_of rows) e

  pub narrow_written : (width wide : ℕ) → width ≡ wide → Every (λ row. row < 2 ^ wide) rows → Every (λ row. row < 2 ^ width) (take n now)
  narrow_written width wide e h =
      subst (λ (w : ℕ). Every (λ row. row < 2 ^ w) (take n now)) (sym e) (subst (Every (λ row. row < 2 ^ wide)) (sym rows_written) h)
