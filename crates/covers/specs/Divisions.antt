-- A node of the division: which sets it stands for, and what its plans are.
use Rattle.std.specs.Prelude.{◌≡◌, ℕ, ◌+◌, ◌*◌, ◌/◌, ◌^◌, ◌≤◌, List, [], ◌∷◌, length, bit_or}
use Rattle.covers.specs.Plans.{plans_in}
use Rattle.covers.specs.declared.dividing.Node.TheVariants.{Barren, Inner, Leaf}
use Rattle.covers.specs.declared.dividing.Node.{Node}
use Rattle.std.proofs.lemmas.List.Edits.{sets}

-- the undecided tests are all those below some place, and the chosen ones are not: the node's sets are those from
-- chosen up to chosen + undecided
pub record Apart (chosen undecided : ℕ) : Type 0 where
  pub place : ℕ
  pub base : ℕ
  pub chosen_is : chosen ≡ base * 2 ^ place
  pub undecided_is : undecided + 1 ≡ 2 ^ place

-- the two halves of a node by its highest undecided test: the plans without it, then those with it
pub record Halves (rows : List ℕ) (chosen undecided : ℕ) : Type 0 where
  pub size : undecided + 1 ≡ (undecided / 2 + 1) + (undecided / 2 + 1)
  pub taken : bit_or chosen (undecided / 2 + 1) ≡ chosen + (undecided / 2 + 1)
  pub without : Apart chosen (undecided / 2)
  pub with_it : Apart (bit_or chosen (undecided / 2 + 1)) (undecided / 2)
  pub few : length (plans_in rows chosen (undecided / 2 + 1)) ≤ undecided / 2 + 1
  pub counted :
      length (plans_in rows chosen (undecided + 1))
      ≡ length (plans_in rows chosen (undecided / 2 + 1)) + length (plans_in rows (bit_or chosen (undecided / 2 + 1)) (undecided / 2 + 1))
  pub written : (list : List ℕ) (count : ℕ)
      → sets list count (plans_in rows chosen (undecided + 1))
      ≡ sets (sets list count (plans_in rows chosen (undecided / 2 + 1))) (count + length (plans_in rows chosen (undecided / 2 + 1)))
      (plans_in rows (bit_or chosen (undecided / 2 + 1)) (undecided / 2 + 1))

-- what each judgement of a node says of its plans
abbrev pub Judged : List ℕ → ℕ → ℕ → Node → Type 0
Judged rows chosen undecided Barren = plans_in rows chosen (undecided + 1) ≡ []
Judged rows chosen undecided Leaf = plans_in rows chosen (undecided + 1) ≡ chosen ∷ []
Judged rows chosen undecided Inner = Halves rows chosen undecided
