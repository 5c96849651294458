-- A node of the division: where it has no plan, where it has one, and how it is the sum of its two halves.
use Rattle.std.proofs.Common.{◌≡◌, ℕ, zero, suc, ◌+◌, ◌-◌, ◌*◌, ◌/◌, ◌^◌, ◌<◌, ◌≤◌, Bool, true, false, cond, ◌≢◌, List, [], ◌∷◌, ◌++◌, length, filter, sym, ap, ◌∙◌, subst, inl, inr, ⊎_elim, mod-eq_of_lt, mul_assoc, pow-suc, arith, length-append, pow_pos}
use Rattle.covers.proofs.Least.{own_down, own_least, owned_plan, plan_owned, plan_sound}
use Rattle.covers.proofs.PlanLists.{kept_none, plans_few, plans_split}
use Rattle.covers.proofs.Rows.{covers_complete, covers_sound, covers_up}
use Rattle.sets.proofs.Places.{and_parts, or_cases, or_has}
use Rattle.covers.specs.Divisions.{Apart, Halves}
use Rattle.covers.specs.Plans.{Covers, covers, is_plan, owned, plans_in}
use Rattle.sets.proofs.Runs.{sets_append}
use Rattle.sets.specs.Sets.{Has, Within, bit}
use Rattle.std.proofs.lemmas.Bool.{both_ways}
use Rattle.std.specs.List.{range_with_len}
use lib.Bits.{and_mask, bit_and, bit_or, or_shifted, or_zero_r}
use lib.Seq.{sets}
use native.Mathlib.Nat.{pow-succ'}

module _ (rows : List ℕ) (chosen undecided : ℕ) (node : Apart chosen undecided) where
  -- the node's sets, as chosen tests joined with undecided ones
  joined : (s : ℕ) → chosen ≤ s → s < chosen + (undecided + 1) → s ≡ bit_or chosen (s - chosen)
  joined s l u =
      let small : s - chosen < 2 ^ node.place = omega (arith, node.undecided_is) in
      let e : bit_or (node.base * 2 ^ node.place) (s - chosen) ≡ node.base * 2 ^ node.place + (s - chosen) = or_shifted node.base node.place (s - chosen) small in
      let f : bit_or chosen (s - chosen) ≡ chosen + (s - chosen) = subst (λ (x : ℕ). bit_or x (s - chosen) ≡ x + (s - chosen)) (sym node.chosen_is) e in
      omega arith

  chosen_within : (s : ℕ) → chosen ≤ s → s < chosen + (undecided + 1) → Within chosen s
  chosen_within s l u j h = ap (bit j) (joined s l u) ∙ or_has j chosen (s - chosen) (inl h)

  within_reach : (s : ℕ) → chosen ≤ s → s < chosen + (undecided + 1) → Within s (bit_or chosen undecided)
  within_reach s l u j h = or_has j chosen undecided (⊎_elim inl (λ p. inr (low p)) (or_cases j chosen (s - chosen) (ap (bit j) (sym (joined s l u)) ∙ h)))
    where
      masked : bit_and (s - chosen) undecided ≡ s - chosen
      masked =
          let e : undecided ≡ 2 ^ node.place - 1 = omega (arith, node.undecided_is) in
          ap (bit_and (s - chosen)) e ∙ and_mask (s - chosen) node.place ∙ mod-eq_of_lt (omega (arith, node.undecided_is))

      low : Has j (s - chosen) → Has j undecided
      low p = (and_parts j (s - chosen) undecided (ap (bit j) masked ∙ p)).1

  pub none_coverable : covers rows (bit_or chosen undecided) ≡ false → plans_in rows chosen (undecided + 1) ≡ []
  unfolding plans_in
  none_coverable no_cover = kept_none (is_plan rows) chosen (undecided + 1) refute
    where
      refute : (s : ℕ) → chosen ≤ s → s < chosen + (undecided + 1) → is_plan rows s ≡ true → ⊥
      refute s l u h =
          both_ways (covers rows (bit_or chosen undecided)) no_cover
          (covers_complete rows (bit_or chosen undecided) (covers_up rows s (bit_or chosen undecided) (within_reach s l u) (plan_sound rows s h).0))

  pub none_owned : (owned rows chosen ≡ chosen → ⊥) → plans_in rows chosen (undecided + 1) ≡ []
  unfolding plans_in
  none_owned spare = kept_none (is_plan rows) chosen (undecided + 1) refute
    where
      refute : (s : ℕ) → chosen ≤ s → s < chosen + (undecided + 1) → is_plan rows s ≡ true → ⊥
      refute s l u h = spare (own_down rows chosen s (chosen_within s l u) (plan_owned rows s h))

  pub one_covered : covers rows chosen ≡ true → owned rows chosen ≡ chosen → plans_in rows chosen (undecided + 1) ≡ chosen ∷ []
  unfolding plans_in
  one_covered c e =
      ap (λ (n : ℕ). filter (is_plan rows) (range_with_len chosen n)) first
      ∙ ap (λ (b : Bool). cond b (chosen ∷ rest) rest) (owned_plan rows chosen covering e)
      ∙ ap (λ (xs : List ℕ). chosen ∷ xs) (kept_none (is_plan rows) (chosen + 1) undecided refute)
    where
      covering : Covers rows chosen
      covering = covers_sound rows chosen c

      first : undecided + 1 ≡ suc undecided
      first = omega arith

      rest : List ℕ
      rest = filter (is_plan rows) (range_with_len (chosen + 1) undecided)

      refute : (s : ℕ) → chosen + 1 ≤ s → s < chosen + 1 + undecided → is_plan rows s ≡ true → ⊥
      refute s l u h =
          let same : chosen ≡ s = own_least rows chosen s (plan_owned rows s h) (chosen_within s (omega arith) (omega arith)) covering in
          omega arith

  -- where a row is not covered and can be, some test is undecided
  pub some_undecided : covers rows chosen ≡ false → covers rows (bit_or chosen undecided) ≡ true → undecided ≢ 0
  some_undecided n c z = both_ways (covers rows chosen) n (ap (covers rows) (sym (ap (bit_or chosen) z ∙ or_zero_r chosen)) ∙ c)

-- the two halves in numbers
record Split (chosen undecided : ℕ) : Type 0 where
  size : undecided + 1 ≡ (undecided / 2 + 1) + (undecided / 2 + 1)
  taken : bit_or chosen (undecided / 2 + 1) ≡ chosen + (undecided / 2 + 1)
  without : Apart chosen (undecided / 2)
  with_it : Apart (bit_or chosen (undecided / 2 + 1)) (undecided / 2)

split : (chosen undecided : ℕ) → Apart chosen undecided → undecided ≢ 0 → Split chosen undecided
split chosen undecided node some = go node.place node.chosen_is node.undecided_is
  where
    go : (k : ℕ) → chosen ≡ node.base * 2 ^ k → undecided + 1 ≡ 2 ^ k → Split chosen undecided
    go zero ce ue = absurd (some (omega arith))
    go (suc k) ce ue = record { size = size_is; taken = taken_is; without = left_is; with_it = right_is }
      where
        power : 2 ^ suc k ≡ 2 ^ k * 2
        power = pow-suc 2 k

        half : undecided / 2 + 1 ≡ 2 ^ k
        half = omega (arith, power, pow_pos k)

        size_is : undecided + 1 ≡ (undecided / 2 + 1) + (undecided / 2 + 1)
        size_is = omega (arith, power, pow_pos k)

        twice : chosen ≡ (node.base * 2) * 2 ^ k
        twice = ce ∙ ap (λ (x : ℕ). node.base * x) (pow-succ' 2 k) ∙ sym (mul_assoc node.base 2 (2 ^ k))

        taken_is : bit_or chosen (undecided / 2 + 1) ≡ chosen + (undecided / 2 + 1)
        taken_is =
            let l : undecided / 2 + 1 < 2 ^ suc k = omega (arith, power, half, pow_pos k) in
            subst (λ (x : ℕ). bit_or x (undecided / 2 + 1) ≡ x + (undecided / 2 + 1)) (sym ce) (or_shifted node.base (suc k) (undecided / 2 + 1) l)

        left_is : Apart chosen (undecided / 2)
        left_is = record { place = k; base = node.base * 2; chosen_is = twice; undecided_is = half }

        right_is : Apart (bit_or chosen (undecided / 2 + 1)) (undecided / 2)
        right_is = record { place = k; base = node.base * 2 + 1; chosen_is = taken_is ∙ above; undecided_is = half }
          where
            above : chosen + (undecided / 2 + 1) ≡ (node.base * 2 + 1) * 2 ^ k
            above = omega (arith, twice, half)

pub halves : (rows : List ℕ) (chosen undecided : ℕ) → Apart chosen undecided → undecided ≢ 0 → Halves rows chosen undecided
halves rows chosen undecided node some = record {
  size = s.size;
  taken = s.taken;
  without = s.without;
  with_it = s.with_it;
  few = plans_few rows chosen (undecided / 2 + 1);
  counted = ap length both ∙ length-append left right;
  written = λ list count. ap (sets list count) both ∙ sets_append list count left right;
}
  where
    s : Split chosen undecided
    s = split chosen undecided node some

    left : List ℕ
    left = plans_in rows chosen (undecided / 2 + 1)

    right : List ℕ
    right = plans_in rows (bit_or chosen (undecided / 2 + 1)) (undecided / 2 + 1)

    both : plans_in rows chosen (undecided + 1) ≡ left ++ right
    both =
        ap (plans_in rows chosen) s.size
        ∙ plans_split rows chosen (undecided / 2 + 1) (undecided / 2 + 1)
        ∙ ap (λ (x : ℕ). left ++ plans_in rows x (undecided / 2 + 1)) (sym s.taken)
