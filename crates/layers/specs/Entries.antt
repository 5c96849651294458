-- The entries of a table: what the lowest wrong one tells, and what holds of a table without one.
use Rattle.std.specs.Prelude.{◌≡◌, ℕ, ◌+◌, ◌-◌, ◌<◌, ◌≤◌, ◌⊎◌, Bool, true, false, cond, not, List, length, is_some, Some, None, Ok, Err, Option, nat_le, slice_index, slice_index_or, refl}
use Rattle.books.specs.Meanings.{is_part}
use Rattle.layers.specs.Down.{some_none}
use Rattle.layers.specs.Assemblies.{AssemblyTold, assembly_fault, assembly_of, own_table, right_entry, right_part, wrong_part}
use Rattle.layers.specs.declared.faults.AssemblyFault.TheVariants.{Wrong}
use Rattle.refusals.specs.Faults.{passed}
use Rattle.std.proofs.lemmas.Bool.{and_from, and_parts, cases_lt, cond-false, cond-true, eqb-true, false≢true, le-leb, leb-true, lt-ltb, not-false, not-true}
use Rattle.std.proofs.lemmas.List.Quantifiers.{position-Some}
use Rattle.std.proofs.lemmas.List.Sums.{fails_before_first}
use Rattle.std.specs.Option.{option_map}
use Rattle.std.specs.List.{position, position_or_len}
use Rattle.std.proofs.Common.{ap, sym, inl, inr, ◌∙◌, arith}

-- no entry is wrong where none is found
none_found : {X Y : Type 0} (f : X → Y) (o : Option X) → is_some (option_map f o) ≡ false → o ≡ None
none_found f None h = refl
none_found f (Some x) h = absurd (false≢true (sym h))

module _ (table : List ℕ) (whole : length table ≡ 250) where
  abbrev wrong : ℕ → Bool
  wrong entry = not (right_entry table entry)

  all_right : position wrong table ≡ None → (place : ℕ) → place < 250 → right_entry table (slice_index table place) ≡ true
  all_right none place l = go (cases_lt (position_or_len wrong table) (length table))
    where
      go : (position_or_len wrong table < length table) ⊎ (length table ≤ position_or_len wrong table) → right_entry table (slice_index table place) ≡ true
      go (inl found) = absurd (some_none (sym (cond-true _ _ _ (lt-ltb _ _ found)) ∙ none))
      go (inr end) = not-false _ (fails_before_first wrong table place 0 (omega arith))

  part_is : (part : ℕ) → 1 ≤ part → part ≤ 250 → is_part part ≡ true
  part_is part l h = and_from (nat_le 1 part) (nat_le part 250) (le-leb 1 part l) (le-leb part 250 h)

  -- a part's entry, by its place
  at_place : (part place : ℕ) → part ≡ place + 1 → place < 250 → right_part table part ≡ right_entry table (slice_index table place)
  at_place part place e l =
      let k : part - 1 ≡ place = omega arith in
      let one = part_is part (omega arith) (omega arith) in
      ap (right_entry table) (cond-true (is_part part) (slice_index table (part - 1)) part one ∙ ap (λ (n : ℕ). slice_index table n) k)

  -- ---- a table whose entries are right

  -- a part's assembly is right
  entry_right : position wrong table ≡ None → (part : ℕ) → is_part part ≡ true → right_entry table (slice_index table (part - 1)) ≡ true
  entry_right none part h =
      let p = and_parts (nat_le 1 part) (nat_le part 250) h in
      all_right none (part - 1) (omega (arith, leb-true 1 part p.0, leb-true part 250 p.1))

  module _ (right : is_some (wrong_part table) ≡ false) where
    entry : (part : ℕ) → is_part part ≡ true → right_entry table (slice_index table (part - 1)) ≡ true
    entry = entry_right (none_found _ (position wrong table) right)

    -- the assembly of a part is a part
    pub assembly_part : (part : ℕ) → is_part part ≡ true → is_part (assembly_of table part) ≡ true
    assembly_part part h =
        let e : assembly_of table part ≡ slice_index_or table (part - 1) 0 = cond-true (is_part part) (slice_index table (part - 1)) part h in
        ap is_part e ∙ (and_parts (is_part (slice_index table (part - 1))) _ (entry part h)).0

    -- an assembly is its own assembly
    pub assembly_twice : (part : ℕ) → assembly_of table (assembly_of table part) ≡ assembly_of table part
    assembly_twice part = go (is_part part) refl
      where
        go : (b : Bool) → is_part part ≡ b → assembly_of table (cond b (slice_index table (part - 1)) part) ≡ cond b (slice_index table (part - 1)) part
        go true e =
            eqb-true (assembly_of table (slice_index table (part - 1))) (slice_index table (part - 1))
            (and_parts (is_part (slice_index table (part - 1))) _ (entry part e)).1
        go false e = cond-false (is_part part) (slice_index table (part - 1)) part e

  -- ---- what the check tells

  wrong_told : (place : ℕ) → position wrong table ≡ Some place → AssemblyTold table (Err (Wrong (place + 1)))
  wrong_told place e =
      let found = position-Some wrong table place 0 e in
      let l : place < 250 = omega (arith, found.0) in (
        part_is (place + 1) (omega arith) (omega arith),
        at_place (place + 1) place refl l ∙ not-true _ found.1,
        λ lower first below. let k : lower - 1 < place = omega arith in
            at_place lower (lower - 1) (omega arith) (omega arith) ∙ not-false _ (found.2 (lower - 1) k),
      )

  right_told : position wrong table ≡ None → AssemblyTold table (Ok tt)
  right_told none part h =
      ap (right_entry table) (cond-true (is_part part) (slice_index table (part - 1)) part h) ∙ entry_right none part h

  pub assembly_told : AssemblyTold table (passed (assembly_fault table))
  assembly_told = go (position wrong table) refl
    where
      go : (o : Option ℕ) → position wrong table ≡ o → AssemblyTold table (passed (option_map Wrong (option_map (λ place. place + 1) o)))
      go None e = right_told e
      go (Some place) e = wrong_told place e

-- ---- the table in which each part is its own assembly

pub own_right : is_some (wrong_part own_table) ≡ false
unfolding own_table
own_right = refl
