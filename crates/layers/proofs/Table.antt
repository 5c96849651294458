-- What the check tells of the table that an assembly is made with.
use Rattle.std.proofs.Common.{◌≡◌, ℕ, true, false, cond, List, is_some, Some, None, Option, Result, refl, ap, sym, ◌∙◌}
use Rattle.layers.specs.Assemblies.{assembly_fault, own_table, settled, wrong_part}
use Rattle.layers.specs.declared.faults.AssemblyFault.TheVariants.{Wrong}
use Rattle.layers.specs.declared.faults.AssemblyFault.{AssemblyFault}
use Rattle.refusals.specs.Faults.{passed}
use Rattle.std.proofs.lemmas.Bool.{false≢true}
use Rattle.std.specs.Option.{option_map}
use Rattle.std.specs.Result.{is_err}

-- a table that passes is right, and is the one to make the assembly with
pub passes : (table : List ℕ) (r : Result (Unit {0}) AssemblyFault) → r ≡ passed (assembly_fault table) → is_err r ≡ false
    → is_some (wrong_part table) ≡ false
passes table r e ok = go (wrong_part table) (ap is_err (sym e) ∙ ok)
  where
    go : (o : Option ℕ) → is_err (passed (option_map Wrong o)) ≡ false → is_some o ≡ false
    go None h = refl
    go (Some part) h = absurd (false≢true (sym h))

pub refuses : (table : List ℕ) (r : Result (Unit {0}) AssemblyFault) → r ≡ passed (assembly_fault table) → is_err r ≡ true
    → own_table ≡ settled table
refuses table r e bad = go (wrong_part table) (ap is_err (sym e) ∙ bad)
  where
    go : (o : Option ℕ) → is_err (passed (option_map Wrong o)) ≡ true → own_table ≡ cond (is_some o) own_table table
    go None h = absurd (false≢true h)
    go (Some part) h = refl
