use Rattle.layers.proofs.assembly.own_table.Goals as goal
use Rattle.layers.specs.Assemblies.{own_table}
use Rattle.std.proofs.Common.{◌+◌, rules}
use Rattle.std.proofs.lemmas.List.FromFn.{fill_by_all}

pub returns : goal.returns
unfolding own_table
returns c =
    let items = c.from_fn.ensures.items in
    fill_by_all (λ place. place + 1) _ 250 0 items.long (λ place l. let at = items.at place 0 l in search rules)
