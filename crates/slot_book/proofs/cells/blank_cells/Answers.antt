use Rattle.slot_book.proofs.Opening.{folds_same}
use Rattle.slot_book.proofs.cells.blank_cells.Goals as goal
use Rattle.std.proofs.Common.{rules}

pub returns : goal.returns
returns g c =
    let r = c.fill_with.ensures.ran in
    folds_same _ g.R.Reading.kind.blank c.fill_with.new.self _ r.0 r.1 (λ u y v s. search rules) _ c.fill_with.ensures.len
