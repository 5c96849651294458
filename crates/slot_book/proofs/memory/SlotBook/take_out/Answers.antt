use Rattle.slot_book.proofs.Changes.{blank_put, never_lost, withdraw_right, withdrawn, some_by}
use Rattle.slot_book.proofs.memory.SlotBook.take_out.Goals as goal
use Rattle.std.proofs.Common.{refl, sym, ◌∙◌}

pub unwrap-k-requires : goal.unwrap-k-requires
unwrap-k-requires g c = some_by c.slot_of.result (λ e. never_lost g.R.Reading.kind c.args.self.now c.args.tag c.requires (e ∙ c.slot_of.ensures.answer))

pub invariant_of-self-2 : goal.invariant_of-self-2
invariant_of-self-2 g c =
    let b = c.args.self.now in
    record {
      valid =
          withdraw_right g.R.Reading.kind b c.args.tag c.requires c.unwrap-k.result (sym c.unwrap-k.ensures ∙ c.slot_of.ensures.answer) _
          (blank_put b c.unwrap-k.result c.blank_cells.new.cells g.R.Reading.kind.blank (rw c.unwrap-k.ensures at c.slot_of.ensures.inside) c.blank_cells.ensures);
    }

pub returns : goal.returns
returns g c =
    let b = c.args.self.now in
    withdrawn g.R.Reading.kind b c.args.tag c.requires c.unwrap-k.result (sym c.unwrap-k.ensures ∙ c.slot_of.ensures.answer) _
    (record {
      wide = refl;
      slotted = refl;
      celled = blank_put b c.unwrap-k.result c.blank_cells.new.cells g.R.Reading.kind.blank (rw c.unwrap-k.ensures at c.slot_of.ensures.inside) c.blank_cells.ensures;
      same = (refl, refl);
    })
