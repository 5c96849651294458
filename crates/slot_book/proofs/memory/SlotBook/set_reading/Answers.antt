use Rattle.slot_book.proofs.Changes.{amended, never_missing, some_by}
use Rattle.slot_book.proofs.memory.SlotBook.set_reading.Goals as goal
use Rattle.std.proofs.Common.{refl, sym, ◌∙◌}

pub unwrap-k-requires : goal.unwrap-k-requires
unwrap-k-requires g c = some_by c.slot_of.result (λ e. never_missing g.R.Reading.kind c.args.self.now c.args.tag c.args.test c.args.reading c.requires (e ∙ c.slot_of.ensures.answer))

pub returns : goal.returns
returns g c =
    amended g.R.Reading.kind c.args.self.now c.args.tag c.args.test c.args.reading c.requires c.unwrap-k.result _ (sym c.unwrap-k.ensures ∙ c.slot_of.ensures.answer)
    (record { wide = refl; slotted = refl; celled = refl; same = (refl, refl) })
