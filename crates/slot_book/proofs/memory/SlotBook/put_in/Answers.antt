use Rattle.slot_book.proofs.Changes.{enter_right, entered, never_full, part_put, some_by}
use Rattle.slot_book.proofs.memory.SlotBook.put_in.Goals as goal
use Rattle.std.proofs.Common.{◌≤◌, refl, rules, sym, ◌∙◌}

pub unwrap-k-requires : goal.unwrap-k-requires
unwrap-k-requires g c = some_by c.slot_of.result (λ e. never_full g.R.Reading.kind c.args.self.now c.args.tag c.args.part c.args.readings.now c.requires (e ∙ c.slot_of.ensures.answer))

pub invariant_of-self-2 : goal.invariant_of-self-2
invariant_of-self-2 g c =
    let b = c.args.self.now in
    let few : c.args.tag ≤ 65535 = search rules in
    record {
      valid =
          enter_right g.R.Reading.kind b c.args.tag c.args.part c.args.readings.now c.requires c.unwrap-k.result (sym c.unwrap-k.ensures ∙ c.slot_of.ensures.answer) _
          (part_put b.width c.unwrap-k.result c.copy_from_slice.new.self b.cells.now c.args.readings.now c.copy_from_slice.ensures.after) few;
    }

pub returns : goal.returns
returns g c =
    let b = c.args.self.now in
    entered g.R.Reading.kind b c.args.tag c.args.part c.args.readings.now c.requires c.unwrap-k.result (sym c.unwrap-k.ensures ∙ c.slot_of.ensures.answer) _
    (record {
      wide = refl;
      slotted = refl;
      celled = part_put b.width c.unwrap-k.result c.copy_from_slice.new.self b.cells.now c.args.readings.now c.copy_from_slice.ensures.after;
      same = (refl, refl);
    })
