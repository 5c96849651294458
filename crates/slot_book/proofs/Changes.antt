-- Each accepted change keeps its promise.
use Rattle.std.specs.Option.{IsSome}
use Rattle.std.proofs.Common.{◌≡◌, ℕ, ◌+◌, ◌-◌, ◌*◌, ◌<◌, ◌≤◌, true, ◌≢◌, List, ◌++◌, length, get_or, take, drop, set, replicate, is_some, Some, None, Option, sym, refl, ap, ◌∙◌, arith}
use Rattle.books.specs.Changes.{amend, enter, held_after, insert, remove, reread_of, withdraw}
use Rattle.books.specs.Gathered.{gathered}
use Rattle.books.specs.Questions.{find}
use Rattle.readings.specs.Kinds.{Kind}
use Rattle.slot_book.proofs.Asked.{book_find, book_held, book_inside}
use Rattle.slot_book.proofs.Changing.{all_used, amend_turns, amends, enter_turns, enters, no_fault, present, right_used, withdraw_turns, withdraws}
use Rattle.slot_book.specs.Rows.{length_cells, set_put, within}
use Rattle.slot_book.specs.Standing.{slot_found}
use Rattle.slot_book.specs.Valid.{facts}
use Rattle.slot_book.proofs.Writing.{means_written, valid_written}
use Rattle.slot_book.specs.Found.{slot_of}
use Rattle.slot_book.specs.Meant.{meant}
use Rattle.slot_book.specs.Rewritten.{Becomes, Made, Passes}
use Rattle.slot_book.specs.Slots.{cells_of, meaning, no_slot, places, put_cells, row_of, valid_slots}
use Rattle.slot_book.specs.declared.memory.SlotBook.{SlotBook}
use Rattle.slot_book.specs.declared.slots.Slot.{Slot}
use Rattle.std.specs.Option.{option_map}
use borrow.Rule.Slice.PartMut.{put_mid}
use Rattle.std.proofs.lemmas.List.{drop-drop, length-replicate, length-set, set-get_or}

module _ {R : Type 0} where
  means_from : (b d : SlotBook R) (slots : List Slot) (cells : List R) → Becomes b d slots cells → meant d ≡ meaning b.width slots cells
  means_from b d slots cells p =
      ap (λ (n : ℕ). meaning n d.slots.now d.cells.now) p.wide
      ∙ ap (λ (xs : List Slot). meaning b.width xs d.cells.now) p.slotted
      ∙ ap (λ (xs : List R). meaning b.width slots xs) p.celled

  -- a part of the cells written whole
  pub part_put : (w k : ℕ) (new cs xs : List R) → new ≡ xs → put_mid (k * w) (k * w + w - k * w) cs new ≡ put_cells w k xs cs
  part_put w k new cs xs e =
      ap (λ (n : ℕ). put_mid (k * w) n cs new) same
      ∙ ap (λ (ys : List R). take (k * w) cs ++ (ys ++ drop w (drop (k * w) cs))) e
      ∙ ap (λ (ys : List R). take (k * w) cs ++ (xs ++ ys)) (drop-drop w (k * w) cs)
    where
      same : k * w + w - k * w ≡ w
      same = omega arith

  pub blank_put : (b : SlotBook R) (k : ℕ) (new : List R) (blank : R) → k < length b.slots.now
      → new ≡ replicate (length (take (k * b.width + b.width - k * b.width) (drop (k * b.width) b.cells.now))) blank
      → put_mid (k * b.width) (k * b.width + b.width - k * b.width) b.cells.now new ≡ put_cells b.width k (replicate b.width blank) b.cells.now
  blank_put b k new blank l e =
      part_put b.width k new b.cells.now (replicate b.width blank) (e ∙ ap (λ (n : ℕ). replicate n blank) many)
    where
      same : k * b.width + b.width - k * b.width ≡ b.width
      same = omega arith

      many : length (take (k * b.width + b.width - k * b.width) (drop (k * b.width) b.cells.now)) ≡ b.width
      many =
          ap (λ (n : ℕ). length (take n (drop (k * b.width) b.cells.now))) same
          ∙ length_cells b.width b.cells.now k (book_inside b.slots.now b.cells.now b.width b.valid k l)

  module _ (kind : Kind R) (b : SlotBook R) where
    -- a held tag has a slot
    held_found : (tag : ℕ) → tag ≢ 0 → is_some (find tag (meant b).held) ≡ true → None ≡ slot_of tag b.slots.now → ⊥
    held_found tag nt h f =
        present (find tag (meant b).held) h
        (book_find b.slots.now b.cells.now b.width b.valid tag nt ∙ ap (option_map (λ (j : ℕ). row_of (get_or b.slots.now j no_slot) (cells_of b.width j b.cells.now))) (sym f))

    -- ---- enter

    module _ (tag part : ℕ) (rs : List R) (e : Passes kind b (enter tag part rs)) where
      pub never_full : None ≡ slot_of 0 b.slots.now → ⊥
      never_full f =
          (enters kind (meant b) tag part rs (no_fault _ tt e)).room
          (book_held b.slots.now b.cells.now b.width b.valid ∙ all_used b.slots.now (sym f))

      module _ (k : ℕ) (f : Some k ≡ slot_of 0 b.slots.now) where
        pub enter_right : (cells : List R) → cells ≡ put_cells b.width k rs b.cells.now → tag ≤ 65535
            → valid_slots (set b.slots.now k (record { tag = tag; part = part })) cells b.width ≡ true
        enter_right cells q l =
            let h = enters kind (meant b) tag part rs (no_fault _ tt e) in
            ap (λ (xs : List R). valid_slots (set b.slots.now k (record { tag = tag; part = part })) xs b.width) q
            ∙ valid_written b.slots.now b.cells.now b.width b.valid k (record { tag = tag; part = part }) rs (slot_found 0 b.slots.now k (sym f)).0 h.full
            (right_used tag part h.tagged l h.parted)
            (enter_turns b.slots.now b.cells.now b.width b.valid k tag part rs (sym f) h).1

        pub entered : (d : SlotBook R) → Becomes b d (set b.slots.now k (record { tag = tag; part = part })) (put_cells b.width k rs b.cells.now)
            → Made kind b (enter tag part rs) d
        unfolding held_after
        entered d p =
            let h = enters kind (meant b) tag part rs (no_fault _ tt e) in
            let s : Slot = record { tag = tag; part = part } in
            let i = slot_found 0 b.slots.now k (sym f) in (
              means_from b d (set b.slots.now k s) (put_cells b.width k rs b.cells.now) p
                  ∙ means_written b.slots.now b.cells.now b.width b.valid k s rs
                  (insert (record { tag = tag; part = part; readings = rs }) (gathered (places b.width b.slots.now b.cells.now)))
                  i.0 h.full
                  (enter_turns b.slots.now b.cells.now b.width b.valid k tag part rs (sym f) h).0,
              (k, i, p),
            )

    -- ---- withdraw

    module _ (tag : ℕ) (e : Passes kind b (withdraw tag)) where
      pub never_lost : None ≡ slot_of tag b.slots.now → ⊥
      never_lost f = let h = withdraws kind (meant b) tag (no_fault _ tt e) in held_found tag h.0 h.1 f

      module _ (k : ℕ) (f : Some k ≡ slot_of tag b.slots.now) where
        blanks : List R
        blanks = replicate b.width kind.blank

        pub withdraw_right : (cells : List R) → cells ≡ put_cells b.width k (replicate b.width kind.blank) b.cells.now
            → valid_slots (set b.slots.now k no_slot) cells b.width ≡ true
        unfolding blanks
        withdraw_right cells q =
            let h = withdraws kind (meant b) tag (no_fault _ tt e) in
            ap (λ (xs : List R). valid_slots (set b.slots.now k no_slot) xs b.width) q
            ∙ valid_written b.slots.now b.cells.now b.width b.valid k no_slot blanks (slot_found tag b.slots.now k (sym f)).0 (length-replicate b.width kind.blank) refl
            (withdraw_turns b.slots.now b.cells.now b.width b.valid k tag h.0 (sym f) blanks).1

        pub withdrawn : (d : SlotBook R) → Becomes b d (set b.slots.now k no_slot) (put_cells b.width k (replicate b.width kind.blank) b.cells.now)
            → Made kind b (withdraw tag) d
        unfolding held_after blanks
        withdrawn d p =
            let h = withdraws kind (meant b) tag (no_fault _ tt e) in
            let i = slot_found tag b.slots.now k (sym f) in (
              means_from b d (set b.slots.now k no_slot) (put_cells b.width k blanks b.cells.now) p
                  ∙ means_written b.slots.now b.cells.now b.width b.valid k no_slot blanks (remove tag (gathered (places b.width b.slots.now b.cells.now))) i.0
                  (length-replicate b.width kind.blank)
                  (withdraw_turns b.slots.now b.cells.now b.width b.valid k tag h.0 (sym f) blanks).0,
              (k, i, p),
            )

    -- ---- amend

    module _ (tag test : ℕ) (x : R) (e : Passes kind b (amend tag test x)) where
      pub never_missing : None ≡ slot_of tag b.slots.now → ⊥
      never_missing f = let h = amends kind (meant b) tag test x (no_fault _ tt e) in held_found tag h.0 h.3 f

      pub amended : (k : ℕ) (d : SlotBook R) → Some k ≡ slot_of tag b.slots.now
          → Becomes b d b.slots.now (set b.cells.now (k * b.width + (test - 1)) x)
          → Made kind b (amend tag test x) d
      unfolding held_after
      amended k d f p =
          let ss = b.slots.now in
          let cs = b.cells.now in
          let w = b.width in
          let h = amends kind (meant b) tag test x (no_fault _ tt e) in
          let i = slot_found tag ss k (sym f) in
          let s = get_or ss k no_slot in
          let new = set (cells_of w k cs) (test - 1) x in
          let inside : k * w + w ≤ length cs = omega (arith, within w (length ss) k i.0, (facts ss cs w b.valid).long) in
          let j : test - 1 < w = omega (arith, h.1, h.2) in (
            means_from b d ss (set cs (k * w + (test - 1)) x) p
                ∙ ap (λ (xs : List R). meaning w ss xs) (set_put w cs k (test - 1) x inside j)
                ∙ ap (λ (xs : List Slot). meaning w xs (put_cells w k new cs)) (sym (set-get_or ss k no_slot))
                ∙ means_written ss cs w b.valid k s new (reread_of tag test x (gathered (places w ss cs))) i.0
                (length-set (cells_of w k cs) (test - 1) x ∙ length_cells w cs k inside)
                (amend_turns ss cs w b.valid k tag h.0 (sym f) test x).0,
            (k, i, p),
          )

-- what can't be none is there
pub some_by : (o : Option ℕ) → (None ≡ o → ⊥) → IsSome o
some_by None n = absurd (n refl)
some_by (Some k) n = refl
