-- The changes: what the table lets through, and what the writes then make of the book.
use Rattle.std.proofs.Common.{◌≡◌, ℕ, suc, ◌-◌, ◌<◌, ◌≤◌, Bool, true, false, cond, ◌&&◌, eqb, leb, ◌≢◌, List, [], ◌∷◌, length, get_or, set, is_some, Some, None, Option, Ok, sym, refl, ap, ◌∙◌, subst, arith}
use Rattle.books.proofs.Gathering.{gathered_amend, gathered_enter, gathered_find, gathered_withdraw}
use Rattle.books.specs.Changes.{amend, enter, insert, refused, remove, reread, reread_of, withdraw}
use Rattle.books.specs.Gathered.{Distinct, gathered, standing}
use Rattle.books.specs.Meanings.{Meaning, Rec, is_part, is_test}
use Rattle.books.specs.Questions.{find}
use Rattle.readings.specs.Kinds.{Kind}
use Rattle.refusals.specs.Faults.{or_else, passed, when}
use Rattle.slot_book.specs.Rows.{get_d_rows, length_rows, length_places}
use Rattle.slot_book.specs.Standing.{place_none, place_some, slot_found, slot_of-cons, used-cons, standing_slot}
use Rattle.slot_book.specs.Valid.{facts}
use Rattle.slot_book.specs.Found.{slot_of, used}
use Rattle.slot_book.specs.Slots.{cells_of, meaning, no_slot, place_of, places, right_slot, row_of, rows, valid_slots}
use Rattle.slot_book.specs.declared.slots.Slot.{Slot}
use Rattle.std.proofs.lemmas.List.{get_or-map}
use Rattle.std.proofs.lemmas.Bool.{and_from, and_parts, cond-false, eqb-false, eqb-true, le-leb, leb-true, ne_eqb, not-false}
use Rattle.std.specs.Option.{option_map}

-- ---- what the table lets through

or_none : {E : Type 0} (a b : Option E) → or_else a b ≡ None → (a ≡ None) × (b ≡ None)
or_none None b e = (refl, e)
or_none (Some x) b e = cc

when_none : {E : Type 0} (t : Bool) (x : E) → when t x ≡ None → t ≡ false
when_none true x e = cc
when_none false x e = refl

absent : {A : Type 0} (o : Option A) → is_some o ≡ false → o ≡ None
absent None e = refl
absent (Some x) e = cc

pub present : {A : Type 0} (o : Option A) → is_some o ≡ true → o ≡ None → ⊥
present None e f = cc
present (Some x) e f = cc

-- what the table passed has no fault
pub no_fault : {E : Type 0} (o : Option E) (u : Unit {0}) → passed o ≡ Ok u → o ≡ None
no_fault None u e = refl
no_fault (Some x) u e = cc

pub record Enters {R : Type 0} (m : Meaning R) (tag part : ℕ) (rs : List R) : Type 0 where
  pub tagged : tag ≢ 0
  pub parted : is_part part ≡ true
  pub full : length rs ≡ m.width
  pub new : find tag m.held ≡ None
  pub room : length m.held ≡ m.capacity → ⊥

module _ {R : Type 0} (kind : Kind R) (m : Meaning R) where
  pub enters : (tag part : ℕ) (rs : List R) → refused kind m (enter tag part rs) ≡ None → Enters m tag part rs
  enters tag part rs e =
      let a = or_none _ _ e in
      let b = or_none _ _ a.0 in
      let c = or_none _ _ b.1 in
      let d = or_none _ _ a.1 in
      let f = or_none _ _ d.1 in
      record {
        tagged = eqb-false tag 0 (when_none _ _ b.0);
        parted = not-false (is_part part) (when_none _ _ c.0);
        full = eqb-true (length rs) m.width (not-false (eqb (length rs) m.width) (when_none _ _ c.1));
        new = absent (find tag m.held) (when_none _ _ f.0);
        room = eqb-false (length m.held) m.capacity (when_none _ _ f.1);
      }

  pub withdraws : (tag : ℕ) → refused kind m (withdraw tag) ≡ None → (tag ≢ 0) × (is_some (find tag m.held) ≡ true)
  withdraws tag e =
      let a = or_none _ _ e in
      (eqb-false tag 0 (when_none _ _ a.0), not-false (is_some (find tag m.held)) (when_none _ _ a.1))

  pub amends : (tag test : ℕ) (x : R) → refused kind m (amend tag test x) ≡ None
      → (tag ≢ 0) × (1 ≤ test) × (test ≤ m.width) × (is_some (find tag m.held) ≡ true)
  amends tag test x e =
      let a = or_none _ _ e in
      let b = or_none _ _ a.1 in
      let c = or_none _ _ b.1 in
      let t = and_parts (leb 1 test) (leb test m.width) (not-false (is_test m.width test) (when_none _ _ b.0)) in
      (eqb-false tag 0 (when_none _ _ a.0), leb-true 1 test t.0, leb-true test m.width t.1, not-false (is_some (find tag m.held)) (when_none _ _ c.1))

-- with no empty slot every slot is in use
pub all_used : (ss : List Slot) → slot_of 0 ss ≡ None → used ss ≡ length ss
unfolding slot_of used
all_used [] e = refl
all_used (s ∷ ss) e = used-cons s ss ∙ go (eqb s.tag 0) (sym (slot_of-cons 0 s ss) ∙ e) (λ k. all_used ss k)
  where
    later : (o : Option ℕ) → option_map suc o ≡ None → o ≡ None
    later None f = refl
    later (Some k) f = cc

    go : (b : Bool) → cond b (Some 0) (option_map suc (slot_of 0 ss)) ≡ None → (slot_of 0 ss ≡ None → used ss ≡ length ss)
        → cond b (used ss) (suc (used ss)) ≡ suc (length ss)
    go true f h = cc
    go false f h = ap suc (h (later (slot_of 0 ss) f))

-- ---- the records after the writes

module _ {R : Type 0} (ss : List Slot) (cs : List R) (w : ℕ) (v : valid_slots ss cs w ≡ true) where
  place_at : (k : ℕ) → k < length ss → get_or (places w ss cs) k None ≡ place_of (row_of (get_or ss k no_slot) (cells_of w k cs))
  place_at k l =
      let d : Rec R = row_of no_slot [] in
      get_or-map place_of (rows w ss cs) k d None (omega (arith, length_rows w ss cs)) ∙ ap place_of (get_d_rows w ss cs k d l)

  abbrev Turns : ℕ → Option (Rec R) → List (Rec R) → Type 0
  Turns k p xs = (gathered (set (places w ss cs) k p) ≡ xs) × Distinct (set (places w ss cs) k p)

  pub enter_turns : (k tag part : ℕ) (rs : List R) → slot_of 0 ss ≡ Some k → Enters (meaning w ss cs) tag part rs
      → Turns k (place_of (row_of (record { tag = tag; part = part }) rs)) (insert (record { tag = tag; part = part; readings = rs }) (gathered (places w ss cs)))
  enter_turns k tag part rs e h =
      let f = slot_found 0 ss k e in
      let d = (facts ss cs w v).distinct in
      let x : Rec R = record { tag = tag; part = part; readings = rs } in
      subst (λ (p : Option (Rec R)). Turns k p (insert x (gathered (places w ss cs)))) (sym (place_some w x h.tagged))
      (gathered_enter x (places w ss cs) k (omega (arith, f.0, length_places w ss cs))
      (place_at k f.0 ∙ place_none w (row_of (get_or ss k no_slot) (cells_of w k cs)) f.1)
      (sym (gathered_find tag (places w ss cs) d) ∙ h.new) d)

  module _ (k tag : ℕ) (nt : tag ≢ 0) (e : slot_of tag ss ≡ Some k) where
    row : Rec R
    row = row_of (get_or ss k no_slot) (cells_of w k cs)

    here : get_or (places w ss cs) k None ≡ Some row
    unfolding row
    here =
        let f = slot_found tag ss k e in
        place_at k f.0 ∙ place_some w (row_of (get_or ss k no_slot) (cells_of w k cs)) (λ z. nt (sym f.1 ∙ z))

    stands : standing row.tag (places w ss cs) ≡ Some row
    unfolding row
    stands =
        let f = slot_found tag ss k e in
        let d : Rec R = row_of no_slot [] in
        ap (λ (t : ℕ). standing t (places w ss cs)) f.1
        ∙ standing_slot w tag d nt ss cs
        ∙ ap (option_map (λ (j : ℕ). get_or (rows w ss cs) j d)) e
        ∙ ap Some (get_d_rows w ss cs k d f.0)

    pub withdraw_turns : (new : List R) → Turns k (place_of (row_of no_slot new)) (remove tag (gathered (places w ss cs)))
    unfolding row
    withdraw_turns new =
        let f = slot_found tag ss k e in
        let r = gathered_withdraw row (places w ss cs) k (omega (arith, f.0, length_places w ss cs)) here stands (facts ss cs w v).distinct in
        (r.0 ∙ ap (λ (t : ℕ). remove t (gathered (places w ss cs))) f.1, r.1)

    pub amend_turns : (test : ℕ) (x : R)
        → Turns k (place_of (row_of (get_or ss k no_slot) (set (cells_of w k cs) (test - 1) x))) (reread_of tag test x (gathered (places w ss cs)))
    unfolding row
    amend_turns test x =
        let f = slot_found tag ss k e in
        let r = gathered_amend row test x (places w ss cs) k (omega (arith, f.0, length_places w ss cs)) here stands (facts ss cs w v).distinct in
        subst (λ (p : Option (Rec R)). Turns k p (reread_of tag test x (gathered (places w ss cs))))
        (sym (place_some w (reread test x row) (λ z. nt (sym f.1 ∙ z))))
        (r.0 ∙ ap (λ (t : ℕ). reread_of t test x (gathered (places w ss cs))) f.1, r.1)

-- a slot in use is right
pub right_used : (tag part : ℕ) → tag ≢ 0 → tag ≤ 65535 → is_part part ≡ true → right_slot (record { tag = tag; part = part }) ≡ true
right_used tag part nt l p =
    cond-false (eqb tag 0) (eqb part 0) (leb tag 65535 && is_part part) (ne_eqb tag 0 nt)
    ∙ and_from (leb tag 65535) (is_part part) (le-leb tag 65535 l) p
