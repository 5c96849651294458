-- Slots with their cells: the one of slot k, and what is left where it is written.
use Rattle.std.proofs.Common.{◌≡◌, ℕ, zero, suc, ◌+◌, ◌-◌, ◌*◌, ◌<◌, ◌≤◌, List, [], ◌∷◌, ◌++◌, map, length, get_or, take, drop, set, sym, refl, ap, ◌∙◌, suc-mul, zero-mul, arith, take-add}
use Rattle.books.specs.Meanings.{Rec}
use Rattle.slot_book.specs.Slots.{cells_of, no_slot, place_of, places, put_cells, row_of, rows}
use Rattle.slot_book.specs.declared.slots.Slot.{Slot}
use Rattle.std.proofs.lemmas.List.{append_assoc, drop_at, drop-drop, length-append, length-drop, length-map, length-take-le, map-set, set-append_left, set-append_right, take-append-drop, take_at}

-- the cells of slot k are within the cells of n slots
pub within : (w n k : ℕ) → k < n → k * w + w ≤ n * w
within w zero k l = absurd (omega arith)
within w (suc n) zero l = omega (arith, zero-mul w, suc-mul n w)
within w (suc n) (suc k) l = omega (arith, suc-mul n w, suc-mul k w, within w n k (omega (arith, l)))

module _ {R : Type 0} (w : ℕ) where
  pub length_rows : (ss : List Slot) (cs : List R) → length (rows w ss cs) ≡ length ss
  unfolding rows
  length_rows [] cs = refl
  length_rows (s ∷ ss) cs = ap suc (length_rows ss (drop w cs))

  pub length_places : (ss : List Slot) (cs : List R) → length (places w ss cs) ≡ length ss
  length_places ss cs = length-map (rows w ss cs) place_of ∙ length_rows ss cs

  drop_first : (cs : List R) → drop (0 * w) cs ≡ cs
  drop_first cs = ap (λ (n : ℕ). drop n cs) (zero-mul w)

  drop_next : (k : ℕ) (cs : List R) → drop (suc k * w) cs ≡ drop (k * w) (drop w cs)
  drop_next k cs = ap (λ (n : ℕ). drop n cs) next ∙ sym (drop-drop (k * w) w cs)
    where
      next : suc k * w ≡ w + k * w
      next = omega (arith, suc-mul k w)

  pub get_d_rows : (ss : List Slot) (cs : List R) (k : ℕ) (d : Rec R) → k < length ss
      → get_or (rows w ss cs) k d ≡ row_of (get_or ss k no_slot) (cells_of w k cs)
  unfolding rows
  get_d_rows [] cs k d l = absurd (omega arith)
  get_d_rows (s ∷ ss) cs zero d l = ap (λ (xs : List R). row_of s (take w xs)) (sym (drop_first cs))
  get_d_rows (s ∷ ss) cs (suc k) d l =
      get_d_rows ss (drop w cs) k d (omega (arith, l)) ∙ ap (λ (xs : List R). row_of (get_or ss k no_slot) (take w xs)) (sym (drop_next k cs))

  -- ---- one slot written

  put_first : (new cs : List R) → put_cells w 0 new cs ≡ new ++ drop w cs
  put_first new cs = ap (λ (n : ℕ). take n cs ++ (new ++ drop (n + w) cs)) (zero-mul w) ∙ ap (λ (n : ℕ). new ++ drop n cs) same
    where
      same : 0 + w ≡ w
      same = omega arith

  put_next : (k : ℕ) (new cs : List R) → put_cells w (suc k) new cs ≡ take w cs ++ put_cells w k new (drop w cs)
  put_next k new cs =
      ap (λ (n : ℕ). take n cs ++ (new ++ drop (n + w) cs)) next
      ∙ ap (λ (xs : List R). xs ++ (new ++ drop (w + k * w + w) cs)) (take-add w (k * w) cs)
      ∙ append_assoc (take w cs) (take (k * w) (drop w cs)) (new ++ drop (w + k * w + w) cs)
      ∙ ap (λ (xs : List R). take w cs ++ (take (k * w) (drop w cs) ++ (new ++ xs))) (ap (λ (n : ℕ). drop n cs) group ∙ sym (drop-drop (k * w + w) w cs))
    where
      next : suc k * w ≡ w + k * w
      next = omega (arith, suc-mul k w)

      group : w + k * w + w ≡ w + (k * w + w)
      group = omega arith

  pub rows_set : (ss : List Slot) (cs : List R) (k : ℕ) (s : Slot) (new : List R) → k < length ss → length cs ≡ length ss * w → length new ≡ w
      → rows w (set ss k s) (put_cells w k new cs) ≡ set (rows w ss cs) k (row_of s new)
  unfolding rows
  rows_set [] cs k s new l e f = refl
  rows_set (x ∷ ss) cs zero s new l e f =
      ap (λ (xs : List R). row_of s (take w xs) ∷ rows w ss (drop w xs)) (put_first new cs)
      ∙ ap (λ (xs : List R). row_of s xs ∷ rows w ss (drop w (new ++ drop w cs))) (take_at new (drop w cs) w f)
      ∙ ap (λ (xs : List R). row_of s new ∷ rows w ss xs) (drop_at new (drop w cs) w f)
  rows_set (x ∷ ss) cs (suc k) s new l e f =
      ap (λ (xs : List R). row_of x (take w xs) ∷ rows w (set ss k s) (drop w xs)) (put_next k new cs)
      ∙ ap (λ (xs : List R). row_of x xs ∷ rows w (set ss k s) (drop w (take w cs ++ put_cells w k new (drop w cs)))) (take_at (take w cs) (put_cells w k new (drop w cs)) w first)
      ∙ ap (λ (xs : List R). row_of x (take w cs) ∷ rows w (set ss k s) xs) (drop_at (take w cs) (put_cells w k new (drop w cs)) w first)
      ∙ ap (λ (xs : List (Rec R)). row_of x (take w cs) ∷ xs) (rows_set ss (drop w cs) k s new (omega (arith, l)) rest f)
    where
      long : length cs ≡ length ss * w + w
      long = e ∙ suc-mul (length ss) w

      first : length (take w cs) ≡ w
      first = length-take-le w cs (omega (arith, long))

      rest : length (drop w cs) ≡ length ss * w
      rest = omega (arith, length-drop w cs, long)

  pub places_set : (ss : List Slot) (cs : List R) (k : ℕ) (s : Slot) (new : List R) → k < length ss → length cs ≡ length ss * w → length new ≡ w
      → places w (set ss k s) (put_cells w k new cs) ≡ set (places w ss cs) k (place_of (row_of s new))
  places_set ss cs k s new l e f =
      ap (map place_of) (rows_set ss cs k s new l e f) ∙ map-set place_of (rows w ss cs) k (row_of s new)

  pub length_cells : (cs : List R) (k : ℕ) → k * w + w ≤ length cs → length (cells_of w k cs) ≡ w
  length_cells cs k h = length-take-le w (drop (k * w) cs) (omega (arith, length-drop (k * w) cs))

  pub length_put : (cs new : List R) (k : ℕ) → k * w + w ≤ length cs → length new ≡ w → length (put_cells w k new cs) ≡ length cs
  length_put cs new k h f =
      length-append (take (k * w) cs) (new ++ drop (k * w + w) cs)
      ∙ sum
    where
      sum : length (take (k * w) cs) + length (new ++ drop (k * w + w) cs) ≡ length cs
      sum = omega (arith, length-take-le (k * w) cs (omega (arith, h)), length-append new (drop (k * w + w) cs), length-drop (k * w + w) cs, f, h)

  -- one cell set is the cells of its slot replaced
  pub set_put : (cs : List R) (k j : ℕ) (v : R) → k * w + w ≤ length cs → j < w
      → set cs (k * w + j) v ≡ put_cells w k (set (cells_of w k cs) j v) cs
  set_put cs k j v h l =
      ap (λ (xs : List R). set xs (k * w + j) v) (sym (take-append-drop (k * w) cs))
      ∙ set-append_right (take (k * w) cs) (drop (k * w) cs) (k * w) (k * w + j) v (length-take-le (k * w) cs (omega (arith, h))) (omega arith)
      ∙ ap (λ (n : ℕ). take (k * w) cs ++ set (drop (k * w) cs) n v) less
      ∙ ap (λ (xs : List R). take (k * w) cs ++ set xs j v) (sym (take-append-drop w (drop (k * w) cs)))
      ∙ ap (λ (xs : List R). take (k * w) cs ++ xs) (set-append_left (cells_of w k cs) (drop w (drop (k * w) cs)) j v (omega (arith, length_cells cs k h)))
      ∙ ap (λ (xs : List R). take (k * w) cs ++ (set (cells_of w k cs) j v ++ xs)) (drop-drop w (k * w) cs)
    where
      less : (k * w + j) - (k * w) ≡ j
      less = omega arith
