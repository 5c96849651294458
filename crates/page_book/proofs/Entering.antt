-- A record entered in a free one: the page is valid, and means what the change says.
use Rattle.std.proofs.Common.{◌≡◌, ℕ, ◌+◌, ◌-◌, ◌<◌, ◌≤◌, true, ◌≢◌, List, length, get_or, set, Some, None, sym, ap, ◌∙◌, arith}
use Rattle.books.proofs.Gathering.{gathered_enter}
use Rattle.books.specs.Changes.{after, enter, held_after, insert}
use Rattle.books.specs.Gathered.{gathered, standing}
use Rattle.page_book.proofs.Amending.{meaning_is, record_is}
use Rattle.page_book.specs.Paged.{distinct_places, length_places, of_places, place_absent, place_free, place_is, place_used}
use Rattle.page_book.proofs.Rewriting.{codes_from, places_set, same_count, still_valid}
use Rattle.page_book.specs.Standing.{standing_none}
use Rattle.page_book.specs.Valid.{valid_formed}
use Rattle.page_book.specs.Layout.{RightRecord, byte_at, code_at, part_at, records_in, tag_at}
use Rattle.page_book.specs.Places.{codes_at, page_meaning, place_at, place_of, places, valid}
use Rattle.page_book.specs.Rewrites.{Rewritten, entered_byte}
use Rattle.std.proofs.lemmas.List.{get_or_default, get_or_past}
use Rattle.std.proofs.lemmas.Bool.Decides.{nat_tests}

-- the bytes of a record by their place
module _ (tag part : ℕ) (readings : List ℕ) where
  at_code : (b : ℕ) → 4 ≤ b → b < 28 → entered_byte tag part readings b ≡ get_or readings (b - 4) 255
  at_code b l m = grind (arith, nat_tests)

  at_tail : (b : ℕ) → 28 ≤ b → entered_byte tag part readings b ≡ 0
  at_tail b l = grind (arith, nat_tests)

module _ (old new : List ℕ) (width tag part k : ℕ) (readings : List ℕ) (ok : valid old width ≡ true) (w : Rewritten old new k (entered_byte tag part readings))
    (small : (b : ℕ) → b < 32 → entered_byte tag part readings b < 256) (free : tag_at old k ≡ 0) (named : tag ≢ 0) (low : 1 ≤ part) (high : part ≤ 250)
    (full : length readings ≡ width) (absent : place_of old tag ≡ None) where
  wide : width ≤ 24
  wide = (valid_formed old width ok).0.1

  new_tag : tag_at new k ≡ tag
  new_tag = let a = w.here 0 (omega arith) in let b = w.here 1 (omega arith) in omega arith

  new_code : (j : ℕ) → j < 24 → code_at new k j ≡ get_or readings j 255
  new_code j l =
      let e : 4 + j - 4 ≡ j = omega arith in
      w.here (4 + j) (omega arith) ∙ at_code tag part readings (4 + j) (omega arith) (omega arith) ∙ ap (λ n. get_or readings n 255) e

  new_place : place_at new width k ≡ Some (record { tag = tag; part = part; readings = readings })
  new_place =
      place_used new width k (λ z. named (sym new_tag ∙ z))
      ∙ ap Some (record_is (tag_at new k) tag (part_at new k) part (codes_at new width k) readings new_tag (w.here 2 (omega arith))
      (codes_from new width k readings full (λ j l. new_code j (omega (arith, wide)) ∙ get_or_default readings j 255 0 (omega arith))))

  right : RightRecord new width k
  right b l = (
    (λ z. absurd (named (sym new_tag ∙ z))),
    (λ _. (
      (λ e. let h = ap (byte_at new k) e ∙ w.here 2 (omega arith) in (omega arith, omega arith)),
      (λ e. ap (byte_at new k) e ∙ w.here 3 (omega arith)),
      (λ m n. w.here b l ∙ at_code tag part readings b (omega arith) n ∙ get_or_past readings (b - 4) 255 (omega arith)),
      (λ m. w.here b l ∙ at_tail tag part readings b m),
    )),
  )

  pub enter_valid : valid new width ≡ true
  enter_valid =
      still_valid old new width k (entered_byte tag part readings) ok w small right
      (λ _ i l _ e. place_absent old width tag absent named i l (e ∙ new_tag))

  none_stands : standing tag (places old width) ≡ None
  none_stands =
      standing_none tag (places old width)
      (λ i l. let m : i < records_in old = omega (arith, length_places old width) in of_places old width (λ y. y.tag ≢ tag) i m (λ _. place_absent old width tag absent named i m))

  pub enter_means : page_meaning new width ≡ after (page_meaning old width) (enter tag part readings)
  unfolding held_after
  enter_means =
      meaning_is width (records_in new) (records_in old) (gathered (places new width))
      (insert (record { tag = tag; part = part; readings = readings }) (gathered (places old width)))
      (same_count old new width k (entered_byte tag part readings) ok w)
      (ap gathered (places_set old new width k (entered_byte tag part readings) ok w ∙ ap (set (places old width) k) new_place)
      ∙ (gathered_enter (record { tag = tag; part = part; readings = readings }) (places old width) k
      (omega (arith, length_places old width, w.inside))
      (place_is old width k w.inside ∙ place_free old width k free)
      none_stands
      (distinct_places old width (valid_formed old width ok))).0)
