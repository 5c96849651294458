-- A change that the table lets pass: its record is there, the page with that record written is valid, and means what the change says.
use Rattle.std.proofs.Common.{◌≡◌, ℕ, ◌+◌, ◌-◌, ◌*◌, ◌<◌, ◌≤◌, true, ◌≢◌, List, get_or, position, replicate, set, Some, None, Ok, Option, sym, refl, ap, ◌∙◌, subst, arith}
use Rattle.books.specs.Changes.{after, amend, enter, refused, withdraw}
use Rattle.page_book.proofs.Allowed.{amend_allowed, enter_allowed, free_found, free_there, withdraw_allowed}
use Rattle.page_book.proofs.Amending.{amend_means, amend_rewritten, amend_valid}
use Rattle.page_book.proofs.Entering.{enter_means, enter_valid}
use Rattle.page_book.proofs.Records.{place_found}
use Rattle.page_book.proofs.Withdrawing.{withdraw_means, withdraw_valid}
use Rattle.page_book.proofs.Writing.{entered_at, entered_long, written}
use Rattle.page_book.specs.Answered.{ok_by}
use Rattle.page_book.specs.Kept.{book_means}
use Rattle.page_book.specs.Layout.{has_tag, records_in, records_of}
use Rattle.page_book.specs.Lowest.{lowest}
use Rattle.page_book.specs.Paged.{place_found as found_inside, place_lowest, place_zero}
use Rattle.page_book.specs.Places.{are_bytes, page_meaning, place_of, valid}
use Rattle.page_book.specs.Refused.{same_tag}
use Rattle.page_book.specs.Rewrites.{Rewrites, Rewritten, entered_byte, entered_bytes, new_byte, with_record}
use Rattle.page_book.specs.Valid.{byte_at_lem, valid_formed}
use Rattle.page_book.specs.declared.book.PageBook.{PageBook}
use Rattle.readings.specs.Codes.{codes}
use Rattle.refusals.specs.Faults.{passed}
use Rattle.std.proofs.lemmas.Simd.{get_or-replicate}
use Rattle.std.specs.Option.{unwrap_or}

-- where the lowest record of a tag stands
abbrev Spot : List ℕ → ℕ → Option ℕ
Spot page tag = position (has_tag tag) (records_of page)

there : (o : Option ℕ) → o ≢ None → (k : ℕ) × (o ≡ Some k)
there None n = absurd (n refl)
there (Some k) n = (k, refl)

-- of a tag in use it is its place
in_use_spot : (page : List ℕ) (tag : ℕ) → place_of page tag ≢ None → (k : ℕ) × (place_of page tag ≡ Some k) × (Spot page tag ≡ Some k)
in_use_spot page tag n =
    let p = there (place_of page tag) n in
    (p.0, p.1, place_found page tag ∙ sym (place_lowest page 0 tag (λ z. n (place_zero page 0 tag z))) ∙ p.1)

some_not : (o : Option ℕ) (k : ℕ) → o ≡ Some k → o ≢ None
some_not o k e n = let q = sym e ∙ n in cc

zeros : (b : ℕ) → b < 32 → get_or {A = ℕ} (replicate 32 0) b 0 ≡ 0
zeros b l = get_or-replicate 32 b 0 0 l

module _ (b : PageBook) (tag : ℕ) (h : passed (refused codes (book_means b) (withdraw tag)) ≡ Ok tt) where
  withdraw_spot : (k : ℕ) × (place_of b.page.now tag ≡ Some k) × (Spot b.page.now tag ≡ Some k)
  withdraw_spot = in_use_spot b.page.now tag (withdraw_allowed b.page.now b.width b.valid tag (ok_by _ h))

  withdraw_written : Rewritten b.page.now (with_record b.page.now withdraw_spot.0 (replicate 32 0)) withdraw_spot.0 (λ _. 0)
  withdraw_written =
      written b.page.now withdraw_spot.0 (replicate 32 0)
      (omega (arith, (found_inside b.page.now b.width tag withdraw_spot.0 withdraw_spot.1).1)) refl (λ _. 0) zeros

-- the first part only names the answer of the table
pub withdraw_told : (b : PageBook) (tag : ℕ)
    → (passed (refused codes (book_means b) (withdraw tag)) ≡ passed (refused codes (book_means b) (withdraw tag)))
    × (passed (refused codes (book_means b) (withdraw tag)) ≡ Ok tt
    → (Spot b.page.now tag ≢ None)
    × (valid (with_record b.page.now (unwrap_or (Spot b.page.now tag) 0) (replicate 32 0)) b.width ≡ true)
    × (page_meaning (with_record b.page.now (unwrap_or (Spot b.page.now tag) 0) (replicate 32 0)) b.width ≡ after (book_means b) (withdraw tag)))
withdraw_told b tag = (
  refl,
  λ h.
      let p = withdraw_spot b tag h in
      let w = withdraw_written b tag h in
      let new = with_record b.page.now p.0 (replicate 32 0) in (
        some_not _ p.0 p.2,
        ap (λ (o : Option ℕ). valid (with_record b.page.now (unwrap_or o 0) (replicate 32 0)) b.width) p.2
            ∙ withdraw_valid b.page.now new b.width tag p.0 b.valid p.1 w,
        ap (λ (o : Option ℕ). page_meaning (with_record b.page.now (unwrap_or o 0) (replicate 32 0)) b.width) p.2
            ∙ withdraw_means b.page.now new b.width tag p.0 b.valid p.1 w,
      ),
)

pub withdraw_rewrites : (b : PageBook) (tag : ℕ) (new : List ℕ) → passed (refused codes (book_means b) (withdraw tag)) ≡ Ok tt
    → new ≡ with_record b.page.now (unwrap_or (Spot b.page.now tag) 0) (replicate 32 0) → Rewrites b.page.now (withdraw tag) new
unfolding Rewrites
withdraw_rewrites b tag new h e =
    let p = withdraw_spot b tag h in
    let f = found_inside b.page.now b.width tag p.0 p.1 in
    let now = e ∙ ap (λ (o : Option ℕ). with_record b.page.now (unwrap_or o 0) (replicate 32 0)) p.2 in
    (p.0, f.2, f.3, subst (λ (l : List ℕ). Rewritten b.page.now l p.0 (λ _. 0)) (sym now) (withdraw_written b tag h))

free_spot : (b : PageBook) (tag part : ℕ) (readings : List ℕ) → passed (refused codes (book_means b) (enter tag part readings)) ≡ Ok tt
    → (k : ℕ) × (lowest (same_tag b.page.now 0) (records_in b.page.now) ≡ Some k) × (Spot b.page.now 0 ≡ Some k)
free_spot b tag part readings h =
    let a = enter_allowed b.page.now b.width b.valid tag part readings (ok_by _ h) in
    let p = there _ (free_there b.page.now b.width b.valid a.5) in
    (p.0, p.1, place_found b.page.now 0 ∙ p.1)

enter_written : (b : PageBook) (tag part k : ℕ) (readings : List ℕ) → k < records_in b.page.now
    → Rewritten b.page.now (with_record b.page.now k (entered_bytes tag part readings)) k (entered_byte tag part readings)
enter_written b tag part k readings l =
    written b.page.now k (entered_bytes tag part readings) (omega arith) (entered_long tag part readings) (entered_byte tag part readings)
    (entered_at tag part readings)

pub enter_told : (b : PageBook) (tag part : ℕ) (readings : List ℕ)
    → (passed (refused codes (book_means b) (enter tag part readings)) ≡ passed (refused codes (book_means b) (enter tag part readings)))
    × (passed (refused codes (book_means b) (enter tag part readings)) ≡ Ok tt → Spot b.page.now 0 ≢ None)
    × (passed (refused codes (book_means b) (enter tag part readings)) ≡ Ok tt → are_bytes (entered_bytes tag part readings) ≡ true
    → (valid (with_record b.page.now (unwrap_or (Spot b.page.now 0) 0) (entered_bytes tag part readings)) b.width ≡ true)
    × (page_meaning (with_record b.page.now (unwrap_or (Spot b.page.now 0) 0) (entered_bytes tag part readings)) b.width ≡ after (book_means b) (enter tag part readings)))
enter_told b tag part readings = (
  refl,
  (λ h. let p = free_spot b tag part readings h in some_not _ p.0 p.2),
  (λ h s.
      let p = free_spot b tag part readings h in
      let a = enter_allowed b.page.now b.width b.valid tag part readings (ok_by _ h) in
      let f = free_found b.page.now b.width b.valid p.0 p.1 in
      let w = enter_written b tag part p.0 readings f.0 in
      let new = with_record b.page.now p.0 (entered_bytes tag part readings) in
      let small : (i : ℕ) → i < 32 → entered_byte tag part readings i < 256 =
      λ i l. subst (λ (n : ℕ). n < 256) (entered_at tag part readings i l) (byte_at_lem (entered_bytes tag part readings) s i) in (
        ap (λ (o : Option ℕ). valid (with_record b.page.now (unwrap_or o 0) (entered_bytes tag part readings)) b.width) p.2
            ∙ enter_valid b.page.now new b.width tag part p.0 readings b.valid w small f.1 a.0 a.1 a.2 a.3 a.4,
        ap (λ (o : Option ℕ). page_meaning (with_record b.page.now (unwrap_or o 0) (entered_bytes tag part readings)) b.width) p.2
            ∙ enter_means b.page.now new b.width tag part p.0 readings b.valid w small f.1 a.0 a.1 a.2 a.3 a.4,
      )),
)

pub enter_rewrites : (b : PageBook) (tag part : ℕ) (readings new : List ℕ) → passed (refused codes (book_means b) (enter tag part readings)) ≡ Ok tt
    → new ≡ with_record b.page.now (unwrap_or (Spot b.page.now 0) 0) (entered_bytes tag part readings) → Rewrites b.page.now (enter tag part readings) new
unfolding Rewrites
enter_rewrites b tag part readings new h e =
    let p = free_spot b tag part readings h in
    let f = free_found b.page.now b.width b.valid p.0 p.1 in
    let now = e ∙ ap (λ (o : Option ℕ). with_record b.page.now (unwrap_or o 0) (entered_bytes tag part readings)) p.2 in
    (p.0, f.1, f.2, subst (λ (l : List ℕ). Rewritten b.page.now l p.0 (entered_byte tag part readings)) (sym now) (enter_written b tag part p.0 readings f.0))

-- where the reading of a test stands, in the record at a place
abbrev Reading : Option ℕ → ℕ → ℕ
Reading o test = 32 * unwrap_or o 0 + 4 + test - 1

module _ (b : PageBook) (tag test v : ℕ) (h : passed (refused codes (book_means b) (amend tag test v)) ≡ Ok tt) where
  amend_ok : (1 ≤ test) × (test ≤ b.width) × (place_of b.page.now tag ≢ None)
  amend_ok = amend_allowed b.page.now b.width b.valid tag test v (ok_by _ h)

  amend_spot : (k : ℕ) × (place_of b.page.now tag ≡ Some k) × (Spot b.page.now tag ≡ Some k)
  amend_spot = in_use_spot b.page.now tag amend_ok.2

  amend_here : set b.page.now (Reading (Spot b.page.now tag) test) v ≡ set b.page.now (32 * amend_spot.0 + 3 + test) v
  amend_here =
      let e : 32 * amend_spot.0 + 4 + test - 1 ≡ 32 * amend_spot.0 + 3 + test = omega (arith, amend_ok.0) in
      ap (λ (o : Option ℕ). set b.page.now (Reading o test) v) amend_spot.2 ∙ ap (λ n. set b.page.now n v) e

-- the table does not ask for the reading itself
pub amend_told : (b : PageBook) (tag test : ℕ)
    → (passed (refused codes (book_means b) (amend tag test 0)) ≡ passed (refused codes (book_means b) (amend tag test 0)))
    × (passed (refused codes (book_means b) (amend tag test 0)) ≡ Ok tt → (Spot b.page.now tag ≢ None) × (1 ≤ test) × (test ≤ 24))
    × ((v : ℕ) → v < 256 → passed (refused codes (book_means b) (amend tag test 0)) ≡ Ok tt
    → (valid (set b.page.now (Reading (Spot b.page.now tag) test) v) b.width ≡ true)
    × (page_meaning (set b.page.now (Reading (Spot b.page.now tag) test) v) b.width ≡ after (book_means b) (amend tag test v)))
amend_told b tag test = (
  refl,
  (λ h.
      let a = amend_ok b tag test 0 h in
      let p = amend_spot b tag test 0 h in
      (some_not _ p.0 p.2, a.0, omega (arith, a.1, (valid_formed b.page.now b.width b.valid).0.1))),
  (λ v s h.
      let a = amend_ok b tag test v h in
      let p = amend_spot b tag test v h in
      let e = amend_here b tag test v h in (
        ap (λ (l : List ℕ). valid l b.width) e ∙ amend_valid b.page.now b.width tag test v p.0 b.valid p.1 a.0 a.1 s,
        ap (λ (l : List ℕ). page_meaning l b.width) e ∙ amend_means b.page.now b.width tag test v p.0 b.valid p.1 a.0 a.1 s,
      )),
)

pub amend_rewrites : (b : PageBook) (tag test v : ℕ) (new : List ℕ) → passed (refused codes (book_means b) (amend tag test v)) ≡ Ok tt → v < 256
    → new ≡ set b.page.now (Reading (Spot b.page.now tag) test) v → Rewrites b.page.now (amend tag test v) new
unfolding Rewrites
amend_rewrites b tag test v new h s e =
    let a = amend_ok b tag test v h in
    let p = amend_spot b tag test v h in
    let f = found_inside b.page.now b.width tag p.0 p.1 in (
      p.0,
      f.2,
      f.3,
      subst (λ (l : List ℕ). Rewritten b.page.now l p.0 (new_byte b.page.now p.0 (amend tag test v))) (sym (e ∙ amend_here b tag test v h))
          (amend_rewritten b.page.now b.width tag test v p.0 b.valid p.1 a.0 a.1 s),
    )

-- ---- what each change needs

pub ruleset entering = (enter_told, enter_rewrites)

pub ruleset withdrawing = (withdraw_told, withdraw_rewrites)

pub ruleset amending = (amend_told, amend_rewrites)
