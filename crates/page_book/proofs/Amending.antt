-- One reading set: the page is valid, and means what the change says.
use Rattle.std.proofs.Common.{◌≡◌, ℕ, ◌+◌, ◌-◌, ◌*◌, ◌<◌, ◌≤◌, true, false, eqb, ◌≢◌, List, length, get_or, set, Some, sym, refl, ap, ◌∙◌, subst, inl, inr, arith}
use Rattle.books.proofs.Gathering.{gathered_amend}
use Rattle.books.specs.Changes.{after, amend, held_after, reread, reread_of}
use Rattle.books.specs.Gathered.{gathered, standing}
use Rattle.books.specs.Meanings.{Meaning, Rec}
use Rattle.page_book.specs.Paged.{code_is, distinct_places, length_codes, length_places, place_found, place_is, place_used, standing_places}
use Rattle.page_book.proofs.Rewriting.{codes_from, places_set, same_count, still_valid}
use Rattle.page_book.specs.Valid.{valid_byte, valid_formed}
use Rattle.page_book.specs.Layout.{Right, RightRecord, byte_at, code_at, part_at, records_in, tag_at}
use Rattle.page_book.specs.Places.{codes_at, page_meaning, place_at, place_of, places, record_at, valid}
use Rattle.page_book.specs.Rewrites.{Rewritten, new_byte}
use Rattle.std.proofs.lemmas.List.{get_or-set_other, get_or-set_same, length-set}
use Rattle.std.proofs.lemmas.Bool.{cases_eq, cases_order, cond-false, cond-true, eq-eqb, ne_eqb}

pub mk : ℕ → ℕ → List ℕ → Rec ℕ
mk t p r = record { tag = t; part = p; readings = r }

-- a record by its tag, part and readings
pub record_is : (t t' p p' : ℕ) (r r' : List ℕ) → t ≡ t' → p ≡ p' → r ≡ r'
    → ◌≡◌ {A = Rec ℕ} (record { tag = t; part = p; readings = r }) (record { tag = t'; part = p'; readings = r' })
unfolding mk
record_is t t' p p' r r' a b c = ap (λ x. mk x p r) a ∙ ap (λ x. mk t' x r) b ∙ ap (λ x. mk t' p' x) c

abbrev meant : ℕ → ℕ → List (Rec ℕ) → Meaning ℕ
meant width n h = record { width = width; capacity = n; closed_test = λ _. false; closed_part = λ _. false; held = h }

-- what a page means, by its records and what they gather
pub meaning_is : (width : ℕ) (n n' : ℕ) (h h' : List (Rec ℕ)) → n ≡ n' → h ≡ h'
    → ◌≡◌ {A = Meaning ℕ} (record { width = width; capacity = n; closed_test = λ _. false; closed_part = λ _. false; held = h })
    (record { width = width; capacity = n'; closed_test = λ _. false; closed_part = λ _. false; held = h' })
meaning_is width n n' h h' a b = ap (λ x. meant width x h) a ∙ ap (λ x. meant width n' x) b

module _ (old : List ℕ) (width tag test v k : ℕ) (ok : valid old width ≡ true) (found : place_of old tag ≡ Some k) (low : 1 ≤ test) (high : test ≤ width) (small : v < 256) where
  abbrev new : List ℕ
  new = set old (32 * k + 3 + test) v

  wide : width ≤ 24
  wide = (valid_formed old width ok).0.1

  inside : 32 * k + 32 ≤ length old
  inside = omega (arith, (place_found old width tag k found).1)

  tag_at_lem : tag_at old k ≡ tag
  tag_at_lem = (place_found old width tag k found).2

  used : tag_at old k ≢ 0
  used z = (place_found old width tag k found).0 (sym tag_at_lem ∙ z)

  pub amend_rewritten : Rewritten old new k (new_byte old k (amend tag test v))
  amend_rewritten = record {
    inside = (place_found old width tag k found).1;
    long = length-set old (32 * k + 3 + test) v;
    here = λ b l.
        elim (cases_eq b (3 + test)) [
          | inl e ↦
              (let p : 32 * k + b ≡ 32 * k + 3 + test = omega arith in
              ap (λ n. get_or new n 0) p
              ∙ get_or-set_same old (32 * k + 3 + test) v 0 (omega (arith, wide, inside))
              ∙ sym (cond-true (eqb b (3 + test)) v (byte_at old k b) (eq-eqb b (3 + test) e)))
          | inr n ↦
              (let p : 32 * k + b ≢ 32 * k + 3 + test = λ q. n (omega arith) in
              get_or-set_other old (32 * k + 3 + test) (32 * k + b) v 0 p
              ∙ sym (cond-false (eqb b (3 + test)) v (byte_at old k b) (ne_eqb b (3 + test) n)))
        ];
    elsewhere = λ i h.
        get_or-set_other old (32 * k + 3 + test) i v 0
        (elim h [ inl a ↦ (λ q. omega (arith, wide)) | inr a ↦ (λ q. omega (arith, wide)) ]);
  }

  -- a byte that is not that of the test
  same_byte : (b : ℕ) → b < 32 → b ≢ 3 + test → byte_at new k b ≡ byte_at old k b
  same_byte b l n = amend_rewritten.here b l ∙ cond-false (eqb b (3 + test)) v (byte_at old k b) (ne_eqb b (3 + test) n)

  set_byte : byte_at new k (3 + test) ≡ v
  set_byte = amend_rewritten.here (3 + test) (omega (arith, wide)) ∙ cond-true (eqb (3 + test) (3 + test)) v (byte_at old k (3 + test)) (eq-eqb (3 + test) (3 + test) refl)

  same_tag : tag_at new k ≡ tag_at old k
  same_tag = let a = same_byte 0 (omega arith) (λ q. omega arith) in let b = same_byte 1 (omega arith) (λ q. omega arith) in omega arith

  new_codes : codes_at new width k ≡ set (codes_at old width k) (test - 1) v
  new_codes = codes_from new width k (set (codes_at old width k) (test - 1) v) (length-set (codes_at old width k) (test - 1) v ∙ length_codes old width k) at
    where
      at : (j : ℕ) → j < width → code_at new k j ≡ get_or (set (codes_at old width k) (test - 1) v) j 0
      at j l =
          elim (cases_eq j (test - 1)) [
            | inl e ↦
                (let p : 4 + j ≡ 3 + test = omega arith in
                ap (λ n. byte_at new k n) p ∙ set_byte
                ∙ sym (get_or-set_same (codes_at old width k) (test - 1) v 0 (omega (arith, length_codes old width k)))
                ∙ ap (λ n. get_or (set (codes_at old width k) (test - 1) v) n 0) (sym e))
            | inr n ↦
                same_byte (4 + j) (omega (arith, wide)) (λ q. n (omega arith))
                ∙ sym (get_or-set_other (codes_at old width k) (test - 1) j v 0 n ∙ code_is old width k j 0 l)
          ]

  new_place : place_at new width k ≡ Some (reread test v (record_at old width k))
  new_place =
      place_used new width k (λ z. used (sym same_tag ∙ z))
      ∙ ap Some (record_is (tag_at new k) (tag_at old k) (part_at new k) (part_at old k) (codes_at new width k) (set (codes_at old width k) (test - 1) v)
      same_tag (same_byte 2 (omega arith) (λ q. omega arith)) new_codes)

  right : RightRecord new width k
  right b l =
      elim (cases_eq b (3 + test)) [
        | inl e ↦ (
          (λ z. absurd (used (sym same_tag ∙ z))),
          (λ _. ((λ q. absurd (omega arith)), (λ q. absurd (omega arith)), (λ q r. absurd (omega arith)), (λ q. absurd (omega (arith, wide))))),
        )
        | inr n ↦
            (let h = (valid_formed old width ok).2 k (place_found old width tag k found).1 b l in
            let h' : Right (tag_at new k) width b (byte_at old k b) = subst (λ (t : ℕ). Right t width b (byte_at old k b)) (sym same_tag) h in
            subst (λ (x : ℕ). Right (tag_at new k) width b x) (sym (same_byte b l n)) h')
      ]

  small_byte : (b : ℕ) → b < 32 → new_byte old k (amend tag test v) b < 256
  small_byte b l =
      elim (cases_eq b (3 + test)) [
        | inl e ↦ omega (arith, cond-true (eqb b (3 + test)) v (byte_at old k b) (eq-eqb b (3 + test) e))
        | inr n ↦ omega (arith, cond-false (eqb b (3 + test)) v (byte_at old k b) (ne_eqb b (3 + test) n), valid_byte old width ok (32 * k + b))
      ]

  -- no other record has the tag
  alone : tag_at new k ≢ 0 → (i : ℕ) → i < records_in old → i ≢ k → tag_at old i ≢ tag_at new k
  alone n i l m e = differs (λ z. used z)
    where
      differs : (tag_at old k ≢ 0) → ⊥
      differs u =
          elim (cases_order i k) [
            | inl s ↦ m s
            | inr (inl below) ↦ (place_found old width tag k found).3 i below (e ∙ same_tag ∙ tag_at_lem)
            | inr (inr above) ↦ (valid_formed old width ok).3 i l ((λ z. u (sym same_tag ∙ sym e ∙ z)), (k, above, sym same_tag ∙ sym e))
          ]

  pub amend_valid : valid new width ≡ true
  amend_valid = still_valid old new width k (new_byte old k (amend tag test v)) ok amend_rewritten small_byte right alone

  pub amend_means : page_meaning new width ≡ after (page_meaning old width) (amend tag test v)
  unfolding held_after
  amend_means =
      meaning_is width (records_in new) (records_in old) (gathered (places new width)) (reread_of tag test v (gathered (places old width)))
      (same_count old new width k (new_byte old k (amend tag test v)) ok amend_rewritten)
      (ap gathered (places_set old new width k (new_byte old k (amend tag test v)) ok amend_rewritten ∙ ap (set (places old width) k) new_place)
      ∙ (gathered_amend (record_at old width k) test v (places old width) k
      (omega (arith, length_places old width, (place_found old width tag k found).1))
      (place_is old width k (place_found old width tag k found).1 ∙ place_used old width k used)
      (ap (λ t. standing t (places old width)) tag_at_lem ∙ standing_places old width (valid_formed old width ok) tag k found)
      (distinct_places old width (valid_formed old width ok))).0
      ∙ ap (λ t. reread_of t test v (gathered (places old width))) tag_at_lem)
