-- A page with one record rewritten: still valid, and its places with one place set.
use Rattle.std.proofs.Common.{◌≡◌, ℕ, ◌+◌, ◌-◌, ◌*◌, ◌%◌, ◌<◌, ◌≤◌, true, cond, eqb, ◌≢◌, List, length, get_or, set, Some, None, Option, sym, ap, ◌∙◌, subst, inl, inr, arith}
use Rattle.books.specs.Meanings.{Rec}
use Rattle.page_book.specs.Paged.{code_is, length_codes, length_places, place_is}
use Rattle.page_book.specs.Valid.{by_valid, valid_byte, valid_formed}
use Rattle.page_book.specs.Layout.{Right, RightRecord, StandsTwice, byte_at, code_at, part_at, records_in, tag_at}
use Rattle.page_book.specs.Places.{codes_at, place_at, places, valid}
use Rattle.page_book.specs.Rewrites.{Rewritten}
use Rattle.std.proofs.lemmas.List.{ext_get_or, get_or-set_other, get_or-set_same, length-set}
use Rattle.std.proofs.lemmas.Bool.{cases_eq, cases_lt, cases_order}

-- records with the same tag, part and readings are the same place
made : ℕ → ℕ → List ℕ → Option (Rec ℕ)
made tag part readings = cond (eqb tag 0) None (Some (record { tag = tag; part = part; readings = readings }))

pub same_place : (old new : List ℕ) (width i j : ℕ) → tag_at new i ≡ tag_at old j → part_at new i ≡ part_at old j → codes_at new width i ≡ codes_at old width j
    → place_at new width i ≡ place_at old width j
unfolding place_at made
same_place old new width i j t p c =
    ap (λ n. made n (part_at new i) (codes_at new width i)) t
    ∙ ap (λ n. made (tag_at old j) n (codes_at new width i)) p
    ∙ ap (λ l. made (tag_at old j) (part_at old j) l) c

pub codes_from : (page : List ℕ) (width k : ℕ) (xs : List ℕ) → length xs ≡ width → ((j : ℕ) → j < width → code_at page k j ≡ get_or xs j 0) → codes_at page width k ≡ xs
codes_from page width k xs l h =
    ext_get_or 0 (codes_at page width k) xs (length_codes page width k ∙ sym l)
    (λ j m. let n : j < width = omega (arith, length_codes page width k) in code_is page width k j 0 n ∙ h j n)

module _ (old new : List ℕ) (width k : ℕ) (bytes : ℕ → ℕ) (v : valid old width ≡ true) (w : Rewritten old new k bytes) where
  other : (i b : ℕ) → i ≢ k → b < 32 → byte_at new i b ≡ byte_at old i b
  other i b n l =
      elim (cases_order i k) [
        | inl e ↦ absurd (n e)
        | inr (inl below) ↦ w.elsewhere (32 * i + b) (inl (omega arith))
        | inr (inr above) ↦ w.elsewhere (32 * i + b) (inr (omega arith))
      ]

  other_tag : (i : ℕ) → i ≢ k → tag_at new i ≡ tag_at old i
  other_tag i n = let a = other i 0 n (omega arith) in let b = other i 1 n (omega arith) in omega arith

  wide : width ≤ 24
  wide = (valid_formed old width v).0.1

  other_place : (i : ℕ) → i ≢ k → place_at new width i ≡ place_at old width i
  other_place i n =
      same_place old new width i i (other_tag i n) (other i 2 n (omega arith))
      (codes_from new width i (codes_at old width i) (length_codes old width i)
      (λ j l. other i (4 + j) n (omega (arith, wide)) ∙ sym (code_is old width i j 0 l)))

  pub same_count : records_in new ≡ records_in old
  same_count = let e = w.long in omega arith

  -- one place is set
  pub places_set : places new width ≡ set (places old width) k (place_at new width k)
  places_set =
      ext_get_or None (places new width) (set (places old width) k (place_at new width k))
      (length_places new width ∙ same_count ∙ sym (length_places old width) ∙ sym (length-set (places old width) k (place_at new width k)))
      at
    where
      at : (i : ℕ) → i < length (places new width) → get_or (places new width) i None ≡ get_or (set (places old width) k (place_at new width k)) i None
      at i l =
          let m : i < records_in new = omega (arith, length_places new width) in
          elim (cases_eq i k) [
            | inl e ↦
                ap (λ n. get_or (places new width) n None) e
                ∙ place_is new width k (omega (arith, same_count, w.inside))
                ∙ sym (get_or-set_same (places old width) k (place_at new width k) None (omega (arith, length_places old width, w.inside)))
                ∙ ap (λ n. get_or (set (places old width) k (place_at new width k)) n None) (sym e)
            | inr n ↦
                place_is new width i m
                ∙ other_place i n
                ∙ sym (place_is old width i (omega (arith, same_count)))
                ∙ sym (get_or-set_other (places old width) k i (place_at new width k) None n)
          ]

  -- the record is right, and its tag stands nowhere else
  module _ (small : (b : ℕ) → b < 32 → bytes b < 256) (right : RightRecord new width k)
      (alone : tag_at new k ≢ 0 → (i : ℕ) → i < records_in old → i ≢ k → tag_at old i ≢ tag_at new k) where
    byte_small : (i : ℕ) → get_or new i 0 < 256
    byte_small i =
        elim (cases_lt i (32 * k)) [
          | inl below ↦ omega (arith, w.elsewhere i (inl below), valid_byte old width v i)
          | inr from ↦
              elim (cases_lt i (32 * k + 32)) [
                | inl within ↦
                    (let e : 32 * k + (i - 32 * k) ≡ i = omega arith in
                    let b : i - 32 * k < 32 = omega arith in
                    let h = ap (λ n. get_or new n 0) (sym e) ∙ w.here (i - 32 * k) b in omega (arith, small (i - 32 * k) b))
                | inr past ↦ omega (arith, w.elsewhere i (inr past), valid_byte old width v i)
              ]
        ]

    all_right : (i : ℕ) → i < records_in new → RightRecord new width i
    all_right i l b m =
        elim (cases_eq i k) [
          | inl e ↦ subst (λ (n : ℕ). Right (tag_at new n) width b (byte_at new n b)) (sym e) (right b m)
          | inr n ↦
              (let h = (valid_formed old width v).2 i (omega (arith, same_count)) b m in
              let h' : Right (tag_at new i) width b (byte_at old i b) = subst (λ (t : ℕ). Right t width b (byte_at old i b)) (sym (other_tag i n)) h in
              subst (λ (x : ℕ). Right (tag_at new i) width b x) (sym (other i b n m)) h')
        ]

    none_twice : (j : ℕ) → j < records_in new → StandsTwice new j → ⊥
    none_twice j l (used, (i, below, same)) =
        elim (cases_eq j k) [
          | inl e ↦
              (let n : i ≢ k = λ q. (omega arith) in
              alone (λ z. used (ap (tag_at new) e ∙ z)) i (omega (arith, same_count)) n (sym (other_tag i n) ∙ same ∙ ap (tag_at new) e))
          | inr n ↦
              elim (cases_eq i k) [
                | inl e ↦
                    (let s : tag_at new k ≡ tag_at new j = ap (tag_at new) (sym e) ∙ same in
                    alone (λ z. used (sym s ∙ z)) j (omega (arith, same_count)) n (sym (other_tag j n) ∙ sym s))
                | inr m ↦
                    (valid_formed old width v).3 j (omega (arith, same_count))
                    ((λ z. used (other_tag j n ∙ z)), (i, below, sym (other_tag i m) ∙ same ∙ other_tag j n))
              ]
        ]

    pub still_valid : valid new width ≡ true
    still_valid =
        let f = valid_formed old width v in
        by_valid new width (f.0, (omega (arith, w.long, f.1.0), ap (λ n. n % 32) w.long ∙ f.1.1), all_right, none_twice) byte_small
