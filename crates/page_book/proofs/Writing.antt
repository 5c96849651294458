-- A record written: its 32 bytes are as given, and every other byte is as it was.
use Rattle.std.proofs.Common.{◌≡◌, ℕ, ◌+◌, ◌-◌, ◌*◌, ◌<◌, ◌≤◌, ◌++◌, List, length, get_or, take, drop, sym, ap, ◌∙◌, inl, inr, arith, length-append, length-drop}
use Rattle.page_book.specs.Rewrites.{Rewritten, entered_byte, entered_bytes, with_record}
use Rattle.std.proofs.lemmas.List.{drop-drop, ext_get_or, get_or-append-add, get_or-drop, get_or-take, get_or_append_left, length-take-le}
use Rattle.std.proofs.lemmas.List.FromFn.{get_or-map-range_with_len, length-map-range_with_len}
use borrow.Rule.Slice.PartMut.{put_mid}

-- what a copy into the record's bytes leaves
pub copied : (page : List ℕ) (k : ℕ) (bytes : List ℕ) → put_mid (32 * k) (32 * k + 32 - 32 * k) page bytes ≡ with_record page k bytes
unfolding with_record
copied page k bytes =
    let e : 32 * k + (32 * k + 32 - 32 * k) ≡ 32 * k + 32 = omega arith in
    ap (λ l. take (32 * k) page ++ (bytes ++ l)) (drop-drop (32 * k + 32 - 32 * k) (32 * k) page ∙ ap (λ n. drop n page) e)

module _ (page : List ℕ) (k : ℕ) (bytes : List ℕ) (inside : 32 * k + 32 ≤ length page) (full : length bytes ≡ 32) where
  front : length (take (32 * k) page) ≡ 32 * k
  front = length-take-le (32 * k) page (omega arith)

  within : (b : ℕ) → b < 32 → get_or (with_record page k bytes) (32 * k + b) 0 ≡ get_or bytes b 0
  unfolding with_record
  within b l =
      ap (λ n. get_or (take (32 * k) page ++ (bytes ++ drop (32 * k + 32) page)) (n + b) 0) (sym front)
      ∙ get_or-append-add (take (32 * k) page) (bytes ++ drop (32 * k + 32) page) b 0
      ∙ get_or_append_left bytes (drop (32 * k + 32) page) 0 b (omega arith)

  before : (i : ℕ) → i < 32 * k → get_or (with_record page k bytes) i 0 ≡ get_or page i 0
  unfolding with_record
  before i l =
      get_or_append_left (take (32 * k) page) (bytes ++ drop (32 * k + 32) page) 0 i (omega (arith, front))
      ∙ get_or-take (32 * k) page i 0 l

  after : (i : ℕ) → 32 * k + 32 ≤ i → get_or (with_record page k bytes) i 0 ≡ get_or page i 0
  unfolding with_record
  after i l =
      let j = i - (32 * k + 32) in
      let e : i ≡ length (take (32 * k) page) + (length bytes + j) = omega (arith, front) in
      let f : 32 * k + 32 + j ≡ i = omega arith in
      ap (λ n. get_or (take (32 * k) page ++ (bytes ++ drop (32 * k + 32) page)) n 0) e
      ∙ get_or-append-add (take (32 * k) page) (bytes ++ drop (32 * k + 32) page) (length bytes + j) 0
      ∙ get_or-append-add bytes (drop (32 * k + 32) page) j 0
      ∙ get_or-drop (32 * k + 32) page j 0
      ∙ ap (λ n. get_or page n 0) f

  long : length (with_record page k bytes) ≡ length page
  unfolding with_record
  long =
      let a = length-append (take (32 * k) page) (bytes ++ drop (32 * k + 32) page) in
      let b = length-append bytes (drop (32 * k + 32) page) in
      let c = length-drop (32 * k + 32) page in
      omega (arith, front)

  pub written : (f : ℕ → ℕ) → ((b : ℕ) → b < 32 → get_or bytes b 0 ≡ f b) → Rewritten page (with_record page k bytes) k f
  written f same = record {
    inside = omega arith;
    long = long;
    here = λ b l. within b l ∙ same b l;
    elsewhere = λ i h. elim h [ inl a ↦ before i a | inr a ↦ after i a ];
  }

-- the bytes of a record in use
pub entered_long : (tag part : ℕ) (readings : List ℕ) → length (entered_bytes tag part readings) ≡ 32
unfolding entered_bytes
entered_long tag part readings = length-map-range_with_len (entered_byte tag part readings) 0 32

pub entered_at : (tag part : ℕ) (readings : List ℕ) (b : ℕ) → b < 32 → get_or (entered_bytes tag part readings) b 0 ≡ entered_byte tag part readings b
unfolding entered_bytes
entered_at tag part readings b l = get_or-map-range_with_len (entered_byte tag part readings) 0 32 b b 0 l (omega arith)

pub entered_from : (tag part : ℕ) (readings bytes : List ℕ) → length bytes ≡ 32
    → ((b : ℕ) → b < 32 → get_or bytes b 0 ≡ entered_byte tag part readings b) → bytes ≡ entered_bytes tag part readings
entered_from tag part readings bytes long same =
    ext_get_or 0 bytes (entered_bytes tag part readings) (long ∙ sym (entered_long tag part readings))
    (λ b l. same b (omega arith) ∙ sym (entered_at tag part readings b (omega arith)))
