use Rattle.std.proofs.Common.{◌≡◌, ℕ, ◌+◌, ◌-◌, ◌*◌, ◌%◌, ◌^◌, ◌<◌, ◌≤◌, List, length, replicate, sym, ap, ◌∙◌, zero-add, arith, pow_pos, pow_mono}
use Rattle.covers.proofs.Calls.{listed_fits, listed_not, over_fits, over_not, root}
use Rattle.covers.proofs.listing.list_plans.Goals as goal
use Rattle.covers.specs.Plans.{plans_in, plans_of}
use Rattle.std.proofs.lemmas.Nat.{one_shl}
use lib.ListN.{length-replicate}
use lib.Seq.{length-sets, sets}

-- all tests of the width, and one more, as the code computes them
whole : (width : ℕ) → width ≤ 24 → (1 * 2 ^ width) % 4294967296 - 1 + 1 ≡ 2 ^ width
whole width h = omega (arith, one_shl width 32 (omega arith), pow_pos width)

pub divide-count-requires : goal.divide-count-requires
divide-count-requires c =
    let e = whole c.args.width c.requires in
    record { node = root c.args.width _ e; small = omega (arith, e, pow_mono c.requires); few = omega arith }

pair : {a b x y : ℕ} → a ≡ x → b ≡ y → ◌≡◌ {A = ℕ × ℕ} (a, b) (x, y)
pair p q = λ i. (p i, q i)

-- what the division leaves: the count and the list, before the list is found too short
module _ (rows : List ℕ) (width : ℕ) (fair : width ≤ 24) (list start : List ℕ) (count : ℕ) (cleared : start ≡ replicate (length list) 0) where
  counted : count ≡ 0 + length (plans_in rows 0 ((1 * 2 ^ width) % 4294967296 - 1 + 1)) → count ≡ length (plans_of rows width)
  unfolding plans_of
  counted e = e ∙ zero-add (length (plans_in rows 0 ((1 * 2 ^ width) % 4294967296 - 1 + 1))) ∙ ap (λ (n : ℕ). length (plans_in rows 0 n)) (whole width fair)

  written : (now : List ℕ) → now ≡ sets start 0 (plans_in rows 0 ((1 * 2 ^ width) % 4294967296 - 1 + 1)) → now ≡ sets (replicate (length list) 0) 0 (plans_of rows width)
  unfolding plans_of
  written now e = e ∙ ap (λ (xs : List ℕ). sets xs 0 (plans_in rows 0 ((1 * 2 ^ width) % 4294967296 - 1 + 1))) cleared ∙ ap (λ (n : ℕ). sets (replicate (length list) 0) 0 (plans_in rows 0 n)) (whole width fair)

  as_long : (now : List ℕ) → now ≡ sets start 0 (plans_in rows 0 ((1 * 2 ^ width) % 4294967296 - 1 + 1)) → length now ≡ length list
  as_long now e = ap length (written now e) ∙ length-sets (replicate (length list) 0) 0 (plans_of rows width) ∙ length-replicate (length list) 0

pub returns-then-count-list : goal.returns-then-count-list
returns-then-count-list c =
    let rows = c.args.rows.now in
    let plans = plans_of rows c.args.width in
    let places = length c.args.list.now in
    let n : c.divide-count.result ≡ length plans = counted rows c.args.width c.requires c.args.list.now c.clear.new.list c.divide-count.result c.clear.ensures c.divide-count.ensures.answer in
    let long : length c.divide-count.new.list ≡ places = as_long rows c.args.width c.requires c.args.list.now c.clear.new.list c.divide-count.result c.clear.ensures c.divide-count.new.list c.divide-count.ensures.after in
    let short : places < length plans = omega (arith, c.if-count-list.true) in
    record {
      answer = pair n (sym (over_not places plans short));
      after = c.clear-then-count-list.ensures ∙ ap (λ (k : ℕ). replicate {A = ℕ} k 0) long ∙ listed_not places plans short;
    }

pub returns : goal.returns
returns c =
    let rows = c.args.rows.now in
    let plans = plans_of rows c.args.width in
    let places = length c.args.list.now in
    let n : c.divide-count.result ≡ length plans = counted rows c.args.width c.requires c.args.list.now c.clear.new.list c.divide-count.result c.clear.ensures c.divide-count.ensures.answer in
    let long : length c.divide-count.new.list ≡ places = as_long rows c.args.width c.requires c.args.list.now c.clear.new.list c.divide-count.result c.clear.ensures c.divide-count.new.list c.divide-count.ensures.after in
    let fits : length plans ≤ places = omega (arith, c.if-count-list.false) in
    record {
      answer = pair n (sym (over_fits places plans fits));
      after = written rows c.args.width c.requires c.args.list.now c.clear.new.list c.divide-count.result c.clear.ensures c.divide-count.new.list c.divide-count.ensures.after ∙ listed_fits places plans fits;
    }
