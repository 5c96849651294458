-- A byte of a record: the test says what the layout says, and gives the byte where it is wrong.
use Rattle.std.proofs.Common.{◌≡◌, ℕ, true, List, Some, None, inl, inr, arith}
use Rattle.page_book.specs.LowestFacts.{false_by, true_by, when_false, when_true}
use Rattle.page_book.specs.Layout.{Right, RightByte, byte_at, tag_at}
use Rattle.page_book.specs.Refused.{right_byte, wrong_at}
use Rattle.std.proofs.lemmas.Bool.{both_ways, cases_Bool, not-false, not_from_false, not_from_true, not-true}
use Rattle.std.proofs.lemmas.Bool.Decides.{nat_tests}

-- a byte that passes the test is right
pub right_by : (tag width b v : ℕ) → right_byte tag width b v ≡ true → Right tag width b v
right_by tag width b v h =
    ((λ z. grind (arith, nat_tests)), (λ n. ((λ e. (grind (arith, nat_tests), grind (arith, nat_tests))), (λ e. grind (arith, nat_tests)), (λ g l. grind (arith, nat_tests)), (λ g. grind (arith, nat_tests)))))

-- a right byte passes the test
pub by_right : (tag width b v : ℕ) → Right tag width b v → right_byte tag width b v ≡ true
by_right tag width b v h = grind (arith, nat_tests)

-- what that says of the byte, and the other way round
module _ (page : List ℕ) (width k b : ℕ) where
  pub right_at : wrong_at page width k b ≡ None → RightByte page width k b
  right_at h = right_by (tag_at page k) width b (byte_at page k b) (not-false _ (false_by _ b h))

  pub none_at : RightByte page width k b → wrong_at page width k b ≡ None
  none_at h = when_false _ b (not_from_true _ (by_right (tag_at page k) width b (byte_at page k b) h))

  pub wrong_at_lem : (c : ℕ) → wrong_at page width k b ≡ Some c → (b ≡ c) × (RightByte page width k b → ⊥)
  wrong_at_lem c h =
      let p = true_by _ b c h in
      (p.1, λ r. both_ways _ (not-true _ p.0) (by_right (tag_at page k) width b (byte_at page k b) r))

  pub some_at : (RightByte page width k b → ⊥) → wrong_at page width k b ≡ Some b
  some_at n =
      elim (cases_Bool (right_byte (tag_at page k) width b (byte_at page k b))) [
        | inl pass ↦ absurd (n (right_by (tag_at page k) width b (byte_at page k b) pass))
        | inr fail ↦ when_true _ b (not_from_false _ fail)
      ]
