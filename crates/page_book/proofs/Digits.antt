-- Binary digits of a sum with a power of two.
use Rattle.std.proofs.Common.{◌≡◌, ℕ, suc, ◌+◌, ◌-◌, ◌*◌, ◌/◌, ◌%◌, ◌^◌, ◌<◌, Bool, true, false, cond, sym, ap, ◌∙◌, add-zero, mul_assoc, mul_comm, pow-suc, arith}
use Rattle.std.proofs.lemmas.Nat.{pow-add, pow_pos, shr_high}
use native.Mathlib.Nat.{add-mul-div_right, add-mul-mod_self_right, div-eq_of_lt}

-- a higher power leaves the digit at p
pub digit_high : (x p q : ℕ) → p < q → (x + 2 ^ q) / 2 ^ p % 2 ≡ x / 2 ^ p % 2
digit_high x p q l =
    let m : ℕ = q - suc p in
    let at : q ≡ m + suc p = omega arith in
    let split : 2 ^ q ≡ 2 ^ m * 2 * 2 ^ p =
    ap (λ n. 2 ^ n) at ∙ pow-add 2 m (suc p) ∙ ap (λ n. 2 ^ m * n) (pow-suc 2 p ∙ mul_comm (2 ^ p) 2)
    ∙ sym (mul_assoc (2 ^ m) 2 (2 ^ p)) in
    ap (λ n. (x + n) / 2 ^ p % 2) split
    ∙ ap (λ n. n % 2) (add-mul-div_right x (2 ^ m * 2) (pow_pos p))
    ∙ add-mul-mod_self_right (x / 2 ^ p) (2 ^ m) 2

-- the digit at q is what is added there
pub digit_top : (t : Bool) (x q : ℕ) → x < 2 ^ q → (x + cond t 0 (2 ^ q)) / 2 ^ q % 2 ≡ cond t 0 1
digit_top true x q l = ap (λ n. n / 2 ^ q % 2) (add-zero x) ∙ ap (λ n. n % 2) (div-eq_of_lt l)
digit_top false x q l =
    let e : x + 2 ^ q ≡ 1 * 2 ^ q + x = omega arith in
    ap (λ n. n / 2 ^ q % 2) e ∙ ap (λ n. n % 2) (shr_high 1 q x l)
