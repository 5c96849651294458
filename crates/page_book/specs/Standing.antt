-- What stands in places, place by place.
use Rattle.std.proofs.Common.{◌≡◌, ℕ, zero, suc, ◌<◌, min, eqb, ◌≢◌, List, [], ◌∷◌, length, get_or, Some, None, Option, refl, ap, ◌∙◌, arith}
use Rattle.books.specs.Gathered.{Distinct, lower, standing}
use Rattle.books.specs.Meanings.{Rec}
use Rattle.books.proofs.Gathering.{Of}
use Rattle.std.proofs.lemmas.Bool.{cond-false, cond-true, eq-eqb, ne_eqb}

-- what a place has is not of this tag
abbrev pub Off : {R : Type 0} → ℕ → Option (Rec R) → Type 0
Off t o = Of (λ x. x.tag ≢ t) o

module _ {R : Type 0} where
  -- no place has the tag
  pub standing_none : (t : ℕ) (ps : List (Option (Rec R))) → ((i : ℕ) → i < length ps → Off t (get_or ps i None)) → standing t ps ≡ None
  unfolding standing
  standing_none t [] h = refl
  standing_none t (None ∷ ps) h = standing_none t ps (λ i l. h (suc i) (omega arith))
  standing_none t (Some x ∷ ps) h =
      cond-false (eqb x.tag t) (Some x) (standing t ps) (ne_eqb x.tag t (h 0 (omega arith)))
      ∙ standing_none t ps (λ i l. h (suc i) (omega arith))

  -- place k has it, and none before
  pub standing_first : (t : ℕ) (ps : List (Option (Rec R))) (k : ℕ) (x : Rec R) → get_or ps k None ≡ Some x → x.tag ≡ t
      → ((i : ℕ) → i < k → Off t (get_or ps i None)) → standing t ps ≡ Some x
  unfolding standing
  standing_first t [] k x e s h = e
  standing_first t (None ∷ ps) zero x e s h = cc
  standing_first t (Some y ∷ ps) zero x e s h =
      let same : y ≡ x = cc in
      cond-true (eqb y.tag t) (Some y) (standing t ps) (eq-eqb y.tag t (ap (λ (r : Rec R). r.tag) same ∙ s)) ∙ e
  standing_first t (None ∷ ps) (suc k) x e s h = standing_first t ps k x e s (λ i l. h (suc i) (omega arith))
  standing_first t (Some y ∷ ps) (suc k) x e s h =
      cond-false (eqb y.tag t) (Some y) (standing t ps) (ne_eqb y.tag t (h 0 (omega arith)))
      ∙ standing_first t ps k x e s (λ i l. h (suc i) (omega arith))

  -- no two places have one tag
  pub distinct_from : (ps : List (Option (Rec R))) → ((i k : ℕ) (x : Rec R) → i < k → k < length ps → get_or ps i None ≡ Some x → Off x.tag (get_or ps k None)) → Distinct ps
  unfolding Distinct
  distinct_from [] h = tt
  distinct_from (None ∷ ps) h = distinct_from ps (λ i k x l m e. h (suc i) (suc k) x (omega arith) (omega arith) e)
  distinct_from (Some y ∷ ps) h = (
    standing_none y.tag ps (λ k l. h 0 (suc k) y (omega arith) (omega arith) refl),
    distinct_from ps (λ i k x l m e. h (suc i) (suc k) x (omega arith) (omega arith) e),
  )

-- the lower of three
pub lower_assoc : (a b c : Option ℕ) → lower (lower a b) c ≡ lower a (lower b c)
lower_assoc None b c = refl
lower_assoc (Some x) None c = refl
lower_assoc (Some x) (Some y) None = refl
lower_assoc (Some x) (Some y) (Some z) = let e : min (min x y) z ≡ min x (min y z) = omega arith in ap Some e
