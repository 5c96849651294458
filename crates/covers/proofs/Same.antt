-- Two matrices that the same sets cover have the same plans.
use Rattle.covers.specs.Plans.{Covers, Plan}
use Rattle.covers.specs.Theorems.{Lists}
use Rattle.sets.proofs.Members.{all_in, rising_same}
use Rattle.std.proofs.Common.{◌≡◌, ℕ, List}

plan_same : (rows rows' : List ℕ) → ((s : ℕ) → Covers rows s → Covers rows' s) → ((s : ℕ) → Covers rows' s → Covers rows s)
    → (p : ℕ) → Plan rows p → Plan rows' p
plan_same rows rows' there back p (c, least) = (there p c, λ t w d. least t w (back t d))

pub same_lists : (rows rows' : List ℕ) → ((s : ℕ) → Covers rows s → Covers rows' s) → ((s : ℕ) → Covers rows' s → Covers rows s)
    → (plans plans' : List ℕ) → Lists rows plans → Lists rows' plans' → plans ≡ plans'
same_lists rows rows' there back plans plans' l k =
    rising_same plans plans' l.rising k.rising
    (λ p i. k.complete p (plan_same rows rows' there back p (all_in (Plan rows) plans p l.sound i)))
    (λ p i. l.complete p (plan_same rows' rows back there p (all_in (Plan rows') plans' p k.sound i)))
