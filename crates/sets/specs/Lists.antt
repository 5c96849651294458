-- What stands in a list, and lists of numbers that rise.
use Rattle.std.specs.Prelude.{◌≡◌, ℕ, ◌<◌, ◌⊎◌, List, [], ◌∷◌}
use Rattle.std.specs.List.{AllByRecursion as Every}

-- x stands in the list, of whatever type
abbrev pub Among : {A : Type 0} → List A → A → Type 0
Among [] x = ⊥
Among (y ∷ ys) x = (y ≡ x) ⊎ Among ys x

-- the same of numbers
abbrev pub In : List ℕ → ℕ → Type 0
In = Among

-- each number is below all that follow it, so none comes twice
abbrev pub Rising : List ℕ → Type 0
Rising [] = Unit {0}
Rising (x ∷ xs) = Every (λ y. x < y) xs × Rising xs
