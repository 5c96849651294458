-- What a book means: its width, its capacity, what is closed, and the records it holds.
use Rattle.std.specs.Prelude.{◌≡◌, ℕ, suc, ◌<◌, ◌≤◌, Bool, true, ◌&&◌, List, [], ◌∷◌, length, nat_le}
use Rattle.readings.specs.Kinds.{Kind}
use Rattle.std.specs.List.{AllByRecursion as Every}

-- a record: its tag, the part that cured the device, and one reading for each test, test 1 first
pub record Rec (R : Type 0) : Type 0 where
  pub tag : ℕ
  pub part : ℕ
  pub readings : List R

-- a book: tests and parts that are closed to changes are named by number; records are held by rising tags
pub record Meaning (R : Type 0) : Type 0 where
  pub width : ℕ
  pub capacity : ℕ
  pub closed_test : ℕ → Bool
  pub closed_part : ℕ → Bool
  pub held : List (Rec R)

-- parts are 1 to 250
abbrev pub is_part : ℕ → Bool
is_part part = nat_le 1 part && nat_le part 250

-- tests are 1 to the width
abbrev pub is_test : ℕ → ℕ → Bool
is_test width test = nat_le 1 test && nat_le test width

-- each record has a higher tag than all before it
abbrev pub Rising : {R : Type 0} → List (Rec R) → Type 0
Rising [] = Unit {0}
Rising (x ∷ xs) = Every (λ y. x.tag < y.tag) xs × Rising xs

-- the readings from this test on are blank at every closed test
abbrev pub BlankFrom : {R : Type 0} → Kind R → (ℕ → Bool) → ℕ → List R → Type 0
BlankFrom kind closed test [] = Unit {0}
BlankFrom kind closed test (x ∷ xs) = (closed test ≡ true → x ≡ kind.blank) × BlankFrom kind closed (suc test) xs

-- a record as a book may hold it
pub record Fits {R : Type 0} (kind : Kind R) (width : ℕ) (closed : ℕ → Bool) (x : Rec R) : Type 0 where
  pub tagged : (1 ≤ x.tag) × (x.tag ≤ 65535)
  pub parted : is_part x.part ≡ true
  pub full : length x.readings ≡ width
  pub blank : BlankFrom kind closed 1 x.readings

-- what holds of every book
pub record Sound {R : Type 0} (kind : Kind R) (m : Meaning R) : Type 0 where
  pub wide : (1 ≤ m.width) × (m.width ≤ 24)
  pub roomy : m.capacity ≤ 64
  pub fitting : length m.held ≤ m.capacity
  pub tests : (test : ℕ) → m.closed_test test ≡ true → is_test m.width test ≡ true
  pub parts : (part : ℕ) → m.closed_part part ≡ true → is_part part ≡ true
  pub rising : Rising m.held
  pub records : Every (Fits kind m.width m.closed_test) m.held
