-- Records shown through a function that keeps their tags: showing commutes with finding, walking, inserting, removing and setting a reading.
use Rattle.std.specs.Prelude.{◌≡◌, ℕ, ◌<◌, Bool, true, false, cond, not, List, [], ◌∷◌, map, is_some, Some, None, Option, ◌==◌, nat_lt}
use Rattle.books.specs.Changes.{insert, remove, reread, reread_of}
use Rattle.books.specs.Meanings.{Rec, Rising}
use Rattle.books.specs.Questions.{find, next_tag, reading_at, reading_in}
use Rattle.std.proofs.ByRecursion.{All-map, All-weaker}
use Rattle.std.specs.Option.{option_map}
use Rattle.std.proofs.Math.Path.{ap, refl, sym}
use Rattle.std.proofs.Common.{◌∙◌}

at_cond : {X Y : Type 0} (h : X → Y) (b : Bool) (x y : X) → h (cond b x y) ≡ cond b (h x) (h y)
at_cond h true x y = refl
at_cond h false x y = refl

pub is_some_mapped : {X Y : Type 0} (f : X → Y) (o : Option X) → is_some (option_map f o) ≡ is_some o
is_some_mapped f None = refl
is_some_mapped f (Some x) = refl

module _ {R : Type 0} (f : Rec R → Rec R) (same : (x : Rec R) → (f x).tag ≡ x.tag) where
  pub find_map : (tag : ℕ) (xs : List (Rec R)) → find tag (map f xs) ≡ option_map f (find tag xs)
  unfolding find
  find_map tag [] = refl
  find_map tag (x ∷ xs) =
      ap (λ (n : ℕ). cond (n == tag) (Some (f x)) (find tag (map f xs))) (same x)
      ∙ ap (λ (o : Option (Rec R)). cond (x.tag == tag) (Some (f x)) o) (find_map tag xs)
      ∙ sym (at_cond (option_map f) (x.tag == tag) (Some x) (find tag xs))

  pub part_map : ((x : Rec R) → (f x).part ≡ x.part) → (tag : ℕ) (xs : List (Rec R))
      → option_map (λ (x : Rec R). x.part) (find tag (map f xs)) ≡ option_map (λ (x : Rec R). x.part) (find tag xs)
  part_map alike tag xs = ap (option_map (λ (x : Rec R). x.part)) (find_map tag xs) ∙ go (find tag xs)
    where
      go : (o : Option (Rec R)) → option_map (λ (x : Rec R). x.part) (option_map f o) ≡ option_map (λ (x : Rec R). x.part) o
      go None = refl
      go (Some x) = ap Some (alike x)

  -- the part of a tag, as shown
  pub part_shown : (name : ℕ → ℕ) → ((x : Rec R) → (f x).part ≡ name x.part) → (tag : ℕ) (xs : List (Rec R))
      → option_map (λ (x : Rec R). x.part) (find tag (map f xs)) ≡ option_map name (option_map (λ (x : Rec R). x.part) (find tag xs))
  part_shown name alike tag xs = ap (option_map (λ (x : Rec R). x.part)) (find_map tag xs) ∙ go (find tag xs)
    where
      go : (o : Option (Rec R)) → option_map (λ (x : Rec R). x.part) (option_map f o) ≡ option_map name (option_map (λ (x : Rec R). x.part) o)
      go None = refl
      go (Some x) = ap Some (alike x)

  -- the reading of a tag where readings are shown as they are
  pub reading_map : ((x : Rec R) → (f x).readings ≡ x.readings) → (tag test : ℕ) (xs : List (Rec R))
      → reading_in test (find tag (map f xs)) ≡ reading_in test (find tag xs)
  reading_map alike tag test xs = ap (reading_in test) (find_map tag xs) ∙ go (find tag xs)
    where
      go : (o : Option (Rec R)) → reading_in test (option_map f o) ≡ reading_in test o
      go None = refl
      go (Some x) = ap (reading_at test) (alike x)

  pub next_tag_map : (above : ℕ) (xs : List (Rec R)) → next_tag above (map f xs) ≡ next_tag above xs
  unfolding next_tag
  next_tag_map above [] = refl
  next_tag_map above (x ∷ xs) =
      ap (λ (n : ℕ). cond (nat_lt above n) (Some n) (next_tag above (map f xs))) (same x)
      ∙ ap (λ (o : Option ℕ). cond (nat_lt above x.tag) (Some x.tag) o) (next_tag_map above xs)

  pub map_insert : (x : Rec R) (ys : List (Rec R)) → map f (insert x ys) ≡ insert (f x) (map f ys)
  unfolding insert
  map_insert x [] = refl
  map_insert x (y ∷ ys) =
      at_cond (map f) (nat_lt x.tag y.tag) (x ∷ y ∷ ys) (y ∷ insert x ys)
      ∙ ap (λ (zs : List (Rec R)). cond (nat_lt x.tag y.tag) (f x ∷ f y ∷ map f ys) (f y ∷ zs)) (map_insert x ys)
      ∙ ap (λ (n : ℕ). cond (nat_lt n y.tag) (f x ∷ f y ∷ map f ys) (f y ∷ insert (f x) (map f ys))) (sym (same x))
      ∙ ap (λ (n : ℕ). cond (nat_lt (f x).tag n) (f x ∷ f y ∷ map f ys) (f y ∷ insert (f x) (map f ys))) (sym (same y))

  pub map_remove : (tag : ℕ) (xs : List (Rec R)) → map f (remove tag xs) ≡ remove tag (map f xs)
  unfolding remove
  map_remove tag [] = refl
  map_remove tag (x ∷ xs) =
      at_cond (map f) (not (x.tag == tag)) (x ∷ remove tag xs) (remove tag xs)
      ∙ ap (λ (zs : List (Rec R)). cond (not (x.tag == tag)) (f x ∷ zs) zs) (map_remove tag xs)
      ∙ ap (λ (n : ℕ). cond (not (n == tag)) (f x ∷ remove tag (map f xs)) (remove tag (map f xs))) (sym (same x))

  pub map_reread : (tag test : ℕ) (r : R) → ((x : Rec R) → f (reread test r x) ≡ reread test r (f x)) → (xs : List (Rec R))
      → map f (reread_of tag test r xs) ≡ reread_of tag test r (map f xs)
  unfolding reread_of
  map_reread tag test r e [] = refl
  map_reread tag test r e (x ∷ xs) =
      ap (λ (ys : List (Rec R)). f (cond (x.tag == tag) (reread test r x) x) ∷ ys) (map_reread tag test r e xs)
      ∙ ap (λ (y : Rec R). y ∷ reread_of tag test r (map f xs)) here
    where
      here : f (cond (x.tag == tag) (reread test r x) x) ≡ cond ((f x).tag == tag) (reread test r (f x)) (f x)
      here =
          at_cond f (x.tag == tag) (reread test r x) x
          ∙ ap (λ (y : Rec R). cond (x.tag == tag) y (f x)) (e x)
          ∙ ap (λ (n : ℕ). cond (n == tag) (reread test r (f x)) (f x)) (sym (same x))

  pub rising_map : (xs : List (Rec R)) → Rising xs → Rising (map f xs)
  rising_map [] h = tt
  rising_map (x ∷ xs) h = (
    All-map (λ y. (f x).tag < y.tag) f xs (All-weaker (λ y. x.tag < y.tag) (λ y. (f x).tag < (f y).tag) lift xs h.0),
    rising_map xs h.1,
  )
    where
      lift : (y : Rec R) → x.tag < y.tag → (f x).tag < (f y).tag
      lift y l = rw (same x, same y) l
