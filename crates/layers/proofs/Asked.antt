-- What a layer answers to a question, from what the book below answers: the records shown are those below through a function.
use Rattle.std.proofs.Common.{◌≡◌, ℕ, Bool, true, false, cond, List, Option, map, length, refl, ap, sym, ◌∙◌}
use Rattle.books.specs.Meanings.{Rec}
use Rattle.books.specs.Questions.{find, next_tag, reading_in}
use Rattle.layers.specs.Assemblies.{as_assembly, assembly_of}
use Rattle.layers.specs.Bars.{barred, covered, under_bar}
use Rattle.layers.specs.Blanks.{reading_shown}
use Rattle.layers.specs.Mapped.{next_tag_map, part_map, part_shown, reading_map}
use Rattle.readings.specs.Kinds.{Kind}
use Rattle.std.proofs.lemmas.List.{length-map}
use Rattle.std.proofs.lemmas.Iterator.Adapters.{option_map_id}
use Rattle.std.specs.Option.{option_map}

module _ {R : Type 0} (f : Rec R → Rec R) (xs : List (Rec R)) where
  pub held_told : (n : ℕ) → n ≡ length xs → n ≡ length (map f xs)
  held_told n e = e ∙ sym (length-map xs f)

  pub next_told : (above : ℕ) (o : Option ℕ) → o ≡ next_tag above xs → ((x : Rec R) → (f x).tag ≡ x.tag) → o ≡ next_tag above (map f xs)
  next_told above o e same = e ∙ sym (next_tag_map f same above xs)

-- a bar shows each part as it is
pub bar_part : {R : Type 0} (f : Rec R → Rec R) (tag : ℕ) (xs : List (Rec R)) (o : Option ℕ) → o ≡ option_map (λ (x : Rec R). x.part) (find tag xs)
    → ((x : Rec R) → (f x).tag ≡ x.tag) → ((x : Rec R) → (f x).part ≡ x.part) → o ≡ option_map (λ (x : Rec R). x.part) (find tag (map f xs))
bar_part f tag xs o e same alike = e ∙ sym (part_map f same alike tag xs)

-- and a reading as it is where the test is open, else as the blank
module _ {R : Type 0} (kind : Kind R) (tests width tag test : ℕ) (xs : List (Rec R)) (w : ℕ) (o : Option R) where
  shown_as : (b : Bool) → o ≡ reading_in test (find tag xs) → w ≡ width → b ≡ barred w tests test
      → option_map (λ (x : R). cond b kind.blank x) o ≡ reading_in test (find tag (map (under_bar kind (barred width tests)) xs))
  shown_as b below same e =
      ap (λ (c : Bool). option_map (λ (x : R). cond c kind.blank x) o) (e ∙ ap (λ (n : ℕ). barred n tests test) same)
      ∙ ap (option_map (covered kind (barred width tests) test)) below ∙ sym (reading_shown kind (barred width tests) tag test xs)

  pub bar_open : o ≡ reading_in test (find tag xs) → w ≡ width → false ≡ barred w tests test
      → o ≡ reading_in test (find tag (map (under_bar kind (barred width tests)) xs))
  bar_open below same e = sym (option_map_id o) ∙ shown_as false below same e

  pub bar_shut : (r : Option R) → o ≡ reading_in test (find tag xs) → w ≡ width → true ≡ barred w tests test
      → r ≡ option_map (λ (x : R). kind.blank) o → r ≡ reading_in test (find tag (map (under_bar kind (barred width tests)) xs))
  bar_shut r below same e told = told ∙ shown_as true below same e

-- an assembly shows each part as the assembly it belongs to
pub assembly_part_told : {R : Type 0} (table : List ℕ) (tag : ℕ) (xs : List (Rec R)) (o r : Option ℕ) → o ≡ option_map (λ (x : Rec R). x.part) (find tag xs)
    → r ≡ option_map (assembly_of table) o → r ≡ option_map (λ (x : Rec R). x.part) (find tag (map (as_assembly table) xs))
assembly_part_told table tag xs o r below told =
    told ∙ ap (option_map (assembly_of table)) below ∙ sym (part_shown (as_assembly table) (λ x. refl) (assembly_of table) (λ x. refl) tag xs)

-- and a reading as it is
pub assembly_reading : {R : Type 0} (f : Rec R → Rec R) (tag test : ℕ) (xs : List (Rec R)) (o : Option R) → o ≡ reading_in test (find tag xs)
    → ((x : Rec R) → (f x).tag ≡ x.tag) → ((x : Rec R) → (f x).readings ≡ x.readings) → o ≡ reading_in test (find tag (map f xs))
assembly_reading f tag test xs o e same alike = e ∙ sym (reading_map f same alike tag test xs)
