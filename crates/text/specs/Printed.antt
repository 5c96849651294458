-- The three lines, byte for byte. Every line ends in a line feed.
use Rattle.std.specs.Prelude.{ℕ, Bool, cond, ◌||◌, List, [], ◌∷◌, ◌++◌, codes, decimal, ◌==◌}
use Rattle.text.specs.Sets.{tests_from}

-- byte 10
abbrev pub line_feed : List ℕ
line_feed = 10 ∷ []

-- the number of plans, and whether there were too few places for them
unfoldable pub head_line : ℕ → Bool → List ℕ
head_line count over = codes "plans " ++ decimal count ++ cond over (codes " over") [] ++ line_feed

-- each number with a space before it
abbrev pub trail : List ℕ → List ℕ
trail [] = []
trail (j ∷ js) = codes " " ++ decimal j ++ trail js

-- the numbers with one space between
abbrev pub spaced : List ℕ → List ℕ
spaced [] = []
spaced (j ∷ js) = decimal j ++ trail js

-- the same, and a dash for none
abbrev pub listed : List ℕ → List ℕ
listed [] = codes "-"
listed (j ∷ js) = spaced (j ∷ js)

-- the tests of a plan, 1 to 24, rising
unfoldable pub plan_line : ℕ → List ℕ
plan_line s = listed (tests_from 1 24 s) ++ line_feed

-- refusals 3 and 4 name a byte of a record of a page
abbrev pub of_page : ℕ → Bool
of_page number = number == 3 || number == 4

-- where in the page
unfoldable pub page_place : ℕ → ℕ → List ℕ
page_place k b = codes " record " ++ decimal k ++ codes " byte " ++ decimal b

-- a refusal by its number, with its place where it is a page's
unfoldable pub refusal_line : ℕ → ℕ → ℕ → List ℕ
refusal_line number k b = codes "refused " ++ decimal number ++ cond (of_page number) (page_place k b) [] ++ line_feed

-- for the code, which writes number by number: one more after a text of this length: only the first has no space before it
abbrev pub next_test : ℕ → ℕ → List ℕ
next_test at j = cond (at == 0) [] (codes " ") ++ decimal j
