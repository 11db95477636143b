-- Blanks at the ends of a text, and the parts of a text between separators (this profile).
use Rattle.std.specs.Prelude.{ℕ, ◌==◌, ◌||◌, Bool, if◌then◌else◌, List, [], ◌∷◌, Option, Some, None}

-- a blank, a tab, CR or LF
abbrev pub is_blank : ℕ → Bool
is_blank b = b == 32 || (b == 9 || (b == 13 || b == 10))

-- without the blanks at the front
abbrev pub trimmed_front : List ℕ → List ℕ
trimmed_front [] = []
trimmed_front (b ∷ text) = if is_blank b then trimmed_front text else b ∷ text

-- a byte in front of a text from which the blanks at the end are gone
abbrev pub unless_blank : ℕ → List ℕ → List ℕ
unless_blank b [] = if is_blank b then [] else b ∷ []
unless_blank b (c ∷ text) = b ∷ c ∷ text

-- without the blanks at the end
abbrev pub trimmed_end : List ℕ → List ℕ
trimmed_end [] = []
trimmed_end (b ∷ text) = unless_blank b (trimmed_end text)

-- without the blanks at both ends
abbrev pub trimmed : List ℕ → List ℕ
trimmed text = trimmed_end (trimmed_front text)

-- what stands before the first separator, and what stands behind it where there is one
abbrev pub cut : ℕ → List ℕ → List ℕ × Option (List ℕ)
cut separator [] = ([], None)
cut separator (b ∷ text) = if b == separator then ([], Some text) else (b ∷ (cut separator text).0, (cut separator text).1)

-- a byte in front of the first part
abbrev pub with_first : ℕ → List (List ℕ) → List (List ℕ)
with_first b [] = (b ∷ []) ∷ []
with_first b (part ∷ parts) = (b ∷ part) ∷ parts

-- the parts between the separators, one more than there are separators
abbrev pub parts_between : ℕ → List ℕ → List (List ℕ)
parts_between separator [] = [] ∷ []
parts_between separator (b ∷ text) = if b == separator then [] ∷ parts_between separator text else with_first b (parts_between separator text)
