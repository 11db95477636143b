-- A law of numbers and their texts.
use Rattle.std.specs.Prelude.{◌≡◌, ℤ, Some}
use Rattle.vindex.specs.NumberText.{IsNumber, number_of_text, shortest_text}

-- the shortest text of a number is read as this number
abbrev pub ShortestTextsAreReadBack : Type 0
ShortestTextsAreReadBack = (value : ℤ) → IsNumber value → number_of_text (shortest_text value) ≡ Some value
