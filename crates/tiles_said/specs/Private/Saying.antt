-- What is said step by step, and the law of what isn't warned of.
use Rattle.std.specs.Prelude.{◌≡◌, ℕ, ◌||◌, Bool, true, false, List, [], ◌∷◌, ◌++◌, length, codes}
use Rattle.serde_json.specs.Data.{Data}
use Rattle.range_cover.specs.Cover.{MisfitValue}
use Rattle.tiles_said.specs.Cover.{AreSplit}
use Rattle.tiles_said.specs.Lines.{fine_line, warning_line, misfit_text}
use Rattle.tiles_said.specs.Said.{SaidValue, IsSaid}
use Rattle.tiles_said.specs.Sources.{SourceValue}

-- a line more
abbrev pub said_more : List ℕ → Bool → SaidValue → SaidValue
said_more line told said = record { text = said.text ++ line; told = said.told || told }

-- the lines of ids in no range, or in several
abbrev pub with_misfits : List (List ℕ) → SourceValue → List ℕ → List MisfitValue → SaidValue → SaidValue
with_misfits names source table [] said = said
with_misfits names source table (misfit ∷ misfits) said = with_misfits names source table misfits (said_more (warning_line source table (misfit_text names misfit)) true said)

-- the same, or that there are none
abbrev pub with_shared : List (List ℕ) → SourceValue → List ℕ → ℕ → List MisfitValue → SaidValue → SaidValue
with_shared names source table n [] said = said_more (fine_line source table n (codes "once")) false said
with_shared names source table n (misfit ∷ misfits) said = with_misfits names source table (misfit ∷ misfits) said

-- where nothing is warned of the ids are split
abbrev pub QuietTilesHaveEachIdOnce : Type 0
QuietTilesHaveEachIdOnce = (names : List (List ℕ)) (files : List Data) (said : SaidValue) → IsSaid names files said → said.told ≡ false → AreSplit files
