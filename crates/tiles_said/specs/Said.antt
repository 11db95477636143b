-- What `tiles` says of workflow files, and which it refuses (this profile).
use Rattle.std.specs.Prelude.{◌≡◌, ℕ, ◌<◌, ◌||◌, Bool, false, List, [], ◌∷◌, ◌++◌, Some, IsOk, slice_get}
use Rattle.serde_json.specs.Data.{Data}
use Rattle.filter_rule.specs.Faults.{Fails}
use Rattle.filter_rule.specs.Reading.{plans_of}
use Rattle.tiles_said.specs.Cover.{CoverValue, IsCover}
use Rattle.tiles_said.specs.Lines.{cover_lines, is_faulty}
use Rattle.tiles_said.specs.Passing.{passings_of}
use Rattle.tiles_said.specs.Sources.{SourceValue, sources_from, tables_from}
use Rattle.tiles_said.specs.declared.passing.Passing.{Passing}
use Rattle.tiles_said.specs.declared.fault.TilesFault.{TilesFault}
use Rattle.tiles_said.specs.declared.fault.TilesFault.TheVariants.{Workflow, Memory}

-- ---- the files

-- a workflow's text has plans
abbrev pub IsRead : List ℕ → Type 0
IsRead text = IsOk (plans_of text)

-- a file of this number and text is refused, unless memory ran out
abbrev pub IsRefusalOf : ℕ → List ℕ → TilesFault → Type 0
IsRefusalOf number text (Workflow file fault) = (file ≡ number) × Fails fault (plans_of text)
IsRefusalOf number text Memory = Unit {0}

-- it is the first that is
pub record IsFirstRefusal (texts : List (List ℕ)) (number : ℕ) (fault : TilesFault) : Type 0 where
  pub text : List ℕ
  pub stands : slice_get texts number ≡ Some text
  pub refused : IsRefusalOf number text fault
  pub before : (i : ℕ) (other : List ℕ) → i < number → slice_get texts i ≡ Some other → IsRead other

abbrev pub IsRefusal : List (List ℕ) → TilesFault → Type 0
IsRefusal texts (Workflow file fault) = IsFirstRefusal texts file (Workflow file fault)
IsRefusal texts Memory = Unit {0}

-- ---- what is said

-- a text, and whether anything is wrong
pub record SaidValue : Type 0 where
  pub text : List ℕ
  pub told : Bool

-- what is said more of a table from a source shard
abbrev pub with_cover : List (List ℕ) → SourceValue → List ℕ → CoverValue → SaidValue → SaidValue
with_cover files source table cover said = record { text = said.text ++ cover_lines files source table cover; told = said.told || is_faulty cover }

-- what is found of what files pass of a table from a source shard is said
pub record SaysOf (names : List (List ℕ)) (source : SourceValue) (passings : List Passing) (table : List ℕ) (old new : SaidValue) : Type 0 where
  pub cover : CoverValue
  pub found : IsCover source passings cover
  pub said : new ≡ with_cover names source table cover old

abbrev pub SaysPair : List (List ℕ) → List Data → SourceValue → List ℕ → SaidValue → SaidValue → Type 0
SaysPair names files source table old new = SaysOf names source (passings_of source table files) table old new

-- a step for each of a list, one behind another
abbrev pub Through : {A V : Type 0} → (A → V → V → Type 0) → List A → V → V → Type 0
Through Step [] old new = new ≡ old
Through {A} {V} Step (x ∷ xs) old new = (between : V) × Step x old between × Through Step xs between new

-- table by table of a source shard
abbrev pub SaysSource : List (List ℕ) → List Data → List (List ℕ) → SourceValue → SaidValue → SaidValue → Type 0
SaysSource names files tables source old new = Through (SaysPair names files source) tables old new

abbrev pub nothing_said : SaidValue
nothing_said = record { text = []; told = false }

-- source shard by source shard
abbrev pub IsSaid : List (List ℕ) → List Data → SaidValue → Type 0
IsSaid names files said = Through (SaysSource names files (tables_from [] files)) (sources_from [] files) nothing_said said
