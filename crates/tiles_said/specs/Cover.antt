-- How files share the rows of a table from a source shard among them (this profile).
use Rattle.std.specs.Prelude.{◌≡◌, ◌⊎◌, ℕ, ◌+◌, Bool, true, false, List, [], ◌∷◌, ◌++◌, length, unwrap_or, IsTrue}
use Rattle.std.specs.List.{list_all, AllByRecursion}
use Rattle.serde_json.specs.Data.{Data}
use Rattle.vindex.specs.Bounds.{Bounds, whole, in_range}
use Rattle.vindex.specs.RangeText.{key_range_of_text}
use Rattle.range_cover.specs.Cover.{ShareValue, MisfitValue, AreMisfits, holders_of}
use Rattle.workflow_check.specs.Ranges.{is_like}
use Rattle.tiles_said.specs.Passing.{passings_of}
use Rattle.tiles_said.specs.Sources.{SourceValue, sources_from, tables_from}
use Rattle.tiles_said.specs.declared.passing.Passing.{Passing}
use Rattle.tiles_said.specs.declared.passing.Passing.TheVariants.{Absent, NoRow, EveryRow, InRange}

-- the range of a shard's own ids: all, where its name is no key range
abbrev pub own_range : List ℕ → Bounds
own_range shard = unwrap_or (key_range_of_text shard) whole

-- the ids of the rows that a file passes, with its number; every row is all ids
abbrev pub share_of : ℕ → Passing → List ShareValue
share_of i Absent = []
share_of i NoRow = []
share_of i EveryRow = record { holder = i; range = whole } ∷ []
share_of i (InRange r) = record { holder = i; range = r.range } ∷ []

-- those of files, from one on
abbrev pub shares_from : ℕ → List Passing → List ShareValue
shares_from i [] = []
shares_from i (passing ∷ passings) = share_of i passing ++ shares_from (i + 1) passings

-- the file hasn't the table, or no stream of the shard
abbrev pub is_absent : Passing → Bool
is_absent Absent = true
is_absent NoRow = false
is_absent EveryRow = false
is_absent (InRange r) = false

abbrev pub are_absent : List Passing → Bool
are_absent passings = list_all is_absent passings

-- the file passes every row, where it has the table and a stream of the shard
abbrev pub is_everything : Passing → Bool
is_everything Absent = true
is_everything NoRow = false
is_everything EveryRow = true
is_everything (InRange r) = false

abbrev pub are_everything : List Passing → Bool
are_everything passings = list_all is_everything passings

-- ranges are by the same vindex of the same column
abbrev pub is_like_passing : Passing → Passing → Bool
is_like_passing (InRange r) (InRange s) = is_like r s
is_like_passing one other = true

abbrev pub like_all : List Passing → Passing → Bool
like_all passings passing = list_all (is_like_passing passing) passings

abbrev pub are_alike : List Passing → Bool
are_alike passings = list_all (like_all passings) passings

-- ---- what is found

-- no file is concerned; so many files pass every row; ranges can't be compared; so many files pass ranges, of which
-- these ids are in none or in several
pub data CoverValue : Type 0 where
  none : CoverValue
  everything : ℕ → CoverValue
  unlike : CoverValue
  shared : ℕ → List MisfitValue → CoverValue

-- how many files pass rows
abbrev pub sharers : List Passing → ℕ
sharers passings = length (shares_from 0 passings)

-- just this is found of what files pass of a source shard
abbrev pub IsCover : SourceValue → List Passing → CoverValue → Type 0
IsCover source passings none = are_absent passings ≡ true
IsCover source passings (everything n) = (are_absent passings ≡ false) × (are_everything passings ≡ true) × (n ≡ sharers passings)
IsCover source passings unlike = (are_absent passings ≡ false) × (are_everything passings ≡ false) × (are_alike passings ≡ false)
IsCover source passings (shared n misfits) =
    (are_absent passings ≡ false) × (are_everything passings ≡ false) × (are_alike passings ≡ true) × (n ≡ sharers passings)
    × AreMisfits (own_range source.shard) (shares_from 0 passings) misfits

-- ---- what it means that nothing is wrong

-- each id of a range is in the range of just one file, all by one vindex of one column
pub record HasEachOnce (own : Bounds) (passings : List Passing) : Type 0 where
  pub alike : are_alike passings ≡ true
  pub once : (id : List ℕ) → IsTrue (in_range own id) → length (holders_of (shares_from 0 passings) id) ≡ 1

-- no file is concerned, or each file passes every row, or each id of the shard is in the range of just one file
abbrev pub IsSplit : SourceValue → List Passing → Type 0
IsSplit source passings = (are_absent passings ≡ true) ⊎ ((are_everything passings ≡ true) ⊎ HasEachOnce (own_range source.shard) passings)

-- the same of each table from each source shard of files
abbrev pub AreSplit : List Data → Type 0
AreSplit files = AllByRecursion (λ source. AllByRecursion (λ name. IsSplit source (passings_of source name files)) (tables_from [] files)) (sources_from [] files)
