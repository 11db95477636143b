-- The lines that are printed of a table and a source shard (this profile).
use Rattle.std.specs.Prelude.{ℕ, Bool, true, false, List, [], ◌∷◌, ◌++◌, codes, decimal, slice_index_or}
use Rattle.std.specs.List.{flat_map}
use Rattle.shown_text.specs.Shown.{shown}
use Rattle.range_cover.specs.Cover.{MisfitValue}
use Rattle.workflow_check.specs.Passing.{range_text}
use Rattle.tiles_said.specs.Cover.{CoverValue, none, everything, unlike, shared}
use Rattle.tiles_said.specs.Sources.{SourceValue}

abbrev pub pair_text : SourceValue → List ℕ → List ℕ
pair_text source table = codes "table " ++ shown table ++ codes " shard " ++ shown source.keyspace ++ codes "/" ++ shown source.shard

-- of so many files it is so
abbrev pub fine_line : SourceValue → List ℕ → ℕ → List ℕ → List ℕ
fine_line source table n how = pair_text source table ++ codes " files " ++ decimal n ++ codes " " ++ how ++ 10 ∷ []

abbrev pub warning_line : SourceValue → List ℕ → List ℕ → List ℕ
warning_line source table what = codes "warning " ++ pair_text source table ++ codes " " ++ what ++ 10 ∷ []

-- ---- ids in no range, or in several

abbrev pub file_name : List (List ℕ) → ℕ → List ℕ
file_name files i = slice_index_or files i []

abbrev pub holder_text : List (List ℕ) → ℕ → List ℕ
holder_text files i = codes " file " ++ shown (file_name files i)

abbrev pub holders_text : List (List ℕ) → List ℕ → List ℕ
holders_text files holders = flat_map (holder_text files) holders

abbrev pub misfit_word : List ℕ → List ℕ
misfit_word [] = codes "gap "
misfit_word (holder ∷ holders) = codes "overlap "

abbrev pub misfit_text : List (List ℕ) → MisfitValue → List ℕ
misfit_text files misfit = misfit_word misfit.holders ++ range_text misfit.range ++ holders_text files misfit.holders

abbrev pub misfit_lines : List (List ℕ) → SourceValue → List ℕ → List MisfitValue → List ℕ
misfit_lines files source table misfits = flat_map (λ misfit. warning_line source table (misfit_text files misfit)) misfits

-- ---- the whole

abbrev pub shared_lines : List (List ℕ) → SourceValue → List ℕ → ℕ → List MisfitValue → List ℕ
shared_lines files source table n [] = fine_line source table n (codes "once")
shared_lines files source table n (misfit ∷ misfits) = misfit_lines files source table (misfit ∷ misfits)

abbrev pub cover_lines : List (List ℕ) → SourceValue → List ℕ → CoverValue → List ℕ
cover_lines files source table none = []
cover_lines files source table (everything n) = fine_line source table n (codes "every row")
cover_lines files source table unlike = warning_line source table (codes "ranges by other columns or vindexes")
cover_lines files source table (shared n misfits) = shared_lines files source table n misfits

abbrev pub are_some : List MisfitValue → Bool
are_some [] = false
are_some (misfit ∷ misfits) = true

-- something is wrong
abbrev pub is_faulty : CoverValue → Bool
is_faulty none = false
is_faulty (everything n) = false
is_faulty unlike = true
is_faulty (shared n misfits) = are_some misfits
