-- Streams without a rule for a table, and tables of which the streams pass ranges that don't tile (this profile).
use Rattle.std.specs.Prelude.{ℕ, ◌+◌, ◌==◌, ◌&&◌, Bool, true, false, not, is_none, is_some, List, [], ◌∷◌, ◌++◌, length, find, codes, Option, None, Some, option_and_then, if◌then◌else◌}
use Rattle.std.specs.List.{flat_map, list_all}
use Rattle.std.specs.Option.{option_map_or, option_to_list}
use Rattle.std.specs.Str.{bytes_eq}
use Rattle.serde_json.specs.Data.{Data}
use Rattle.vindex.specs.Bounds.{Bounds}
use Rattle.vindex.specs.KeyspaceId.{vindex_name}
use Rattle.filter_rule.specs.Document.{RuleSaid}
use Rattle.workflow_check.specs.Json.{items_at, text_at}
use Rattle.workflow_check.specs.Notes.{NoteValue, item_place}
use Rattle.workflow_check.specs.Rules.{rules_in, own_vindex, first_rule, names_in}
use Rattle.workflow_check.specs.Passing.{RangedValue, rows_by, range_said}
use Rattle.workflow_check.specs.declared.note.Flaw.TheVariants.{Undecided, Untiled}

-- ---- tables without a rule

abbrev pub undecided_at : List ℕ → List ℕ → NoteValue
undecided_at place table = record { place = place; flaw = Undecided; table = table }

-- the tables that none of these rules matches, of a stream at a path
abbrev pub undecided_by : List RuleSaid → List ℕ → List (List ℕ) → List NoteValue
undecided_by rules place [] = []
undecided_by rules place (table ∷ tables) = (if is_some (first_rule rules table) then [] else undecided_at place table ∷ []) ++ undecided_by rules place tables

-- those of the streams, from one on
abbrev pub undecided_in : List (List ℕ) → ℕ → List Data → List NoteValue
undecided_in tables i [] = []
undecided_in tables i (stream ∷ streams) = undecided_by (rules_in stream) (item_place (codes "streams") i) tables ++ undecided_in tables (i + 1) streams

-- ---- ranges

-- the range of a table that a stream passes, if it passes one
abbrev pub range_by : Data → Data → Option RangedValue
range_by table stream = option_and_then (range_said (own_vindex table)) (rows_by (first_rule (rules_in stream) (text_at (codes "name") table)))

-- the ranges of the streams that pass one
abbrev pub ranges_of : Data → List Data → List RangedValue
ranges_of table streams = flat_map (λ stream. option_to_list (range_by table stream)) streams

-- by the same vindex of the same column
abbrev pub is_like : RangedValue → RangedValue → Bool
is_like r s = bytes_eq r.column s.column && bytes_eq (vindex_name r.vindex) (vindex_name s.vindex)

-- any two are
abbrev pub like_all : List RangedValue → RangedValue → Bool
like_all rs r = list_all (is_like r) rs

abbrev pub are_alike : List RangedValue → Bool
are_alike rs = list_all (like_all rs) rs

abbrev pub same_end : Option (List ℕ) → Option (List ℕ) → Bool
same_end None None = true
same_end (Some end) (Some other) = bytes_eq end other
same_end _ _ = false

abbrev pub same_range : Bounds → Bounds → Bool
same_range r s = bytes_eq r.start s.start && same_end r.end s.end

-- any two are one range
abbrev pub one_with : RangedValue → RangedValue → Bool
one_with r s = same_range r.range s.range

abbrev pub one_with_all : List RangedValue → RangedValue → Bool
one_with_all rs r = list_all (one_with r) rs

abbrev pub are_one : List RangedValue → Bool
are_one rs = list_all (one_with_all rs) rs

-- the range that starts where others end
abbrev pub next_at : List RangedValue → List ℕ → Option RangedValue
next_at rs end = find (λ r. bytes_eq end r.range.start) rs

-- from where others end on, as many steps as these from one range to the next lead to the open end
abbrev pub leads : List RangedValue → List RangedValue → Option (List ℕ) → Bool
leads rs [] covered = is_none covered
leads rs (step ∷ steps) None = false
leads rs (step ∷ steps) (Some end) = option_map_or (λ r. leads rs steps r.range.end) (next_at rs end) false

-- the ranges lie end to end over all ids, in some order: from the open start on, each step to the range that starts
-- there, as many steps as ranges lead to the open end
abbrev pub are_tiles : List RangedValue → Bool
are_tiles rs = leads rs rs (Some [])

-- each stream passes a range of the table, all by one vindex of one column and not all the same, and they don't tile
abbrev pub is_untiled : Data → List Data → Bool
is_untiled table streams =
    length (ranges_of table streams) == length streams && are_alike (ranges_of table streams) && not (are_one (ranges_of table streams)) && not (are_tiles (ranges_of table streams))

abbrev pub untiled_at : List ℕ → NoteValue
untiled_at place = record { place = place; flaw = Untiled; table = [] }

-- the tables from one on of which they don't
abbrev pub untiled_in : List Data → ℕ → List Data → List NoteValue
untiled_in streams i [] = []
untiled_in streams i (table ∷ tables) = (if is_untiled table streams then untiled_at (item_place (codes "tables") i) ∷ [] else []) ++ untiled_in streams (i + 1) tables
