-- All that `check` tells, as items of one list (this profile).
use Rattle.std.specs.Prelude.{ℕ, zero, suc, ◌+◌, ◌==◌, ◌&&◌, Bool, List, [], ◌∷◌, ◌++◌, Option, None, Some, codes, length, slice_get, if◌then◌else◌}
use Rattle.std.specs.List.{count_by, flat_map}
use Rattle.filter_rule.specs.PlanTable.{TableValue, name_of_table}
use Rattle.source_feed.specs.GroupValue.{Position}
use Rattle.source_feed.specs.Touches.{PreparedValue}
use Rattle.feed_check.specs.Base.{base_rows}
use Rattle.feed_check.specs.Checked.{CheckedValue, touching, passing_groups}
use Rattle.feed_check.specs.Findings.{FindingValue}
use Rattle.feed_check.specs.Report.{is_start, same_why, tables_of, why_text}
use Rattle.feed_check.specs.Shared.{SharedValue, shared_of}
use Rattle.feed_check.specs.declared.finding.Doubt.{Doubt}
use Rattle.feed_check.specs.declared.finding.Doubt.TheVariants.{NoRow, OtherRow, RowThere, Moved}
use Rattle.check_said.specs.declared.items.Class.{Class}
use Rattle.check_said.specs.declared.items.Class.TheVariants.{Fault, Note}

-- what is told of a stream's feed: whether it is a fault, of which kind, the table, empty where it is of none, the position
-- where it says one, and how many there are of it
pub record ItemValue : Type 0 where
  pub class : Class
  pub kind : List ℕ
  pub stream : ℕ
  pub table : List ℕ
  pub position : Option Position
  pub count : ℕ

-- an item, where there is any of it
abbrev pub item_if : ItemValue → List ItemValue
item_if item = if item.count == 0 then [] else item ∷ []

abbrev pub in_stream : ℕ → Class → List ℕ → List ℕ → ℕ → List ItemValue
in_stream i class kind table count = item_if (record { class = class; kind = kind; stream = i; table = table; position = None; count = count })

-- one, where there is nothing of what there has to be
abbrev pub none_of : ℕ → ℕ
none_of zero = 1
none_of (suc n) = 0

-- one, where some groups touch a table and none of them puts a row that passes
abbrev pub passes_none : ℕ → ℕ → ℕ
passes_none zero m = 0
passes_none (suc n) m = none_of m

-- how many changes of a table are told for a reason
abbrev pub is_told : Doubt → ℕ → FindingValue → Bool
is_told why t found = same_why why found.why && found.key.table == t

abbrev pub told_of : Doubt → ℕ → List FindingValue → ℕ
told_of why t findings = count_by (is_told why t) findings

-- ---- a stream

abbrev pub changes_items : ℕ → CheckedValue → ℕ → List ℕ → List ItemValue
changes_items i check t name =
    in_stream i Fault (why_text NoRow) name (told_of NoRow t check.findings) ++ (in_stream i Fault (why_text OtherRow) name (told_of OtherRow t check.findings)
    ++ (in_stream i Fault (why_text RowThere) name (told_of RowThere t check.findings) ++ in_stream i Note (why_text Moved) name (told_of Moved t check.moves)))

abbrev pub table_items : ℕ → CheckedValue → ℕ → List ℕ → List ItemValue
table_items i check t name =
    in_stream i Note (codes "untouched") name (none_of (touching t check.history))
    ++ (in_stream i Note (codes "no_row") name (passes_none (touching t check.history) (passing_groups t check.history)) ++ changes_items i check t name)

-- the tables from one on
abbrev pub tables_items : ℕ → CheckedValue → ℕ → List TableValue → List ItemValue
tables_items i check t [] = []
tables_items i check t (table ∷ later) = table_items i check t table.name ++ tables_items i check (t + 1) later

-- names that no table has
abbrev pub names_items : ℕ → List (List ℕ) → List ItemValue
names_items i names = flat_map (λ name. in_stream i Fault (codes "no_table") name 1) names

-- where a feed starts, and how many rows its base has, if it begins with one
abbrev pub start_item : ℕ → Position → ℕ → ItemValue
start_item i position zero = record { class = Note; kind = codes "starts"; stream = i; table = []; position = Some position; count = 1 }
start_item i position (suc n) = record { class = Note; kind = codes "base"; stream = i; table = []; position = Some position; count = suc n }

-- the same of its first group, where that isn't at the start of its source
abbrev pub start_items : ℕ → Option PreparedValue → List ItemValue
start_items i None = []
start_items i (Some group) = if is_start group.position then [] else start_item i group.position (base_rows group) ∷ []

-- what is told of all groups: that there is none, or where they start
abbrev pub groups_items : ℕ → CheckedValue → List ItemValue
groups_items i check = in_stream i Fault (codes "no_groups") [] (none_of (length check.history)) ++ start_items i (slice_get check.history 0)

-- what is told beside the tables: names, and events that are passed over
abbrev pub other_items : ℕ → CheckedValue → List ItemValue
other_items i check = names_items i check.unknown ++ in_stream i Fault (codes "skipped") [] (length check.skipped)

abbrev pub stream_items : ℕ → CheckedValue → List ItemValue
stream_items i check = groups_items i check ++ (tables_items i check 0 check.plan.tables ++ other_items i check)

-- the streams from one on
abbrev pub streams_items : ℕ → List CheckedValue → List ItemValue
streams_items i [] = []
streams_items i (check ∷ later) = stream_items i check ++ streams_items (i + 1) later

-- ---- all streams

-- the least key that two feeds touch, of the first of its streams
abbrev pub shared_items : List TableValue → Option SharedValue → List ItemValue
shared_items tables None = []
shared_items tables (Some shared) = in_stream shared.one Fault (codes "touched") (name_of_table tables shared.key.table) 1

-- the items of all streams, of which two feeds touch this key, if two do
abbrev pub items_with : List CheckedValue → Option SharedValue → List ItemValue
items_with checks shared = streams_items 0 checks ++ shared_items (tables_of checks) shared

abbrev pub feed_items : List CheckedValue → List ItemValue
feed_items checks = items_with checks (shared_of checks)
