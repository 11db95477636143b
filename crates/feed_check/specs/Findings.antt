-- Changes whose rows before them are not those that replaying the feed leaves (this profile, after the row
-- images of a VStream: an insert has no row before, a delete no row after, an update both).
use Rattle.std.specs.Prelude.{◌≡◌, ℕ, List, [], ◌∷◌, ◌++◌, Bool, true, false, Option, Some, None, IfSome, reverse, if◌then◌else◌}
use Rattle.std.specs.List.{flat_map}
use Rattle.std.specs.Option.{option_map, option_and_then, option_to_list}
use Rattle.std.specs.Ordering.{eq_by_cmp}
use Rattle.pk_copy.specs.KeyOrder.{key_cmp}
use Rattle.pk_copy.specs.KeyValue.{KeyValue}
use Rattle.vdiff.specs.Report.{row_eq}
use Rattle.source_feed.specs.History.{RowValue}
use Rattle.feed_check.specs.KeyedChanges.{KeyedRowValue, KeyedChangeValue}
use Rattle.feed_check.specs.Replay.{row_left}
use Rattle.feed_check.specs.declared.finding.Doubt.{Doubt}
use Rattle.feed_check.specs.declared.finding.Doubt.TheVariants.{NoRow, OtherRow, RowThere, Moved}

-- what is told of a change, as that it isn't true of the rows before it: its group, its place there, why, and the key
pub record FindingValue : Type 0 where
  pub group : ℕ
  pub place : ℕ
  pub why : Doubt
  pub key : KeyValue

-- ---- rows

-- whether a row that there may be has this key
abbrev pub has_key : Option KeyedRowValue → KeyValue → Bool
has_key None key = false
has_key (Some image) key = eq_by_cmp key_cmp key image.0

-- ---- one change

-- a row before a change, beside the row that stands at its key
abbrev pub why_before : RowValue → Option RowValue → Option Doubt
why_before row None = Some NoRow
why_before row (Some there) = if row_eq row there then None else Some OtherRow

-- a row after a change, beside the row that stands at its key: none may, unless the change takes it away
abbrev pub why_after : Bool → Option RowValue → Option Doubt
why_after true there = None
why_after false None = None
why_after false (Some there) = Some RowThere

-- what is told of a change
abbrev pub told : KeyedChangeValue → KeyValue → Option Doubt → Option FindingValue
told change key why = option_map (λ w. record { group = change.group; place = change.place; why = w; key = key }) why

abbrev pub found_before : KeyedChangeValue → (KeyValue → Option RowValue) → Option FindingValue
found_before change rows = option_and_then (λ image. told change image.0 (why_before image.1 (rows image.0))) change.before

abbrev pub found_after : KeyedChangeValue → (KeyValue → Option RowValue) → Option FindingValue
found_after change rows = option_and_then (λ image. told change image.0 (why_after (has_key change.before image.0) (rows image.0))) change.after

-- ---- all changes

-- the findings of a history, in the order of its changes
abbrev pub findings_in : List KeyedChangeValue → List FindingValue
findings_in [] = []
findings_in (change ∷ earlier) = findings_in earlier ++ (option_to_list (found_before change (row_left earlier)) ++ option_to_list (found_after change (row_left earlier)))

-- the findings of changes in their order
abbrev pub findings_of : List KeyedChangeValue → List FindingValue
findings_of changes = findings_in (reverse changes)

-- ---- updates that put a row at another key

abbrev pub why_moved : Option KeyedRowValue → KeyValue → Option Doubt
why_moved None key = None
why_moved (Some image) key = if eq_by_cmp key_cmp key image.0 then None else Some Moved

abbrev pub found_moved : KeyedChangeValue → Option FindingValue
found_moved change = option_and_then (λ image. told change image.0 (why_moved change.before image.0)) change.after

abbrev pub moves_of : List KeyedChangeValue → List FindingValue
moves_of changes = flat_map (λ change. option_to_list (found_moved change)) changes

-- ---- the same as a relation

-- a change is true of the rows before it: its row before stands at its key, and where its row after is put no
-- row stands that the change doesn't take away
pub record IsTrueOf (rows : KeyValue → Option RowValue) (change : KeyedChangeValue) : Type 0 where
  pub before : IfSome change.before (λ image. rows image.0 ≡ Some image.1)
  pub after : IfSome change.after (λ image. has_key change.before image.0 ≡ false → rows image.0 ≡ None)

-- each change of a history is true of what the changes before it leave
abbrev pub AreTrue : List KeyedChangeValue → Type 0
AreTrue [] = Unit {0}
AreTrue (change ∷ earlier) = AreTrue earlier × IsTrueOf (row_left earlier) change
