-- The changes that a step makes in the target, before and behind the copy of their keys and rows.
use Rattle.std.specs.Prelude.{◌≡◌, ◌<◌, List, length, IfSome, Option, Some}
use Rattle.std.specs.List.{AllByRecursion}
use Rattle.std.specs.Option.{option_map, option_and_then}
use Rattle.filter_rule.specs.PlanValue.{PlanValue, columns_of}
use Rattle.pk_copy.specs.KeyValue.{KeyValue}
use Rattle.target_tables.specs.declared.fault.TableFault.{TableFault}
use Rattle.target_tables.specs.declared.fault.TableFault.TheVariants as table
use Rattle.source_feed.specs.History.{RowValue, passing, kept_of}
use Rattle.source_feed.specs.Image.{lent_row}
use Rattle.source_feed.specs.Touches.{TouchValue}
use Rattle.board_laws.specs.KeptRows.{kept_row}
use Rattle.board_laws.specs.declared.refusal.Refusal.{Refusal}
use Rattle.board_laws.specs.declared.refusal.Refusal.TheVariants.{OwnedByOther, Memory}
use denote.Ref.{Bor}

-- what is left at a key: a row, or nothing
abbrev pub Change : Type 0
Change = KeyValue × Option RowValue

-- a touch as a change: a row that doesn't pass leaves nothing
abbrev pub change_of : TouchValue → Change
change_of touch = (touch.0, option_and_then passing touch.1)

-- a change whose key is lent
abbrev pub lent_change : Bor KeyValue × Option RowValue → Change
lent_change change = (change.0.now, change.1)

-- a row is of a table of the plan, and as wide as it
abbrev pub IsOfTable : PlanValue → KeyValue → RowValue → Type 0
IsOfTable plan key row = (key.table < length plan.tables) × (length row ≡ length (columns_of plan key.table))

-- each row that is left is of a table of the plan
abbrev pub AreOfTables : PlanValue → List Change → Type 0
AreOfTables plan changes = AllByRecursion (λ change. IfSome change.1 (IsOfTable plan change.0)) changes

-- a change with the kept columns of its row
abbrev pub kept_change : PlanValue → Change → Change
kept_change plan change = (change.0, option_map (kept_of plan change.0) change.1)

-- a lent row with its kept columns
abbrev pub found_row : PlanValue → Bor KeyValue × Bor RowValue → KeyValue × RowValue
found_row plan row = kept_row plan (lent_row row)

-- a row that is put
abbrev pub put_row : KeyValue × RowValue → Change
put_row row = (row.0, Some row.1)

-- why a step's changes are refused: 71 with the same key and stream, or 72
abbrev pub refused_by : TableFault KeyValue → Refusal
refused_by (table.OwnedByOther key owner) = OwnedByOther key owner
refused_by table.Memory = Memory
