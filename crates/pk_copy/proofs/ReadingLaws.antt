-- The key of a row, one cell after another.
use Rattle.std.specs.Prelude.{◌≡◌, ℕ, ◌<◌, ◌≤◌, ◌||◌, Bool, List, [], ◌++◌, length, slice_get, Some, Result, Ok, Err, if◌then◌else◌}
use Rattle.std.specs.List.{list_any, filter_map}
use Rattle.std.specs.Option.{option_map_or}
use Rattle.std.proofs.Common.{refl, ap, ◌∙◌, get_or}
use Rattle.std.proofs.lemmas.Option.{slice_get_read}
use Rattle.filter_rule.specs.PlanTable.{TableValue}
use Rattle.filter_rule.specs.PlanValue.{PlanValue, columns_of, key_columns_of}
use Rattle.filter_rule.specs.WellFormed.{IsPlan, AreColumnPlaces}
use Rattle.pk_copy.specs.KeyValue.{Part, KeyValue}
use Rattle.pk_copy.specs.KeyOf.{KeyCell, key_part_of, is_null, has_no_part}
use Rattle.pk_copy.specs.declared.fault.KeyFault.{KeyFault}
use Rattle.pk_copy.specs.declared.fault.KeyFault.TheVariants.{NullKey, BadKey}

-- what the parts so far, and whether a cell so far gave none, make of the cells that follow
abbrev pub key_behind : ℕ → List Part → Bool → List KeyCell → Result KeyValue KeyFault
key_behind t parts is_bad cells =
    if list_any is_null cells then Err NullKey else
    if is_bad || list_any has_no_part cells then Err BadKey else
    Ok (record { table = t; parts = parts ++ filter_map key_part_of cells })

-- ---- a table of a plan

pub columns_of-at : (plan : PlanValue) (t : ℕ) (table : TableValue) → slice_get plan.tables t ≡ Some table → columns_of plan t ≡ table.columns
columns_of-at plan t table stands = ap (λ found. option_map_or (λ (table : TableValue). table.columns) found []) stands

pub key_columns_of-at : (plan : PlanValue) (t : ℕ) (table : TableValue) → slice_get plan.tables t ≡ Some table → key_columns_of plan t ≡ table.key
key_columns_of-at plan t table stands = ap (λ found. option_map_or (λ (table : TableValue). table.key) found []) stands

pub key_places : (plan : PlanValue) (t : ℕ) (table : TableValue) → IsPlan plan → slice_get plan.tables t ≡ Some table → AreColumnPlaces table.columns table.key
key_places plan t table sound stands i place at = ((sound.tables.each_table t table stands).key_columns i place at).within

pub key_few : (plan : PlanValue) (t : ℕ) (table : TableValue) → IsPlan plan → slice_get plan.tables t ≡ Some table → length table.key ≤ 8
key_few plan t table sound stands = (sound.tables.each_table t table stands).key_count.1

pub table_at : (tables listed : List TableValue) (t i : ℕ) (table : TableValue) → listed ≡ tables → i ≡ t → t < length tables → table ≡ get_or listed i table → slice_get tables t ≡ Some table
table_at tables listed t i table same at within read =
    slice_get_read tables (length tables) t table refl within (read ∙ (λ k. get_or (same k) (at k) table))
