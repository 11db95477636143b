-- All keys at which two sets of rows differ (this profile, after Vitess's VDiff).
use Rattle.std.specs.Prelude.{List, [], ◌∷◌, ◌++◌, map, Option, None, Some, if◌then◌else◌}
use Rattle.std.specs.List.{filter}
use Rattle.std.specs.Ordering.{is_gt}
use Rattle.pk_copy.specs.KeyOrder.{key_cmp}
use Rattle.pk_copy.specs.KeyValue.{KeyValue}
use Rattle.dump.specs.DumpRowsValue.{RowValue, DumpRowsValue, row_with_key}
use Rattle.vdiff.specs.Report.{is_matched}
use Rattle.vdiff.specs.Differences.{Difference, rows_past}

-- the rows at lesser keys
abbrev pub rows_before : KeyValue → DumpRowsValue → DumpRowsValue
rows_before key rows = filter (λ row. is_gt (key_cmp key row.0)) rows

-- a row that the target alone has
abbrev pub of_target : KeyValue × RowValue → Difference
of_target row = record { key = row.0; source = None; target = Some row.1 }

-- a row of the source beside what stands at its key in the target: no difference where that is the same row
abbrev pub of_source : KeyValue × RowValue → Option RowValue → List Difference
of_source row there = if is_matched there row.1 then [] else record { key = row.0; source = Some row.1; target = there } ∷ []

-- by rising key: the target's rows before the source's first one, what stands at that one's key, and what differs
-- behind it
abbrev pub differences_of : DumpRowsValue → DumpRowsValue → List Difference
differences_of [] target = map of_target target
differences_of (row ∷ source) target =
    map of_target (rows_before row.0 target) ++ of_source row (row_with_key target row.0) ++ differences_of source (rows_past row.0 target)
