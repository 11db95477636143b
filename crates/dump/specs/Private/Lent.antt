-- Rows that are lent one after another, as plain values.
use denote.Ref.{Bor}
use Rattle.pk_copy.specs.KeyValue.{KeyValue}
use Rattle.dump.specs.DumpRowsValue.{RowValue, DumpRowsValue, all_rows}
use Rattle.dump.specs.declared.lent_rows.Later.{Later}
use Rattle.dump.specs.declared.lent_rows.Later.TheVariants.{Target, Own}

-- a row with its key
abbrev pub lent : Bor KeyValue × Bor RowValue → KeyValue × RowValue
lent pair = (pair.0.now, pair.1.now)

-- all that are still to come
abbrev pub later_rows : Later → DumpRowsValue
later_rows (Target rows) = all_rows rows
later_rows (Own rows) = rows.now
