-- How a column of the program is seen.
use Rattle.vevent.specs.declared.field_event.ColumnField.{ColumnField}
use Rattle.row_view.specs.FieldValue.{FieldValue}

-- a column by its name's bytes and its type's number
abbrev pub field_value : ColumnField → FieldValue
field_value f = record { name = f.name.now; type_number = f.type_number }
