-- Columns that may not be there.
use Rattle.std.specs.Prelude.{List, [], Option, None, Some}
use Rattle.row_view.specs.FieldValue.{FieldValue}

abbrev pub listed : Option (List FieldValue) → List FieldValue
listed None = []
listed (Some columns) = columns
