use Rattle.std.proofs.Common.{◌≡◌, ◌++◌, map, drop, Some}
use Rattle.row_view.specs.ColumnValue.{column_value}
use Rattle.pk_copy.specs.PartTextValue.{text_value}
use Rattle.pk_copy.proofs.written_key.columns_of.Given as goal

-- the columns so far, and those of the texts that are still to come, are all
abbrev pub invariant-loop-text : goal.invariant-loop-text
invariant-loop-text l = map column_value l.columns.items ++ map (λ text. Some (text_value text)) (drop l.text-index l.texts) ≡ map (λ text. Some (text_value text)) l.fn.texts
