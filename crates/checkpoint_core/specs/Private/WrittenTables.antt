-- What is written of a table, before the position of its stream is known.
use Rattle.std.specs.Prelude.{ℕ, List, map, slice_get}
use Rattle.std.specs.List.{filter_map}
use Rattle.row_view.specs.FieldValue.{FieldValue}
use Rattle.filter_rule.specs.PlanValue.{PlanValue, table_name}
use Rattle.pk_copy.specs.Marks.{MarkValue, Marks, mark_of}
use Rattle.source_feed.specs.Image.{ImageRows}
use Rattle.vevent.specs.CheckpointPart.{TablePartValue, mark_number}
use Rattle.vevent.specs.ColumnView.{field_value}
use Rattle.checkpoint_laws.specs.Written.{fields_of_table, key_fields_of, number_of_mark, last_row_of, saved_rows_of_table, numbers_below}
use Rattle.checkpoint_core.specs.declared.written_tables.WrittenTable.{WrittenTable}

-- the columns at places, as an answer names them
abbrev pub fields_at : List FieldValue → List ℕ → List FieldValue
fields_at columns places = filter_map (slice_get columns) places

-- the part of a table by its mark, the rows of its stream and the text of the position
abbrev pub part_of_table : PlanValue → ℕ → MarkValue → ImageRows → List ℕ → TablePartValue
part_of_table plan t mark rows position = record {
  mark = number_of_mark mark;
  answer = record {
    fields = fields_of_table plan t;
    pkfields = key_fields_of plan t;
    gtid = position;
    rows = map (λ row. row.1) (saved_rows_of_table t rows);
    lastpk = last_row_of mark;
  };
  name = table_name plan t;
}

-- the parts of the first n tables
abbrev pub parts_of_tables : PlanValue → Marks → ImageRows → List ℕ → ℕ → List TablePartValue
parts_of_tables plan marks rows position n = map (λ t. part_of_table plan t (mark_of marks t) rows position) (numbers_below n)

-- what is written of a table, with the text of the position
abbrev pub written_value : List ℕ → WrittenTable → TablePartValue
written_value position table = record {
  mark = mark_number table.mark;
  answer = record {
    fields = map field_value table.fields.items;
    pkfields = map field_value table.key_fields.items;
    gtid = position;
    rows = table.rows.items;
    lastpk = table.last;
  };
  name = table.name.now;
}
