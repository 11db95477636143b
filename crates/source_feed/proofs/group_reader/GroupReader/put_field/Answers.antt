use Rattle.std.proofs.Common.{◌≡◌, ℕ, List, Some, cond, length, refl, ap, subst, ◌∙◌}
use Rattle.std.specs.Str.{bytes_eq}
use Rattle.row_view.specs.FieldValue.{FieldValue}
use Rattle.source_feed.specs.SourceValue.{table_in_source}
use Rattle.source_feed.specs.Private.FeedTables.{width_in, names_in, names_behind, counted}
use Rattle.source_feed.proofs.ReaderSteps.{field-puts}
use Rattle.source_feed.proofs.group_reader.GroupReader.put_field.Goals as goal

pub returns-clause-meaning : goal.returns-clause-meaning
returns-clause-meaning c = λ base earlier m.
    let table : c.table-table.result.now ≡ table_in_source c.args.source.now c.args.field.now.table_name = c.table-table.ensures ∙ ap (table_in_source c.args.source.now) c.table_name.ensures in (
      refl,
      field-puts base c.args.source.now earlier c.args.field.now.table_name c.args.field.now.fields c.args.self.now (record { start = c.args.self.now.start; transaction = c.args.self.now.transaction; tables = c.set.new.self; groups = c.args.self.now.groups; room = c.args.self.now.room }) c.column_count.result m
          refl refl refl
          (c.column_count.ensures ∙ ap (λ (fields : List FieldValue). counted (length fields)) c.fields.ensures)
          (subst (λ (table : List ℕ). (name : List ℕ) → width_in c.set.new.self name ≡ cond (bytes_eq table name) (Some c.column_count.result) (width_in c.args.self.now.tables name)) table c.in_ok-set.ensures.widths)
          (subst (λ (table : List ℕ). names_in c.set.new.self ≡ names_behind (names_in c.args.self.now.tables) table) table c.in_ok-set.ensures.order),
    )
