use Rattle.std.proofs.Common.{◌≡◌, Some, refl, sym, ap, ◌∙◌}
use Rattle.std.specs.Prelude.{option_map}
use Rattle.source_feed.specs.SourceValue.{table_in_source}
use Rattle.source_feed.specs.Private.FeedTables.{width_in}
use Rattle.source_feed.specs.Private.ReaderState.{body_held}
use Rattle.source_feed.proofs.ReaderSteps.{row-outside, row-unknown, row-puts, empty_from}
use Rattle.source_feed.proofs.MemoryLaws.{field_taken}
use Rattle.source_feed.proofs.group_reader.GroupReader.put_row.Goals as goal

pub returns-in_default-clause-meaning : goal.returns-in_default-clause-meaning
returns-in_default-clause-meaning c = λ base earlier m.
    row-outside base c.args.source.now earlier c.args.row.now.table_name c.args.row.now.changes c.args.self.now m (λ names. ap (body_held names) (empty_from c.args.self.now.transaction c.in_default.not-Some))

pub returns-in_default-find-clause-meaning : goal.returns-in_default-find-clause-meaning
returns-in_default-find-clause-meaning c = λ base earlier m.
    let table : c.table.result.now ≡ table_in_source c.args.source.now c.args.row.now.table_name = c.table.ensures ∙ ap (table_in_source c.args.source.now) c.table_name.ensures in
    row-unknown base c.args.source.now earlier c.args.row.now.table_name c.args.row.now.changes c.args.self.now c.in-Some.transaction m c.in-Some.is
    (ap (width_in c.args.self.now.tables) (sym table) ∙ sym c.find.ensures.columns ∙ ap (option_map (λ known. known.1)) (empty_from c.find.result c.in_default-find.not-Some))

pub returns-clause-meaning : goal.returns-clause-meaning
returns-clause-meaning c = λ base earlier m.
    let table : c.table.result.now ≡ table_in_source c.args.source.now c.args.row.now.table_name = c.table.ensures ∙ ap (table_in_source c.args.source.now) c.table_name.ensures in
    row-puts base c.args.source.now earlier c.args.row.now.table_name c.args.row.now.changes c.args.self.now (record { start = c.args.self.now.start; transaction = Some c.put_row.new.self; tables = c.args.self.now.tables; groups = c.args.self.now.groups; room = c.args.self.now.room })
    c.in-Some.transaction c.put_row.new.self c.in-Some-find.place c.in-Some-find.width c.put_row.result m
    (record { start = refl; names = refl; widths = λ table. refl; groups = refl })
    c.in-Some.is refl
    (λ later. c.in-Some-find.ensures.place later ∙ table)
    (ap (width_in c.args.self.now.tables) (sym table) ∙ sym c.in-Some-find.ensures.columns)
    c.put_row.ensures.fits c.put_row.ensures.position c.put_row.ensures.changes c.put_row.ensures.err

pub returns-clause-memory : goal.returns-clause-memory
returns-clause-memory c = λ base earlier m is. field_taken c.args.source.now earlier c.table.result.now c.in-Some-find.width (sym (m.widths c.table.result.now) ∙ sym c.in-Some-find.ensures.columns)
