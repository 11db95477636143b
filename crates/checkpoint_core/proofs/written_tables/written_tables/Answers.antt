use Rattle.std.proofs.Common.{◌∙◌, map, ap}
use Rattle.std.proofs.lemmas.List.{map-append}
use Rattle.pk_copy.specs.Marks.{MarkValue}
use Rattle.source_feed.specs.Image.{lent_row}
use Rattle.checkpoint_core.specs.Private.WrittenTables.{written_value, part_of_table}
use Rattle.checkpoint_core.proofs.WrittenTableLaws.{parts_more}
use Rattle.checkpoint_core.proofs.written_tables.written_tables.Goals as goal

pub loop-t-preserved : goal.loop-t-preserved
loop-t-preserved c position =
    parts_more c.args.plan.now c.args.marks.now (map lent_row c.args.own.now) position c.loop-t.t (map (written_value position) c.loop-t.tables.items) (map (written_value position) c.push.new.self.items)
    (written_value position c.in_ok-written_table.field-0)
    (ap (map (written_value position)) c.in_ok-push.ensures.items ∙ map-append (written_value position) c.loop-t.tables.items _)
    (c.loop-t.invariant position)
    (c.in_ok-written_table.ensures position ∙ ap (λ (mark : MarkValue). part_of_table c.args.plan.now c.loop-t.t mark (map lent_row c.args.own.now) position) c.mark-mark.ensures.mark)
