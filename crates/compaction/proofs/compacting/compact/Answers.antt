use Rattle.std.proofs.lemmas.Result.{err_from_is_err_and}
use Rattle.compaction.proofs.CutLaws.{all_named}
use Rattle.compaction.proofs.CompactLaws.{is_compaction, limit_stands, unsound_stands}
use Rattle.compaction.proofs.compacting.compact.Goals as goal

pub with_base-requires : goal.with_base-requires
with_base-requires g c =
    let cut = c.in_ok-cut.cut in
    all_named c.left_rows_have_columns.ensures c.args.feed.now c.args.bytes.now c.args.unknown c.args.number cut.fields.items cut.place.now cut.others cut.rest.now c.in_ok-rows.rows c.plan.ensures.whole c.requires
    c.in_ok-cut.ensures.cuts c.in_ok-rows.ensures.sound c.in_ok-rows.ensures.left

pub returns-clause-compacted : goal.returns-clause-compacted
returns-clause-compacted g c =
    let cut = c.in_ok-cut.cut in
    let w = c.in_ok-new.ensures.over in
    is_compaction c.bytes_are_compacted.ensures c.messages_are_read_again.ensures c.args.feed.now c.args.bytes.now c.args.unknown c.args.number cut.fields.items cut.place.now cut.others cut.rest.now w.base c.in_ok-rows.rows
    c.plan.ensures.whole c.requires c.in_ok-cut.ensures.cuts c.in_ok-rows.ensures.sound c.in_ok-rows.ensures.left w.adds c.in_ok-new.new w.parts w.short c.len.result c.len.ensures

pub returns-in_err-rows-clause-cause : goal.returns-in_err-rows-clause-cause
returns-in_err-rows-clause-cause g c =
    let p = err_from_is_err_and c.from_residual-in_err-rows.result c.from_residual-in_err-rows.ensures.1 in
    rw (p.1, p.2) (unsound_stands c.args.feed.now c.args.bytes.now c.args.unknown c.args.number c.in_err-rows.field-0.0 c.in_ok-cut.ensures.cuts.has c.in_ok-cut.ensures.cuts.keeps c.in_err-rows.ensures.refused)

pub returns-in_err-new-clause-cause : goal.returns-in_err-new-clause-cause
returns-in_err-new-clause-cause g c =
    let p = err_from_is_err_and c.from_residual-in_err-new.result c.from_residual-in_err-new.ensures.1 in
    let cut = c.in_ok-cut.cut in
    rw (p.1, p.2)
    (limit_stands c.args.feed.now c.args.bytes.now c.args.unknown c.args.number cut.fields.items cut.place.now cut.others cut.rest.now c.in_ok-rows.rows c.in_err-new.field-0.0 c.in_ok-cut.ensures.cuts c.in_ok-rows.ensures.sound
    c.in_ok-rows.ensures.left c.in_err-new.ensures.long)
