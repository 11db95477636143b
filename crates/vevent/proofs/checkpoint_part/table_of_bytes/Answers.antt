use Rattle.std.proofs.Common.{◌≡◌, ◌∙◌, None, Some, sym, rules}
use Rattle.vevent.specs.declared.fault.EventFault.TheVariants.{Row}
use Rattle.vevent.specs.CheckpointPart.{table_wire_fault, table_row_fault, table_conditions, table_part_of, table_part_at}
use Rattle.vevent.specs.Private.PartContents.{IsWholeTable}
use Rattle.vevent.proofs.JudgingLaws.{every_fault}
use Rattle.vevent.proofs.checkpoint_part.table_of_bytes.Goals as goal

pub returns-in-Some : goal.returns-in-Some
unfolding table_part_at
returns-in-Some c =
    let wire : table_wire_fault c.args.bytes.now ≡ None = search rules in
    let held : IsWholeTable c.args.bytes.now c.in_ok-contents.contents = search rules in
    let once = sym (c.repeats.ensures c.args.bytes.now held) in
    let texts = sym (c.are_texts.ensures c.args.bytes.now held) in
    let rows : table_row_fault c.args.bytes.now ≡ Some c.in-Some.fault = sym (c.fault.ensures c.args.bytes.now held) ∙ c.in-Some.is in
    sym (every_fault table_conditions table_part_of c.args.bytes.now (Row c.in-Some.fault) (wire, once ∙ c.if-repeats.false, texts ∙ c.if-not-are_texts.false, rows))
