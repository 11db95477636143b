use Rattle.std.proofs.Common.{◌+◌, map, length, sym, ap, ◌∙◌, arith}
use Rattle.proto_wire.specs.Writing.{written_fields, message_field}
use Rattle.vevent.specs.ShardGtidView.{shard_gtid_value}
use Rattle.vevent.specs.WrittenEvent.{message_fields, written_shard_gtid}
use Rattle.vevent.proofs.WritingSteps.{counted_then}
use Rattle.vevent.proofs.written_entries.entries_size.Goals as goal

pub loop-entry-preserved : goal.loop-entry-preserved
loop-entry-preserved c =
    let message = written_shard_gtid (shard_gtid_value c.in-Some.entry) in
    let is = ap (λ xs. c.loop-entry.size + length (written_fields (message_fields 1 (map written_shard_gtid xs)))) (sym c.in-Some.ensures.steps) ∙ c.loop-entry.invariant in
    counted_then _ c.loop-entry.size c.in_ok-one.one c.in_ok-size.size (message_field 1 message) (message_fields 1 (map written_shard_gtid c.next.new.self)) is (c.in_ok-one.ensures message (sym c.in_ok-entry_size.ensures)) c.in_ok-size.ensures

pub returns : goal.returns
returns c =
    let is = ap (λ xs. c.loop-entry.size + length (written_fields (message_fields 1 (map written_shard_gtid xs)))) (sym c.in-None.ensures.steps.0) ∙ c.loop-entry.invariant in
    omega (arith, is)
