use Rattle.std.proofs.Common.{map}
use Rattle.log_course.specs.Calls.{placed_value}
use Rattle.log_transcribe.proofs.WritingLaws.{group-put}
use Rattle.log_transcribe.proofs.transcript.Transcript.put_group.Goals as goal

pub returns-in-Ok-put_events-clause-told : goal.returns-in-Ok-put_events-clause-told
returns-in-Ok-put_events-clause-told c =
    rw (← c.self.view_is)
    (group-put c.args.file (record { keyspace = c.self.inside.keyspace.now; shard = c.self.inside.shard.now; schema = c.self.inside.writer.schema; tables = c.self.inside.writer.tables }) (placed_value c.args.group)
    (record { reached = c.self.inside.reached; stages = c.self.inside.writer.stages; said = c.self.inside.said }) c.args.out.now.items (map (λ e. e.items) c.in-Ok.events.items) c.events_of.new.self.stages c.put_events.new.out.items c.in-Ok-put_events.said
    (rw c.deref.ensures.value at c.in-Ok.ensures.told) (rw c.deref-2.ensures.value at c.in-Ok-put_events.ensures))
