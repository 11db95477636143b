use Rattle.std.proofs.Common.{map, ap, ◌∙◌}
use Rattle.log_groups.specs.GroupCalls.{waiting_value}
use Rattle.log_course.specs.Calls.{read_of}
use Rattle.log_transcribe.specs.Transcript.{log_told}
use Rattle.log_transcribe.specs.Private.Bytes.{TranscriptValue, course_error_at}
use Rattle.log_transcribe.specs.Private.Sends.{sending}
use Rattle.log_transcribe.proofs.ByteLaws.{tells_told}
use Rattle.log_transcribe.proofs.CountLaws.{told_is, unopened_there}
use Rattle.log_transcribe.proofs.StreamLaws.{log_sent, log_unsent}
use Rattle.log_transcribe.proofs.WritingLaws.{log-unopened}
use Rattle.log_transcribe.proofs.transcript.Transcript.send_log.Goals as goal

pub returns-in-Ok-clause-told : goal.returns-in-Ok-clause-told
returns-in-Ok-clause-told g c =
    log_sent c.args.file c.args.self.now.source (λ end. map waiting_value end.waiting.items) c.send_groups.result (map waiting_value c.args.waiting.items) c.args.bytes.now (read_of c.in-Ok.groups) c.args.self.now.far c.send_groups.new.self.far _
    (sending (g.W.Out.written c.args.out.now) c.args.outgoing.now) (sending (g.W.Out.written c.send_groups.new.out) c.send_groups.new.outgoing) (c.in_ok-reached.ensures ∙ ap (λ (t : TranscriptValue). t.far.reached) c.self.view_is)
    c.in-Ok.ensures.reading c.send_groups.ensures.told c.send_groups.ensures.waiting

pub returns-in-Err-clause-told : goal.returns-in-Err-clause-told
returns-in-Err-clause-told g c =
    log_unsent (log_told c.args.file c.args.self.now.source (map waiting_value c.args.waiting.items) c.args.bytes.now c.args.self.now.far) c.args.outgoing.now.waits.items (course_error_at c.args.file c.in-Err.error) c.at_begin.result (g.W.Out.written c.args.out.now) (g.W.Out.written c.args.out.now)
    (log-unopened c.args.file c.args.self.now.source (map waiting_value c.args.waiting.items) c.args.bytes.now c.args.self.now.far _ c.args.outgoing.now.waits.items c.in-Err.error (c.in_ok-reached.ensures ∙ ap (λ (t : TranscriptValue). t.far.reached) c.self.view_is) c.in-Err.ensures.reading)
    (rw c.of_course.ensures at c.at_begin.ensures.error)

pub returns-in-Ok-clause-byte : goal.returns-in-Ok-clause-byte
returns-in-Ok-clause-byte g c =
    tells_told c.args.bytes.now _ _ c.send_groups.result
    (told_is c.args.file c.args.self.now.source (map waiting_value c.args.waiting.items) c.args.bytes.now (read_of c.in-Ok.groups) c.args.self.now.far _ (c.in_ok-reached.ensures ∙ ap (λ (t : TranscriptValue). t.far.reached) c.self.view_is) c.in-Ok.ensures.reading)
    c.send_groups.ensures.byte

pub returns-in-Err-clause-byte : goal.returns-in-Err-clause-byte
returns-in-Err-clause-byte g c =
    unopened_there c.args.file c.args.self.now.source (map waiting_value c.args.waiting.items) c.args.bytes.now c.args.self.now.far _ c.in-Err.error c.at_begin.result (c.in_ok-reached.ensures ∙ ap (λ (t : TranscriptValue). t.far.reached) c.self.view_is) c.in-Err.ensures.reading
    (rw c.of_course.ensures at c.at_begin.ensures.error) c.at_begin.ensures.byte
