use Rattle.std.proofs.Common.{map, ap, ◌∙◌}
use Rattle.log_groups.specs.GroupCalls.{waiting_value}
use Rattle.log_course.specs.Calls.{read_of}
use Rattle.log_transcribe.specs.Behind.{log_behind}
use Rattle.log_transcribe.specs.Private.Bytes.{course_error_at}
use Rattle.log_transcribe.specs.Private.Goes.{SequelValue}
use Rattle.log_transcribe.specs.Private.Sends.{sending}
use Rattle.log_transcribe.proofs.ByteLaws.{tells_told}
use Rattle.log_transcribe.proofs.CountLaws.{told_is_behind, unopened_behind}
use Rattle.log_transcribe.proofs.StreamLaws.{behind_sent, log_unsent}
use Rattle.log_transcribe.proofs.GoingLaws.{file-unopened}
use Rattle.log_transcribe.proofs.sequel.Sequel.send_log.Goals as goal

pub returns-in-Ok-clause-told : goal.returns-in-Ok-clause-told
returns-in-Ok-clause-told g c =
    behind_sent c.args.file c.args.self.now.source c.args.self.now.had (λ end. map waiting_value end.waiting.items) c.send_groups.result (map waiting_value c.args.waiting.items) c.args.bytes.now (read_of c.in-Ok.groups) c.args.self.now.along c.send_groups.new.self.along
    (sending (g.W.Out.written c.args.out.now) c.args.outgoing.now) (sending (g.W.Out.written c.send_groups.new.out) c.send_groups.new.outgoing)
    (rw (c.in_ok-reached.ensures ∙ ap (λ (q : SequelValue). q.along.logs) c.self.view_is) at c.in-Ok.ensures.reading) c.send_groups.ensures.told c.send_groups.ensures.waiting

pub returns-in-Err-clause-told : goal.returns-in-Err-clause-told
returns-in-Err-clause-told g c =
    log_unsent (log_behind c.args.file c.args.self.now.source c.args.self.now.had (map waiting_value c.args.waiting.items) c.args.bytes.now c.args.self.now.along) c.args.outgoing.now.waits.items (course_error_at c.args.file c.in-Err.error) c.at_begin.result (g.W.Out.written c.args.out.now) (g.W.Out.written c.args.out.now)
    (file-unopened c.args.file c.args.self.now.source c.args.self.now.had (map waiting_value c.args.waiting.items) c.args.bytes.now c.args.self.now.along c.args.outgoing.now.waits.items c.in-Err.error
    (rw (c.in_ok-reached.ensures ∙ ap (λ (q : SequelValue). q.along.logs) c.self.view_is) at c.in-Err.ensures.reading))
    (rw c.of_course.ensures at c.at_begin.ensures.error)

pub returns-in-Ok-clause-byte : goal.returns-in-Ok-clause-byte
returns-in-Ok-clause-byte g c =
    tells_told c.args.bytes.now _ _ c.send_groups.result
    (told_is_behind c.args.file c.args.self.now.source c.args.self.now.had (map waiting_value c.args.waiting.items) c.args.bytes.now (read_of c.in-Ok.groups) c.args.self.now.along
    (rw (c.in_ok-reached.ensures ∙ ap (λ (q : SequelValue). q.along.logs) c.self.view_is) at c.in-Ok.ensures.reading))
    c.send_groups.ensures.byte

pub returns-in-Err-clause-byte : goal.returns-in-Err-clause-byte
returns-in-Err-clause-byte g c =
    unopened_behind c.args.file c.args.self.now.source c.args.self.now.had (map waiting_value c.args.waiting.items) c.args.bytes.now c.args.self.now.along c.in-Err.error c.at_begin.result
    (rw (c.in_ok-reached.ensures ∙ ap (λ (q : SequelValue). q.along.logs) c.self.view_is) at c.in-Err.ensures.reading) (rw c.of_course.ensures at c.at_begin.ensures.error) c.at_begin.ensures.byte
