use Rattle.std.proofs.Common.{map, arith}
use Rattle.log_groups.specs.GroupCalls.{waiting_value}
use Rattle.log_transcribe.specs.Behind.{log_behind, logs_behind}
use Rattle.log_transcribe.specs.Standing.{told_behind}
use Rattle.log_transcribe.specs.Private.Sends.{sending}
use Rattle.log_transcribe.proofs.StreamLaws.{behind_tell, file_behind, file_gave, file_last, file_settled, file_stops, file_waits}
use Rattle.log_transcribe.proofs.sequel.Sequel.+go.Goals as goal

pub send_bytes-returns-in-Err-clause-told : goal.send_bytes-returns-in-Err-clause-told
send_bytes-returns-in-Err-clause-told g t c =
    file_stops (λ file waiting bytes a. log_behind file c.args.self.now.source c.args.self.now.had waiting bytes a) (λ at left logs along. logs_behind at c.args.self.now.source c.args.self.now.had left logs along) (behind_tell c.args.self.now.source c.args.self.now.had) (λ at left bytes b. told_behind at c.args.self.now.source c.args.self.now.had left bytes b) (g.L.LogFiles.gives c.args.files.now) c.args.file (g.L.LogFiles.many c.args.files.now) (map waiting_value c.args.waiting.items) c.args.bytes.now c.args.self.now.along c.send_log.new.self.along c.in-Err.error (sending (g.W.Out.written c.args.out.now) c.args.outgoing.now) (sending (g.W.Out.written c.send_log.new.out) c.send_log.new.outgoing) c.requires c.in-Err.ensures.told c.in-Err.ensures.byte

pub send_bytes-returns-then-is_settled-clause-told : goal.send_bytes-returns-then-is_settled-clause-told
send_bytes-returns-then-is_settled-clause-told g t c =
    file_settled (λ file waiting bytes a. log_behind file c.args.self.now.source c.args.self.now.had waiting bytes a) (λ at left logs along. logs_behind at c.args.self.now.source c.args.self.now.had left logs along) (behind_tell c.args.self.now.source c.args.self.now.had) (λ at left bytes b. told_behind at c.args.self.now.source c.args.self.now.had left bytes b) (g.L.LogFiles.gives c.args.files.now) (λ end. map waiting_value end.waiting.items) c.in-Ok.end c.args.file (g.L.LogFiles.many c.args.files.now) (map waiting_value c.args.waiting.items) c.args.bytes.now c.args.self.now.along c.send_log.new.self.along (sending (g.W.Out.written c.args.out.now) c.args.outgoing.now) (sending (g.W.Out.written c.send_log.new.out) c.send_log.new.outgoing) (c.is_settled.ensures c.if-is_settled.true) c.in-Ok.ensures.told

pub send_bytes-returns-then-next-count-clause-told : goal.send_bytes-returns-then-next-count-clause-told
send_bytes-returns-then-next-count-clause-told g t c =
    file_behind (λ file waiting bytes a. log_behind file c.args.self.now.source c.args.self.now.had waiting bytes a) (λ at left logs along. logs_behind at c.args.self.now.source c.args.self.now.had left logs along) (behind_tell c.args.self.now.source c.args.self.now.had) (λ at left bytes b. told_behind at c.args.self.now.source c.args.self.now.had left bytes b) (g.L.LogFiles.gives c.args.files.now) (λ end. map waiting_value end.waiting.items) c.in-Ok.end c.args.file (g.L.LogFiles.many c.args.files.now) (map waiting_value c.args.waiting.items) c.args.bytes.now c.args.self.now.along c.send_log.new.self.along c.send_file.new.self.along c.send_file.result (sending (g.W.Out.written c.args.out.now) c.args.outgoing.now) (sending (g.W.Out.written c.send_log.new.out) c.send_log.new.outgoing) (sending (g.W.Out.written c.send_file.new.out) c.send_file.new.outgoing) c.in-Ok.ensures.told
    (rw (c.in-Ok.ensures.source, c.in-Ok.ensures.had) at c.send_file.ensures.told)

pub send_bytes-returns-in-Ok-settle-clause-told : goal.send_bytes-returns-in-Ok-settle-clause-told
send_bytes-returns-in-Ok-settle-clause-told g t c =
    file_last (λ file waiting bytes a. log_behind file c.args.self.now.source c.args.self.now.had waiting bytes a) (λ at left logs along. logs_behind at c.args.self.now.source c.args.self.now.had left logs along) (behind_tell c.args.self.now.source c.args.self.now.had) (λ at left bytes b. told_behind at c.args.self.now.source c.args.self.now.had left bytes b) (g.L.LogFiles.gives c.args.files.now) (λ end. map waiting_value end.waiting.items) c.in-Ok.end c.args.file (g.L.LogFiles.many c.args.files.now) (map waiting_value c.args.waiting.items) c.args.bytes.now c.args.self.now.along c.send_log.new.self.along (sending (g.W.Out.written c.args.out.now) c.args.outgoing.now) (sending (g.W.Out.written c.send_log.new.out) c.send_log.new.outgoing) (omega (arith, c.count-count.ensures, c.if-next-count.false)) c.in-Ok-settle.ensures.told c.in-Ok.ensures.told

pub send_bytes-returns-clause-told : goal.send_bytes-returns-clause-told
send_bytes-returns-clause-told g t c =
    file_waits (λ file waiting bytes a. log_behind file c.args.self.now.source c.args.self.now.had waiting bytes a) (λ at left logs along. logs_behind at c.args.self.now.source c.args.self.now.had left logs along) (behind_tell c.args.self.now.source c.args.self.now.had) (λ at left bytes b. told_behind at c.args.self.now.source c.args.self.now.had left bytes b) (g.L.LogFiles.gives c.args.files.now) (λ end. map waiting_value end.waiting.items) c.in-Ok.end c.args.file (g.L.LogFiles.many c.args.files.now) (map waiting_value c.args.waiting.items) c.args.bytes.now c.args.self.now.along c.send_log.new.self.along c.send_log.new.self.along c.in-Err-settle.error (sending (g.W.Out.written c.args.out.now) c.args.outgoing.now) (sending (g.W.Out.written c.send_log.new.out) c.send_log.new.outgoing) (omega (arith, c.count-count.ensures, c.if-next-count.false)) c.requires c.in-Err-settle.ensures.told c.in-Err-settle.ensures.byte c.in-Ok.ensures.told

pub send_file-returns-in-Ok-clause-told : goal.send_file-returns-in-Ok-clause-told
send_file-returns-in-Ok-clause-told g t c =
    file_gave (λ file waiting bytes a. log_behind file c.args.self.now.source c.args.self.now.had waiting bytes a) (λ at left logs along. logs_behind at c.args.self.now.source c.args.self.now.had left logs along) (behind_tell c.args.self.now.source c.args.self.now.had) (λ at left bytes b. told_behind at c.args.self.now.source c.args.self.now.had left bytes b) (g.L.LogFiles.gives c.args.files.now) c.args.file (g.L.LogFiles.many c.args.files.now) (map waiting_value c.args.waiting.items) c.as_slice.result.now c.args.self.now.along c.send_bytes.new.self.along c.send_bytes.result (sending (g.W.Out.written c.args.out.now) c.args.outgoing.now) (sending (g.W.Out.written c.send_bytes.new.out) c.send_bytes.new.outgoing) (rw c.as_slice.ensures c.in-Ok.ensures) c.send_bytes.ensures.told
