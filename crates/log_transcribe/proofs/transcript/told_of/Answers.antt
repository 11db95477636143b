use Rattle.std.proofs.Common.{[], Err, refl, subst}
use Rattle.log_laws.specs.Transcript.{last_told}
use Rattle.log_transcribe.specs.Fault.{of_tell}
use Rattle.log_transcribe.specs.Standing.{IsByteIn, IsByteOfLogs, told_in}
use Rattle.log_transcribe.specs.Transcript.{source_value, log_told, logs_told, nothing_told, feed_told}
use Rattle.log_transcribe.specs.Private.Bytes.{TranscriptValue}
use Rattle.log_transcribe.specs.Private.Sends.{PutsFiles, sending}
use Rattle.log_transcribe.proofs.NowhereLaws.{among_all, last_nowhere, nowhere_in}
use Rattle.log_transcribe.proofs.StreamLaws.{all_written, end_stopped, feed_part, files_stopped}
use Rattle.log_transcribe.proofs.transcript.told_of.Goals as goal

pub returns-in-Err : goal.returns-in-Err
returns-in-Err g c =
    files_stopped (λ logs. logs_told 0 (source_value c.args.source) [] logs (nothing_told (source_value c.args.source))) (λ logs. feed_told (source_value c.args.source) logs) (λ logs fault byte. IsByteOfLogs 0 (source_value c.args.source) [] logs (nothing_told (source_value c.args.source)) fault byte) (λ logs fault byte. IsByteIn (source_value c.args.source) logs fault byte) (g.L.LogFiles.gives c.args.files.now) 0 (g.L.LogFiles.many c.args.files.now)
    (λ far. of_tell (g.L.LogFiles.many c.args.files.now) (last_told (source_value c.args.source) far)) (feed_part (source_value c.args.source) (g.L.LogFiles.many c.args.files.now)) (λ logs fault byte is. among_all (λ at left bytes f. log_told at (source_value c.args.source) left bytes f) (λ at left bytes f. told_in at (source_value c.args.source) left bytes f) logs (nothing_told (source_value c.args.source)) fault byte is) c.send_files.new.self.far c.in-Err.error
    (sending (g.W.Out.written c.args.out.now) c.new-outgoing.result) (sending (g.W.Out.written c.send_files.new.out) c.send_files.new.outgoing)
    (subst (λ (t : TranscriptValue). PutsFiles (λ logs. logs_told 0 t.source [] logs t.far) (λ logs fault byte. IsByteOfLogs 0 t.source [] logs t.far fault byte) (g.L.LogFiles.gives c.args.files.now) 0 (g.L.LogFiles.many c.args.files.now) c.send_files.new.self.far (Err c.in-Err.error) (sending (g.W.Out.written c.args.out.now) c.new-outgoing.result) (sending (g.W.Out.written c.send_files.new.out) c.send_files.new.outgoing))
    c.in_ok-transcript.ensures c.in-Err.ensures.told)

pub returns-in-Ok : goal.returns-in-Ok
returns-in-Ok g c =
    all_written (λ logs. logs_told 0 (source_value c.args.source) [] logs (nothing_told (source_value c.args.source))) (λ logs. feed_told (source_value c.args.source) logs) (λ logs fault byte. IsByteOfLogs 0 (source_value c.args.source) [] logs (nothing_told (source_value c.args.source)) fault byte) (λ logs fault byte. IsByteIn (source_value c.args.source) logs fault byte) (g.L.LogFiles.gives c.args.files.now) 0 (g.L.LogFiles.many c.args.files.now)
    (λ far. of_tell (g.L.LogFiles.many c.args.files.now) (last_told (source_value c.args.source) far)) (feed_part (source_value c.args.source) (g.L.LogFiles.many c.args.files.now)) c.send_files.new.self.far _
    (sending (g.W.Out.written c.args.out.now) c.new-outgoing.result) (sending (g.W.Out.written c.send_files.new.out) c.send_files.new.outgoing) (sending (g.W.Out.written c.send_end.new.out) c.send_end.new.outgoing)
    c.new-outgoing.ensures.waits c.new-outgoing.ensures.sent refl (rw c.in_ok-transcript.ensures at c.in_default.ensures.told)
    (rw (c.count.ensures, c.in_default.ensures.source, c.in_ok-transcript.ensures) at c.in-Ok.ensures.told)

pub returns : goal.returns
returns g c =
    end_stopped (λ logs. logs_told 0 (source_value c.args.source) [] logs (nothing_told (source_value c.args.source))) (λ logs. feed_told (source_value c.args.source) logs) (λ logs fault byte. IsByteOfLogs 0 (source_value c.args.source) [] logs (nothing_told (source_value c.args.source)) fault byte) (λ logs fault byte. IsByteIn (source_value c.args.source) logs fault byte) (g.L.LogFiles.gives c.args.files.now) 0 (g.L.LogFiles.many c.args.files.now)
    (λ far. of_tell (g.L.LogFiles.many c.args.files.now) (last_told (source_value c.args.source) far)) (feed_part (source_value c.args.source) (g.L.LogFiles.many c.args.files.now)) (λ logs fault far e. nowhere_in (λ at left bytes f. log_told at (source_value c.args.source) left bytes f) (λ at left bytes f. told_in at (source_value c.args.source) left bytes f) logs (nothing_told (source_value c.args.source)) fault (last_nowhere (source_value c.args.source) far (g.L.LogFiles.many c.args.files.now) fault e)) c.send_files.new.self.far c.in-Err-send_end.error
    (sending (g.W.Out.written c.args.out.now) c.new-outgoing.result) (sending (g.W.Out.written c.send_files.new.out) c.send_files.new.outgoing) (sending (g.W.Out.written c.send_end.new.out) c.send_end.new.outgoing)
    c.new-outgoing.ensures.waits (rw c.in_ok-transcript.ensures at c.in_default.ensures.told)
    (rw (c.count.ensures, c.in_default.ensures.source, c.in_ok-transcript.ensures) at c.in-Err-send_end.ensures.told) c.in-Err-send_end.ensures.byte
