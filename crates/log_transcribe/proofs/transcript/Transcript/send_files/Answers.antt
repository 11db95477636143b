use Rattle.std.proofs.Common.{map, [], Ok, Err, refl, subst, ◌∙◌, arith}
use Rattle.log_groups.specs.GroupCalls.{waiting_value}
use Rattle.log_laws.specs.Source.{SourceTables}
use Rattle.log_transcribe.specs.Standing.{IsByteOfLogs, told_in}
use Rattle.log_transcribe.specs.Transcript.{log_told, logs_told}
use Rattle.log_transcribe.specs.Private.Sends.{PutsSpan, sending}
use Rattle.log_transcribe.proofs.StreamLaws.{logs_tell, none_yet, over_done, over_more, over_stopped}
use Rattle.log_transcribe.proofs.transcript.Transcript.send_files.Goals as goal

pub loop-file-init : goal.loop-file-init
loop-file-init g c = (
  none_yet (λ file waiting bytes far. log_told file c.args.self.now.source waiting bytes far) (λ at left logs far. logs_told at c.args.self.now.source left logs far) (logs_tell c.args.self.now.source) (λ at left bytes f. told_in at c.args.self.now.source left bytes f) (g.L.LogFiles.gives c.args.files.now) 0 (g.L.LogFiles.many c.args.files.now) c.args.self.now.far (sending (g.W.Out.written c.args.out.now) c.args.outgoing.now),
  refl,
  omega arith,
)

pub returns-in-Err-clause-told : goal.returns-in-Err-clause-told
returns-in-Err-clause-told g c =
    over_stopped (λ file waiting bytes far. log_told file c.args.self.now.source waiting bytes far) (λ at left logs far. logs_told at c.args.self.now.source left logs far) (logs_tell c.args.self.now.source) (λ at left bytes f. told_in at c.args.self.now.source left bytes f) (g.L.LogFiles.gives c.args.files.now) (λ logs. logs_told 0 c.args.self.now.source [] logs c.args.self.now.far) (λ logs fault byte. IsByteOfLogs 0 c.args.self.now.source [] logs c.args.self.now.far fault byte) 0 (g.L.LogFiles.many c.args.files.now) c.send_file.new.self.far c.send_file.new.self.far c.in-Err.error (sending (g.W.Out.written c.args.out.now) c.args.outgoing.now) (sending (g.W.Out.written c.send_file.new.out) c.send_file.new.outgoing)
    (over_more (λ file waiting bytes far. log_told file c.args.self.now.source waiting bytes far) (λ at left logs far. logs_told at c.args.self.now.source left logs far) (logs_tell c.args.self.now.source) (λ at left bytes f. told_in at c.args.self.now.source left bytes f) (g.L.LogFiles.gives c.args.files.now) (λ logs. logs_told 0 c.args.self.now.source [] logs c.args.self.now.far) (λ logs fault byte. IsByteOfLogs 0 c.args.self.now.source [] logs c.args.self.now.far fault byte) 0 c.loop-file.file (g.L.LogFiles.many c.args.files.now) c.loop-file.self.far c.send_file.new.self.far (Err c.in-Err.error) (sending (g.W.Out.written c.args.out.now) c.args.outgoing.now) (sending (g.W.Out.written c.loop-file.out) c.loop-file.outgoing) (sending (g.W.Out.written c.send_file.new.out) c.send_file.new.outgoing) (omega (arith, c.count.ensures, c.loop-file-test.true)) c.loop-file.invariant.0
    (subst (λ (x : SourceTables). PutsSpan (λ logs. logs_told c.loop-file.file x [] logs c.loop-file.self.far) (λ logs fault byte. IsByteOfLogs c.loop-file.file x [] logs c.loop-file.self.far fault byte) (λ at left logs far. logs_told at x left logs far) (λ at left logs far fault byte. IsByteOfLogs at x left logs far fault byte) (g.L.LogFiles.gives c.args.files.now) c.loop-file.file (g.L.LogFiles.many c.args.files.now) c.send_file.new.self.far (Err c.in-Err.error) (sending (g.W.Out.written c.loop-file.out) c.loop-file.outgoing) (sending (g.W.Out.written c.send_file.new.out) c.send_file.new.outgoing)) c.loop-file.invariant.1
    (subst (λ v. PutsSpan (λ logs. logs_told c.loop-file.file c.loop-file.self.source (map waiting_value v) logs c.loop-file.self.far) (λ logs fault byte. IsByteOfLogs c.loop-file.file c.loop-file.self.source (map waiting_value v) logs c.loop-file.self.far fault byte) (λ at left logs far. logs_told at c.loop-file.self.source left logs far) (λ at left logs far fault byte. IsByteOfLogs at c.loop-file.self.source left logs far fault byte) (g.L.LogFiles.gives c.args.files.now) c.loop-file.file (g.L.LogFiles.many c.args.files.now) c.send_file.new.self.far (Err c.in-Err.error) (sending (g.W.Out.written c.loop-file.out) c.loop-file.outgoing) (sending (g.W.Out.written c.send_file.new.out) c.send_file.new.outgoing)) c.new-waiting.ensures.items c.in-Err.ensures.told)))

pub loop-file-preserved : goal.loop-file-preserved
loop-file-preserved g c = (
  over_more (λ file waiting bytes far. log_told file c.args.self.now.source waiting bytes far) (λ at left logs far. logs_told at c.args.self.now.source left logs far) (logs_tell c.args.self.now.source) (λ at left bytes f. told_in at c.args.self.now.source left bytes f) (g.L.LogFiles.gives c.args.files.now) (λ logs. logs_told 0 c.args.self.now.source [] logs c.args.self.now.far) (λ logs fault byte. IsByteOfLogs 0 c.args.self.now.source [] logs c.args.self.now.far fault byte) 0 c.loop-file.file (g.L.LogFiles.many c.args.files.now) c.loop-file.self.far c.send_file.new.self.far (Ok c.in-Ok.next) (sending (g.W.Out.written c.args.out.now) c.args.outgoing.now) (sending (g.W.Out.written c.loop-file.out) c.loop-file.outgoing) (sending (g.W.Out.written c.send_file.new.out) c.send_file.new.outgoing) (omega (arith, c.count.ensures, c.loop-file-test.true)) c.loop-file.invariant.0
      (subst (λ (x : SourceTables). PutsSpan (λ logs. logs_told c.loop-file.file x [] logs c.loop-file.self.far) (λ logs fault byte. IsByteOfLogs c.loop-file.file x [] logs c.loop-file.self.far fault byte) (λ at left logs far. logs_told at x left logs far) (λ at left logs far fault byte. IsByteOfLogs at x left logs far fault byte) (g.L.LogFiles.gives c.args.files.now) c.loop-file.file (g.L.LogFiles.many c.args.files.now) c.send_file.new.self.far (Ok c.in-Ok.next) (sending (g.W.Out.written c.loop-file.out) c.loop-file.outgoing) (sending (g.W.Out.written c.send_file.new.out) c.send_file.new.outgoing)) c.loop-file.invariant.1
      (subst (λ v. PutsSpan (λ logs. logs_told c.loop-file.file c.loop-file.self.source (map waiting_value v) logs c.loop-file.self.far) (λ logs fault byte. IsByteOfLogs c.loop-file.file c.loop-file.self.source (map waiting_value v) logs c.loop-file.self.far fault byte) (λ at left logs far. logs_told at c.loop-file.self.source left logs far) (λ at left logs far fault byte. IsByteOfLogs at c.loop-file.self.source left logs far fault byte) (g.L.LogFiles.gives c.args.files.now) c.loop-file.file (g.L.LogFiles.many c.args.files.now) c.send_file.new.self.far (Ok c.in-Ok.next) (sending (g.W.Out.written c.loop-file.out) c.loop-file.outgoing) (sending (g.W.Out.written c.send_file.new.out) c.send_file.new.outgoing)) c.new-waiting.ensures.items c.in-Ok.ensures.told)),
  c.in-Ok.ensures.source ∙ c.loop-file.invariant.1,
  c.in-Ok.ensures.within,
)

pub returns-clause-told : goal.returns-clause-told
returns-clause-told g c =
    over_done (λ file waiting bytes far. log_told file c.args.self.now.source waiting bytes far) (λ at left logs far. logs_told at c.args.self.now.source left logs far) (logs_tell c.args.self.now.source) (λ at left bytes f. told_in at c.args.self.now.source left bytes f) (g.L.LogFiles.gives c.args.files.now) (λ logs. logs_told 0 c.args.self.now.source [] logs c.args.self.now.far) (λ logs fault byte. IsByteOfLogs 0 c.args.self.now.source [] logs c.args.self.now.far fault byte) 0 c.loop-file.file (g.L.LogFiles.many c.args.files.now) c.loop-file.self.far (sending (g.W.Out.written c.args.out.now) c.args.outgoing.now) (sending (g.W.Out.written c.loop-file.out) c.loop-file.outgoing) (omega (arith, c.count.ensures, c.loop-file-test.false, c.loop-file.invariant.2)) c.loop-file.invariant.0
