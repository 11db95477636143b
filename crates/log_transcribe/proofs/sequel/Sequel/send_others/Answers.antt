use Rattle.std.proofs.Common.{map, [], List, Ok, Err, refl, subst, ◌∙◌, arith}
use Rattle.log_feed.specs.declared.table.Stage.{Stage}
use Rattle.log_groups.specs.GroupCalls.{waiting_value}
use Rattle.log_laws.specs.Source.{SourceTables}
use Rattle.log_transcribe.specs.Behind.{log_behind, logs_behind}
use Rattle.log_transcribe.specs.Standing.{IsByteBehind, told_behind}
use Rattle.log_transcribe.specs.Private.Sends.{PutsSpan, sending}
use Rattle.log_transcribe.proofs.StreamLaws.{behind_tell, none_yet, over_done, over_more, over_stopped}
use Rattle.log_transcribe.proofs.sequel.Sequel.send_others.Goals as goal

pub loop-file-init : goal.loop-file-init
loop-file-init g c = (
  none_yet (λ file waiting bytes a. log_behind file c.args.self.now.source c.args.self.now.had waiting bytes a) (λ at left logs along. logs_behind at c.args.self.now.source c.args.self.now.had left logs along) (behind_tell c.args.self.now.source c.args.self.now.had) (λ at left bytes b. told_behind at c.args.self.now.source c.args.self.now.had left bytes b) (g.L.LogFiles.gives c.args.files.now) c.args.from (g.L.LogFiles.many c.args.files.now) c.args.self.now.along (sending (g.W.Out.written c.args.out.now) c.args.outgoing.now),
  refl,
  refl,
  c.requires,
)

pub returns-in-Err-clause-told : goal.returns-in-Err-clause-told
returns-in-Err-clause-told g c =
    over_stopped (λ file waiting bytes a. log_behind file c.args.self.now.source c.args.self.now.had waiting bytes a) (λ at left logs along. logs_behind at c.args.self.now.source c.args.self.now.had left logs along) (behind_tell c.args.self.now.source c.args.self.now.had) (λ at left bytes b. told_behind at c.args.self.now.source c.args.self.now.had left bytes b) (g.L.LogFiles.gives c.args.files.now) (λ logs. logs_behind c.args.from c.args.self.now.source c.args.self.now.had [] logs c.args.self.now.along) (λ logs fault byte. IsByteBehind c.args.from c.args.self.now.source c.args.self.now.had [] logs c.args.self.now.along fault byte) c.args.from (g.L.LogFiles.many c.args.files.now) c.send_file.new.self.along c.send_file.new.self.along c.in-Err.error (sending (g.W.Out.written c.args.out.now) c.args.outgoing.now) (sending (g.W.Out.written c.send_file.new.out) c.send_file.new.outgoing)
    (over_more (λ file waiting bytes a. log_behind file c.args.self.now.source c.args.self.now.had waiting bytes a) (λ at left logs along. logs_behind at c.args.self.now.source c.args.self.now.had left logs along) (behind_tell c.args.self.now.source c.args.self.now.had) (λ at left bytes b. told_behind at c.args.self.now.source c.args.self.now.had left bytes b) (g.L.LogFiles.gives c.args.files.now) (λ logs. logs_behind c.args.from c.args.self.now.source c.args.self.now.had [] logs c.args.self.now.along) (λ logs fault byte. IsByteBehind c.args.from c.args.self.now.source c.args.self.now.had [] logs c.args.self.now.along fault byte) c.args.from c.loop-file.file (g.L.LogFiles.many c.args.files.now) c.loop-file.self.along c.send_file.new.self.along (Err c.in-Err.error) (sending (g.W.Out.written c.args.out.now) c.args.outgoing.now) (sending (g.W.Out.written c.loop-file.out) c.loop-file.outgoing) (sending (g.W.Out.written c.send_file.new.out) c.send_file.new.outgoing) (omega (arith, c.count.ensures, c.loop-file-test.true)) c.loop-file.invariant.0
    (subst (λ (h : List Stage). PutsSpan (λ logs. logs_behind c.loop-file.file c.args.self.now.source h [] logs c.loop-file.self.along) (λ logs fault byte. IsByteBehind c.loop-file.file c.args.self.now.source h [] logs c.loop-file.self.along fault byte) (λ at left logs along. logs_behind at c.args.self.now.source h left logs along) (λ at left logs along fault byte. IsByteBehind at c.args.self.now.source h left logs along fault byte) (g.L.LogFiles.gives c.args.files.now) c.loop-file.file (g.L.LogFiles.many c.args.files.now) c.send_file.new.self.along (Err c.in-Err.error) (sending (g.W.Out.written c.loop-file.out) c.loop-file.outgoing) (sending (g.W.Out.written c.send_file.new.out) c.send_file.new.outgoing)) c.loop-file.invariant.2
    (subst (λ (x : SourceTables). PutsSpan (λ logs. logs_behind c.loop-file.file x c.loop-file.self.had [] logs c.loop-file.self.along) (λ logs fault byte. IsByteBehind c.loop-file.file x c.loop-file.self.had [] logs c.loop-file.self.along fault byte) (λ at left logs along. logs_behind at x c.loop-file.self.had left logs along) (λ at left logs along fault byte. IsByteBehind at x c.loop-file.self.had left logs along fault byte) (g.L.LogFiles.gives c.args.files.now) c.loop-file.file (g.L.LogFiles.many c.args.files.now) c.send_file.new.self.along (Err c.in-Err.error) (sending (g.W.Out.written c.loop-file.out) c.loop-file.outgoing) (sending (g.W.Out.written c.send_file.new.out) c.send_file.new.outgoing)) c.loop-file.invariant.1
    (subst (λ v. PutsSpan (λ logs. logs_behind c.loop-file.file c.loop-file.self.source c.loop-file.self.had (map waiting_value v) logs c.loop-file.self.along) (λ logs fault byte. IsByteBehind c.loop-file.file c.loop-file.self.source c.loop-file.self.had (map waiting_value v) logs c.loop-file.self.along fault byte) (λ at left logs along. logs_behind at c.loop-file.self.source c.loop-file.self.had left logs along) (λ at left logs along fault byte. IsByteBehind at c.loop-file.self.source c.loop-file.self.had left logs along fault byte) (g.L.LogFiles.gives c.args.files.now) c.loop-file.file (g.L.LogFiles.many c.args.files.now) c.send_file.new.self.along (Err c.in-Err.error) (sending (g.W.Out.written c.loop-file.out) c.loop-file.outgoing) (sending (g.W.Out.written c.send_file.new.out) c.send_file.new.outgoing)) c.new-waiting.ensures.items c.in-Err.ensures.told))))

pub loop-file-preserved : goal.loop-file-preserved
loop-file-preserved g c = (
  over_more (λ file waiting bytes a. log_behind file c.args.self.now.source c.args.self.now.had waiting bytes a) (λ at left logs along. logs_behind at c.args.self.now.source c.args.self.now.had left logs along) (behind_tell c.args.self.now.source c.args.self.now.had) (λ at left bytes b. told_behind at c.args.self.now.source c.args.self.now.had left bytes b) (g.L.LogFiles.gives c.args.files.now) (λ logs. logs_behind c.args.from c.args.self.now.source c.args.self.now.had [] logs c.args.self.now.along) (λ logs fault byte. IsByteBehind c.args.from c.args.self.now.source c.args.self.now.had [] logs c.args.self.now.along fault byte) c.args.from c.loop-file.file (g.L.LogFiles.many c.args.files.now) c.loop-file.self.along c.send_file.new.self.along (Ok c.in-Ok.next) (sending (g.W.Out.written c.args.out.now) c.args.outgoing.now) (sending (g.W.Out.written c.loop-file.out) c.loop-file.outgoing) (sending (g.W.Out.written c.send_file.new.out) c.send_file.new.outgoing) (omega (arith, c.count.ensures, c.loop-file-test.true)) c.loop-file.invariant.0
      (subst (λ (h : List Stage). PutsSpan (λ logs. logs_behind c.loop-file.file c.args.self.now.source h [] logs c.loop-file.self.along) (λ logs fault byte. IsByteBehind c.loop-file.file c.args.self.now.source h [] logs c.loop-file.self.along fault byte) (λ at left logs along. logs_behind at c.args.self.now.source h left logs along) (λ at left logs along fault byte. IsByteBehind at c.args.self.now.source h left logs along fault byte) (g.L.LogFiles.gives c.args.files.now) c.loop-file.file (g.L.LogFiles.many c.args.files.now) c.send_file.new.self.along (Ok c.in-Ok.next) (sending (g.W.Out.written c.loop-file.out) c.loop-file.outgoing) (sending (g.W.Out.written c.send_file.new.out) c.send_file.new.outgoing)) c.loop-file.invariant.2
      (subst (λ (x : SourceTables). PutsSpan (λ logs. logs_behind c.loop-file.file x c.loop-file.self.had [] logs c.loop-file.self.along) (λ logs fault byte. IsByteBehind c.loop-file.file x c.loop-file.self.had [] logs c.loop-file.self.along fault byte) (λ at left logs along. logs_behind at x c.loop-file.self.had left logs along) (λ at left logs along fault byte. IsByteBehind at x c.loop-file.self.had left logs along fault byte) (g.L.LogFiles.gives c.args.files.now) c.loop-file.file (g.L.LogFiles.many c.args.files.now) c.send_file.new.self.along (Ok c.in-Ok.next) (sending (g.W.Out.written c.loop-file.out) c.loop-file.outgoing) (sending (g.W.Out.written c.send_file.new.out) c.send_file.new.outgoing)) c.loop-file.invariant.1
      (subst (λ v. PutsSpan (λ logs. logs_behind c.loop-file.file c.loop-file.self.source c.loop-file.self.had (map waiting_value v) logs c.loop-file.self.along) (λ logs fault byte. IsByteBehind c.loop-file.file c.loop-file.self.source c.loop-file.self.had (map waiting_value v) logs c.loop-file.self.along fault byte) (λ at left logs along. logs_behind at c.loop-file.self.source c.loop-file.self.had left logs along) (λ at left logs along fault byte. IsByteBehind at c.loop-file.self.source c.loop-file.self.had left logs along fault byte) (g.L.LogFiles.gives c.args.files.now) c.loop-file.file (g.L.LogFiles.many c.args.files.now) c.send_file.new.self.along (Ok c.in-Ok.next) (sending (g.W.Out.written c.loop-file.out) c.loop-file.outgoing) (sending (g.W.Out.written c.send_file.new.out) c.send_file.new.outgoing)) c.new-waiting.ensures.items c.in-Ok.ensures.told))),
  c.in-Ok.ensures.source ∙ c.loop-file.invariant.1,
  c.in-Ok.ensures.had ∙ c.loop-file.invariant.2,
  c.in-Ok.ensures.within,
)

pub returns-clause-told : goal.returns-clause-told
returns-clause-told g c =
    over_done (λ file waiting bytes a. log_behind file c.args.self.now.source c.args.self.now.had waiting bytes a) (λ at left logs along. logs_behind at c.args.self.now.source c.args.self.now.had left logs along) (behind_tell c.args.self.now.source c.args.self.now.had) (λ at left bytes b. told_behind at c.args.self.now.source c.args.self.now.had left bytes b) (g.L.LogFiles.gives c.args.files.now) (λ logs. logs_behind c.args.from c.args.self.now.source c.args.self.now.had [] logs c.args.self.now.along) (λ logs fault byte. IsByteBehind c.args.from c.args.self.now.source c.args.self.now.had [] logs c.args.self.now.along fault byte) c.args.from c.loop-file.file (g.L.LogFiles.many c.args.files.now) c.loop-file.self.along (sending (g.W.Out.written c.args.out.now) c.args.outgoing.now) (sending (g.W.Out.written c.loop-file.out) c.loop-file.outgoing) (omega (arith, c.count.ensures, c.loop-file-test.false, c.loop-file.invariant.3)) c.loop-file.invariant.0
