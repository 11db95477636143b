use Rattle.std.proofs.Common.{[], ◌∷◌, Option, Ok, Err, subst, sym}
use Rattle.log_transcribe.specs.declared.files.LogBytes.{LogBytes}
use Rattle.log_transcribe.specs.Behind.{log_behind, logs_behind}
use Rattle.log_transcribe.specs.Files.{log_bytes}
use Rattle.log_transcribe.specs.Standing.{IsByteBehind, told_behind}
use Rattle.log_transcribe.specs.Private.Opens.{HasFirst, logs_from, place_behind}
use Rattle.log_transcribe.specs.Private.Sends.{PutsFiles, sending}
use Rattle.log_transcribe.proofs.StreamLaws.{behind_tell, no_file, over_rest, over_stopped}
use Rattle.log_transcribe.proofs.further.send_all.Goals as goal

pub returns-in-None-clause-told : goal.returns-in-None-clause-told
returns-in-None-clause-told g c =
    subst (λ (l : Option LogBytes). PutsFiles (λ others. logs_behind 0 c.args.sequel.now.source c.args.sequel.now.had [] (logs_from l others) c.args.sequel.now.along) (λ others fault byte. IsByteBehind 0 c.args.sequel.now.source c.args.sequel.now.had [] (logs_from l others) c.args.sequel.now.along fault byte) (g.L.LogFiles.gives c.args.files.now) (place_behind l) (g.L.LogFiles.many c.args.files.now) c.args.sequel.now.along (Ok tt) (sending (g.W.Out.written c.args.out.now) c.args.outgoing.now) (sending (g.W.Out.written c.args.out.now) c.args.outgoing.now))
    (sym c.in-None.is) (no_file (λ file waiting bytes a. log_behind file c.args.sequel.now.source c.args.sequel.now.had waiting bytes a) (λ at left logs along. logs_behind at c.args.sequel.now.source c.args.sequel.now.had left logs along) (behind_tell c.args.sequel.now.source c.args.sequel.now.had) (λ at left bytes b. told_behind at c.args.sequel.now.source c.args.sequel.now.had left bytes b) (g.L.LogFiles.gives c.args.files.now) (g.L.LogFiles.many c.args.files.now) c.args.sequel.now.along (sending (g.W.Out.written c.args.out.now) c.args.outgoing.now) (subst (HasFirst (g.L.LogFiles.many c.args.files.now)) c.in-None.is c.requires))

pub returns-in-Ok-clause-told : goal.returns-in-Ok-clause-told
returns-in-Ok-clause-told g c =
    subst (λ (l : Option LogBytes). PutsFiles (λ others. logs_behind 0 c.args.sequel.now.source c.args.sequel.now.had [] (logs_from l others) c.args.sequel.now.along) (λ others fault byte. IsByteBehind 0 c.args.sequel.now.source c.args.sequel.now.had [] (logs_from l others) c.args.sequel.now.along fault byte) (g.L.LogFiles.gives c.args.files.now) (place_behind l) (g.L.LogFiles.many c.args.files.now) c.send_others.new.self.along c.send_others.result (sending (g.W.Out.written c.args.out.now) c.args.outgoing.now) (sending (g.W.Out.written c.send_others.new.out) c.send_others.new.outgoing))
    (sym c.in-Some.is)
    (over_rest (λ file waiting bytes a. log_behind file c.args.sequel.now.source c.args.sequel.now.had waiting bytes a) (λ at left logs along. logs_behind at c.args.sequel.now.source c.args.sequel.now.had left logs along) (behind_tell c.args.sequel.now.source c.args.sequel.now.had) (λ at left bytes b. told_behind at c.args.sequel.now.source c.args.sequel.now.had left bytes b) (g.L.LogFiles.gives c.args.files.now)
    (λ others. logs_behind 0 c.args.sequel.now.source c.args.sequel.now.had [] (log_bytes c.in-Some.log ∷ others) c.args.sequel.now.along) (λ others fault byte. IsByteBehind 0 c.args.sequel.now.source c.args.sequel.now.had [] (log_bytes c.in-Some.log ∷ others) c.args.sequel.now.along fault byte) 1 c.in-Ok.next (g.L.LogFiles.many c.args.files.now) c.send_first.new.sequel.along c.send_others.new.self.along c.send_others.result
    (sending (g.W.Out.written c.args.out.now) c.args.outgoing.now) (sending (g.W.Out.written c.send_first.new.out) c.send_first.new.outgoing) (sending (g.W.Out.written c.send_others.new.out) c.send_others.new.outgoing) c.in-Ok.ensures.told
    (rw (c.in-Ok.ensures.source, c.in-Ok.ensures.had) at c.send_others.ensures.told))

pub returns-in-Err-clause-told : goal.returns-in-Err-clause-told
returns-in-Err-clause-told g c =
    subst (λ (l : Option LogBytes). PutsFiles (λ others. logs_behind 0 c.args.sequel.now.source c.args.sequel.now.had [] (logs_from l others) c.args.sequel.now.along) (λ others fault byte. IsByteBehind 0 c.args.sequel.now.source c.args.sequel.now.had [] (logs_from l others) c.args.sequel.now.along fault byte) (g.L.LogFiles.gives c.args.files.now) (place_behind l) (g.L.LogFiles.many c.args.files.now) c.send_first.new.sequel.along (Err c.in-Err.error) (sending (g.W.Out.written c.args.out.now) c.args.outgoing.now) (sending (g.W.Out.written c.send_first.new.out) c.send_first.new.outgoing))
    (sym c.in-Some.is)
    (over_stopped (λ file waiting bytes a. log_behind file c.args.sequel.now.source c.args.sequel.now.had waiting bytes a) (λ at left logs along. logs_behind at c.args.sequel.now.source c.args.sequel.now.had left logs along) (behind_tell c.args.sequel.now.source c.args.sequel.now.had) (λ at left bytes b. told_behind at c.args.sequel.now.source c.args.sequel.now.had left bytes b) (g.L.LogFiles.gives c.args.files.now)
    (λ others. logs_behind 0 c.args.sequel.now.source c.args.sequel.now.had [] (log_bytes c.in-Some.log ∷ others) c.args.sequel.now.along) (λ others fault byte. IsByteBehind 0 c.args.sequel.now.source c.args.sequel.now.had [] (log_bytes c.in-Some.log ∷ others) c.args.sequel.now.along fault byte) 1 (g.L.LogFiles.many c.args.files.now) c.send_first.new.sequel.along c.send_first.new.sequel.along c.in-Err.error
    (sending (g.W.Out.written c.args.out.now) c.args.outgoing.now) (sending (g.W.Out.written c.send_first.new.out) c.send_first.new.outgoing) c.in-Err.ensures.told)
