use Rattle.std.proofs.Common.{[], refl, ap, ◌∙◌}
use Rattle.log_laws.specs.Transcript.{last_told}
use Rattle.log_transcribe.specs.Fault.{of_tell}
use Rattle.log_transcribe.specs.Behind.{log_behind, logs_behind, behind_told}
use Rattle.log_transcribe.specs.Private.Goes.{SequelValue}
use Rattle.log_transcribe.specs.Standing as stands
use Rattle.log_transcribe.specs.Standing.{IsByteBehind, IsByteBeyond}
use Rattle.log_transcribe.specs.Private.Opens.{logs_from, place_behind}
use Rattle.log_transcribe.specs.Private.Sends.{sending}
use Rattle.log_transcribe.proofs.NowhereLaws.{among_all, last_nowhere, nowhere_in}
use Rattle.log_transcribe.proofs.StreamLaws.{all_written, end_stopped, behind_part, files_stopped}
use Rattle.log_transcribe.proofs.further.told_behind.Goals as goal

pub returns-in-Err : goal.returns-in-Err
returns-in-Err g c =
    files_stopped (λ others. logs_behind 0 c.args.sequel.source c.args.sequel.had [] (logs_from c.args.log others) c.args.sequel.along) (λ others. behind_told c.args.sequel.source c.args.sequel.had c.args.sequel.along (logs_from c.args.log others)) (λ others fault byte. IsByteBehind 0 c.args.sequel.source c.args.sequel.had [] (logs_from c.args.log others) c.args.sequel.along fault byte) (λ others fault byte. IsByteBeyond c.args.sequel.source c.args.sequel.had (logs_from c.args.log others) c.args.sequel.along fault byte) (g.L.LogFiles.gives c.args.files.now) (place_behind c.args.log) (g.L.LogFiles.many c.args.files.now)
    (λ a. of_tell (g.L.LogFiles.many c.args.files.now) (last_told c.args.sequel.source a.far)) (behind_part c.args.sequel.source c.args.sequel.had c.args.sequel.along c.args.log (g.L.LogFiles.many c.args.files.now) c.requires) (λ others fault byte is. among_all (λ at left bytes b. log_behind at c.args.sequel.source c.args.sequel.had left bytes b) (λ at left bytes b. stands.told_behind at c.args.sequel.source c.args.sequel.had left bytes b) (logs_from c.args.log others) c.args.sequel.along fault byte is) c.send_all.new.sequel.along c.in-Err.error
    (sending (g.W.Out.written c.args.out.now) c.new-outgoing.result) (sending (g.W.Out.written c.send_all.new.out) c.send_all.new.outgoing) c.in-Err.ensures.told

pub returns-in-Ok : goal.returns-in-Ok
returns-in-Ok g c =
    all_written (λ others. logs_behind 0 c.args.sequel.source c.args.sequel.had [] (logs_from c.args.log others) c.args.sequel.along) (λ others. behind_told c.args.sequel.source c.args.sequel.had c.args.sequel.along (logs_from c.args.log others)) (λ others fault byte. IsByteBehind 0 c.args.sequel.source c.args.sequel.had [] (logs_from c.args.log others) c.args.sequel.along fault byte) (λ others fault byte. IsByteBeyond c.args.sequel.source c.args.sequel.had (logs_from c.args.log others) c.args.sequel.along fault byte) (g.L.LogFiles.gives c.args.files.now) (place_behind c.args.log) (g.L.LogFiles.many c.args.files.now)
    (λ a. of_tell (g.L.LogFiles.many c.args.files.now) (last_told c.args.sequel.source a.far)) (behind_part c.args.sequel.source c.args.sequel.had c.args.sequel.along c.args.log (g.L.LogFiles.many c.args.files.now) c.requires) c.send_all.new.sequel.along _
    (sending (g.W.Out.written c.args.out.now) c.new-outgoing.result) (sending (g.W.Out.written c.send_all.new.out) c.send_all.new.outgoing) (sending (g.W.Out.written c.send_end.new.out) c.send_end.new.outgoing)
    c.new-outgoing.ensures.waits c.new-outgoing.ensures.sent refl c.in_default.ensures.told
    (rw (c.count.ensures, (ap (λ (q : SequelValue). q.source) c.sequel.view_is ∙ c.in_default.ensures.source), (ap (λ (q : SequelValue). q.along.far) c.sequel.view_is)) at c.in-Ok.ensures.told)

pub returns : goal.returns
returns g c =
    end_stopped (λ others. logs_behind 0 c.args.sequel.source c.args.sequel.had [] (logs_from c.args.log others) c.args.sequel.along) (λ others. behind_told c.args.sequel.source c.args.sequel.had c.args.sequel.along (logs_from c.args.log others)) (λ others fault byte. IsByteBehind 0 c.args.sequel.source c.args.sequel.had [] (logs_from c.args.log others) c.args.sequel.along fault byte) (λ others fault byte. IsByteBeyond c.args.sequel.source c.args.sequel.had (logs_from c.args.log others) c.args.sequel.along fault byte) (g.L.LogFiles.gives c.args.files.now) (place_behind c.args.log) (g.L.LogFiles.many c.args.files.now)
    (λ a. of_tell (g.L.LogFiles.many c.args.files.now) (last_told c.args.sequel.source a.far)) (behind_part c.args.sequel.source c.args.sequel.had c.args.sequel.along c.args.log (g.L.LogFiles.many c.args.files.now) c.requires) (λ others fault a e. nowhere_in (λ at left bytes b. log_behind at c.args.sequel.source c.args.sequel.had left bytes b) (λ at left bytes b. stands.told_behind at c.args.sequel.source c.args.sequel.had left bytes b) (logs_from c.args.log others) c.args.sequel.along fault (last_nowhere c.args.sequel.source a.far (g.L.LogFiles.many c.args.files.now) fault e)) c.send_all.new.sequel.along c.in-Err-send_end.error
    (sending (g.W.Out.written c.args.out.now) c.new-outgoing.result) (sending (g.W.Out.written c.send_all.new.out) c.send_all.new.outgoing) (sending (g.W.Out.written c.send_end.new.out) c.send_end.new.outgoing)
    c.new-outgoing.ensures.waits c.in_default.ensures.told
    (rw (c.count.ensures, (ap (λ (q : SequelValue). q.source) c.sequel.view_is ∙ c.in_default.ensures.source), (ap (λ (q : SequelValue). q.along.far) c.sequel.view_is)) at c.in-Err-send_end.ensures.told) c.in-Err-send_end.ensures.byte
