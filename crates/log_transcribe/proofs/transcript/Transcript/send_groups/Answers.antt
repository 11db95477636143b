use Rattle.std.proofs.Common.{length, Ok, subst, ◌∙◌}
use Rattle.log_transcribe.specs.Transcript.{course_told}
use Rattle.log_laws.specs.Source.{SourceTables}
use Rattle.log_transcribe.specs.declared.fault.StreamError.{StreamError}
use Rattle.log_transcribe.specs.Private.Sends.{PutsOne, sending}
use Rattle.log_transcribe.proofs.ByteLaws.{counts_on, stops_told}
use Rattle.log_transcribe.proofs.StreamLaws.{end_waiting, kept_waiting, loop_done, loop_on, stops_all}
use Rattle.log_transcribe.proofs.transcript.Transcript.send_groups.Goals as goal

pub returns-then-not-more-clause-told : goal.returns-then-not-more-clause-told
returns-then-not-more-clause-told g c =
    loop_done (course_told c.args.file c.args.self.now.source c.args.groups.groups c.args.self.now.far) (course_told c.args.file c.args.self.now.source c.loop-more.groups.groups c.loop-more.self.far) (course_told c.args.file c.args.self.now.source c.send_next.new.groups.groups c.send_next.new.self.far) c.send_next.new.self.far (length c.loop-more.groups.groups.items) (length c.send_next.new.groups.groups.items) c.in-Ok.more
    (sending (g.W.Out.written c.args.out.now) c.args.outgoing.now) (sending (g.W.Out.written c.loop-more.out) c.loop-more.outgoing) (sending (g.W.Out.written c.send_next.new.out) c.send_next.new.outgoing)
    c.if-not-more.true c.loop-more.invariant.0
    (subst (λ (x : SourceTables). PutsOne (course_told c.args.file x c.loop-more.groups.groups c.loop-more.self.far) (course_told c.args.file x c.send_next.new.groups.groups c.send_next.new.self.far) c.send_next.new.self.far (length c.loop-more.groups.groups.items) (length c.send_next.new.groups.groups.items) (Ok c.in-Ok.more) (sending (g.W.Out.written c.loop-more.out) c.loop-more.outgoing) (sending (g.W.Out.written c.send_next.new.out) c.send_next.new.outgoing)) c.loop-more.invariant.1 c.in-Ok.ensures.told)

pub loop-more-preserved : goal.loop-more-preserved
loop-more-preserved g c = (
  (loop_on (course_told c.args.file c.args.self.now.source c.args.groups.groups c.args.self.now.far) (course_told c.args.file c.args.self.now.source c.loop-more.groups.groups c.loop-more.self.far) (course_told c.args.file c.args.self.now.source c.send_next.new.groups.groups c.send_next.new.self.far) c.send_next.new.self.far (length c.loop-more.groups.groups.items) (length c.send_next.new.groups.groups.items) c.in-Ok.more
      (sending (g.W.Out.written c.args.out.now) c.args.outgoing.now) (sending (g.W.Out.written c.loop-more.out) c.loop-more.outgoing) (sending (g.W.Out.written c.send_next.new.out) c.send_next.new.outgoing)
      c.if-not-more.false c.loop-more.invariant.0
      (subst (λ (x : SourceTables). PutsOne (course_told c.args.file x c.loop-more.groups.groups c.loop-more.self.far) (course_told c.args.file x c.send_next.new.groups.groups c.send_next.new.self.far) c.send_next.new.self.far (length c.loop-more.groups.groups.items) (length c.send_next.new.groups.groups.items) (Ok c.in-Ok.more) (sending (g.W.Out.written c.loop-more.out) c.loop-more.outgoing) (sending (g.W.Out.written c.send_next.new.out) c.send_next.new.outgoing)) c.loop-more.invariant.1 c.in-Ok.ensures.told)).0,
  c.in-Ok.ensures.source ∙ c.loop-more.invariant.1,
  kept_waiting StreamError c.loop-more.groups c.send_next.new.groups c.in-Ok.more c.in-Ok.ensures.waiting ∙ c.loop-more.invariant.2,
  counts_on c.in-Ok.more c.loop-more.told c.in-Ok-one_more.all _ _ _ c.if-not-more.false (rw c.loop-more.invariant.1 at c.in-Ok.ensures.counts) c.loop-more.invariant.3 c.in-Ok-one_more.ensures,
)

pub returns-in-Err-clause-told : goal.returns-in-Err-clause-told
returns-in-Err-clause-told g c =
    stops_all (course_told c.args.file c.args.self.now.source c.args.groups.groups c.args.self.now.far) (course_told c.args.file c.args.self.now.source c.loop-more.groups.groups c.loop-more.self.far) c.in-Err.error
    (sending (g.W.Out.written c.args.out.now) c.args.outgoing.now) (sending (g.W.Out.written c.loop-more.out) c.loop-more.outgoing) (sending (g.W.Out.written c.send_next.new.out) c.send_next.new.outgoing)
    c.loop-more.invariant.0 (rw c.loop-more.invariant.1 at c.in-Err.ensures.told)

pub returns-then-not-more-clause-waiting : goal.returns-then-not-more-clause-waiting
returns-then-not-more-clause-waiting g c =
    let none = end_waiting StreamError c.loop-more.groups c.send_next.new.groups c.in-Ok.more c.if-not-more.true c.in-Ok.ensures.waiting in
    c.into_waiting.ensures none.0 none.1 ∙ kept_waiting StreamError c.loop-more.groups c.send_next.new.groups c.in-Ok.more c.in-Ok.ensures.waiting ∙ c.loop-more.invariant.2

pub returns-in-Err-clause-byte : goal.returns-in-Err-clause-byte
returns-in-Err-clause-byte g c = stops_told c.args.bytes.now _ _ c.in-Err.error c.loop-more.invariant.3 (rw c.loop-more.invariant.1 at c.in-Err.ensures.byte)
