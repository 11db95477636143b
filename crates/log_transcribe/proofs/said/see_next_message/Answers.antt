use Rattle.std.proofs.Common.{Ok, Err}
use Rattle.log_transcribe.specs.Transcript.{source_value}
use Rattle.log_transcribe.proofs.SeenLaws.{message-seen, messages-done, messages-wrong}
use Rattle.log_transcribe.proofs.said.see_next_message.Goals as goal

pub returns-in-Ok : goal.returns-in-Ok
returns-in-Ok c =
    let front = rw c.in-Ok-Some.field-0-is at c.in-Ok-Some.ensures in
    message-seen (source_value c.args.source) c.args.frames.now c.next_frame.new.self (c.in-Ok-Some.message.now) (Ok c.in-Ok.field-0) c.args.stages.now.items c.see_message.new.stages.items front.0 front.1 c.in-Ok.ensures

pub returns-in-Err-see_message : goal.returns-in-Err-see_message
returns-in-Err-see_message c =
    let front = rw c.in-Ok-Some.field-0-is at c.in-Ok-Some.ensures in
    message-seen (source_value c.args.source) {U = Unit {0}} c.args.frames.now c.next_frame.new.self (c.in-Ok-Some.message.now) (Err c.in-Err-see_message.fault) c.args.stages.now.items c.see_message.new.stages.items front.0 front.1 c.in-Err-see_message.ensures

pub returns-in-Ok-None : goal.returns-in-Ok-None
returns-in-Ok-None c =
    let end = rw c.in-Ok-None.field-0-is at c.in-Ok-None.ensures in
    messages-done (source_value c.args.source) c.args.frames.now c.args.stages.now.items end.0 end.1

pub returns-in-Err : goal.returns-in-Err
returns-in-Err c = messages-wrong (source_value c.args.source) c.args.frames.now c.args.stages.now.items c.in-Err.field-0 c.in-Err.ensures.0 c.in-Err.ensures.1
