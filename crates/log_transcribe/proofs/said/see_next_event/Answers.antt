use Rattle.std.proofs.Common.{Ok, Err}
use Rattle.vevent.specs.EventView.{event_value}
use Rattle.log_transcribe.specs.Transcript.{source_value}
use Rattle.log_transcribe.proofs.SeenLaws.{event-seen, events-done, events-wrong}
use Rattle.log_transcribe.proofs.said.see_next_event.Goals as goal

pub returns-in-Ok : goal.returns-in-Ok
returns-in-Ok c =
    let front = rw c.in-Ok-Some.field-0-is at c.in-Ok-Some.ensures in
    event-seen (source_value c.args.source) c.args.events.now c.next_event.new.self (event_value c.in-Ok-Some.event) (Ok c.in-Ok.field-0) c.args.stages.now.items c.see_event.new.stages.items front.0 front.1 c.in-Ok.ensures

pub returns-in-Err-see_event : goal.returns-in-Err-see_event
returns-in-Err-see_event c =
    let front = rw c.in-Ok-Some.field-0-is at c.in-Ok-Some.ensures in
    event-seen (source_value c.args.source) {U = Unit {0}} c.args.events.now c.next_event.new.self (event_value c.in-Ok-Some.event) (Err c.in-Err-see_event.fault) c.args.stages.now.items c.see_event.new.stages.items front.0 front.1 c.in-Err-see_event.ensures

pub returns-in-Ok-None : goal.returns-in-Ok-None
returns-in-Ok-None c =
    let end = rw c.in-Ok-None.field-0-is at c.in-Ok-None.ensures in
    events-done (source_value c.args.source) c.args.events.now c.args.stages.now.items end.0 end.1

pub returns-in-Err : goal.returns-in-Err
returns-in-Err c = events-wrong (source_value c.args.source) c.args.events.now c.args.stages.now.items c.in-Err.fault c.in-Err.ensures.0 c.in-Err.ensures.1
