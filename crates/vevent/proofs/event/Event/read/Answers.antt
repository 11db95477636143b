use Rattle.std.proofs.Common.{subst}
use Rattle.list_laws.specs.Outcome.{Gives}
use Rattle.vevent.specs.EventView.{event_value}
use Rattle.vevent.proofs.Verdicts.{event_stands, refusal_stands, every_event, every_refusal}
use Rattle.vevent.proofs.event.Event.read.Goals as goal

pub returns-clause-event : goal.returns-clause-event
returns-clause-event c = event_stands c.event_of_bytes.result c.args.bytes.now c.event_of_bytes.ensures

pub returns-clause-refused : goal.returns-clause-refused
returns-clause-refused c = refusal_stands c.event_of_bytes.result c.args.bytes.now c.event_of_bytes.ensures

pub returns-clause-every_event : goal.returns-clause-every_event
returns-clause-every_event c = λ value h. subst (λ read. Gives event_value c.event_of_bytes.result read) (every_event c.args.bytes.now value h) c.event_of_bytes.ensures

pub returns-clause-every_refusal : goal.returns-clause-every_refusal
returns-clause-every_refusal c = λ fault h. subst (λ read. Gives event_value c.event_of_bytes.result read) (every_refusal c.args.bytes.now fault h) c.event_of_bytes.ensures
