use Rattle.std.proofs.Common.{sym}
use Rattle.log_events.specs.Event.{IsEvent, NoEvent, event_at}
use Rattle.item_readers.proofs.ReadingLaws.{spells-reading, only_reading}
use Rattle.log_events.proofs.EventLaws.{event_reader}
use Rattle.log_events.proofs.events.Events.new.Goals as goal

pub returns-clause-spelled : goal.returns-clause-spelled
returns-clause-spelled c =
    let checked = c.args.checked in
    spells-reading (IsEvent checked) (NoEvent checked) (event_at checked) (event_reader checked) c.args.bytes.now

pub returns-clause-only : goal.returns-clause-only
returns-clause-only c other h =
    let checked = c.args.checked in
    sym (only_reading (IsEvent checked) (NoEvent checked) (event_at checked) (event_reader checked) c.args.bytes.now other.items other.fault h)
