use Rattle.std.proofs.Common.{List, ◌≡◌, ◌+◌, ◌≤◌, ◌||◌, length}
use Rattle.std.specs.Prelude.{option_copied}
use Rattle.std.specs.List.{list_any}
use Rattle.vevent.specs.Response.{response_of}
use Rattle.source_feed.specs.EventList.{end_of_message}
use Rattle.source_feed.specs.GroupValue.{GroupValue}
use Rattle.source_feed.specs.PastEvents.{PastEvents}
use Rattle.source_feed.specs.Private.EventByEvent.{past_behind}
use Rattle.source_feed.specs.Private.FeedTables.{AreNumbered}
use Rattle.source_feed.specs.Private.ReaderState.{IsBehind, count_of}
use Rattle.source_feed.specs.Planned.{differs_from}
use Rattle.source_feed.specs.TakesMemory.{WantsFrom}
use Rattle.source_feed.proofs.groups.put_message.Given as goal

-- the events so far are taken, and those to come are what is left of the message
abbrev pub invariant-loop-event : goal.invariant-loop-event
invariant-loop-event l = record {
  meaning : (base : List GroupValue) (earlier : PastEvents) → IsBehind base l.source earlier l.fn.reader → (history : PastEvents)
      × (past_behind l.source earlier (response_of l.message).items (end_of_message (response_of l.message).fault) ≡ past_behind l.source history l.events.items (end_of_message l.events.fault))
      × IsBehind base l.source history l.reader
      × (WantsFrom l.source history l.events.items → WantsFrom l.source earlier (response_of l.message).items);
  room : count_of l.reader + length l.events.items ≤ count_of l.fn.reader + length (response_of l.message).items;
  numbers : AreNumbered (option_copied l.fn.field_check.plan) l.fn.reader.tables → AreNumbered (option_copied l.fn.field_check.plan) l.reader.tables;
  plan : option_copied l.field_check.plan ≡ option_copied l.fn.field_check.plan;
  seen : (l.field_check.differs || list_any (differs_from (option_copied l.field_check.plan)) l.events.items) ≡ (l.fn.field_check.differs || list_any (differs_from (option_copied l.fn.field_check.plan)) (response_of l.message).items);
}

abbrev pub decreases-loop-event : goal.decreases-loop-event
decreases-loop-event l = length l.events.items
