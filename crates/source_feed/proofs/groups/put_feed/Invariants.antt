use Rattle.std.proofs.Common.{◌≡◌, ◌+◌, ◌≤◌, ◌||◌, [], length}
use Rattle.std.specs.Prelude.{option_copied}
use Rattle.std.specs.List.{list_any}
use Rattle.source_feed.specs.EventList.{events_of_feed, events_in_messages}
use Rattle.source_feed.specs.PastEvents.{PastEvents}
use Rattle.source_feed.specs.Private.EventByEvent.{past_behind}
use Rattle.source_feed.specs.Private.FeedTables.{AreNumbered}
use Rattle.source_feed.specs.Private.ReaderState.{IsBehind, count_of}
use Rattle.source_feed.specs.Planned.{differs_from}
use Rattle.source_feed.specs.TakesMemory.{WantsFrom}
use Rattle.source_feed.proofs.groups.put_feed.Given as goal

-- the messages so far are taken and seen, and those to come are what is left of the feed
abbrev pub invariant-loop-reader : goal.invariant-loop-reader
invariant-loop-reader l = record {
  meaning : (history : PastEvents)
      × (past_behind l.source [] (events_of_feed l.feed).items (events_of_feed l.feed).fault ≡ past_behind l.source history (events_in_messages l.frames.items l.frames.fault).items (events_in_messages l.frames.items l.frames.fault).fault)
      × IsBehind [] l.source history l.reader
      × (WantsFrom l.source history (events_in_messages l.frames.items l.frames.fault).items → WantsFrom l.source [] (events_of_feed l.feed).items);
  room : count_of l.reader + length (events_in_messages l.frames.items l.frames.fault).items ≤ length l.feed;
  numbers : AreNumbered (option_copied l.fn.field_check.plan) l.reader.tables;
  plan : option_copied l.field_check.plan ≡ option_copied l.fn.field_check.plan;
  seen : (l.field_check.differs || list_any (differs_from (option_copied l.field_check.plan)) (events_in_messages l.frames.items l.frames.fault).items)
      ≡ (l.fn.field_check.differs || list_any (differs_from (option_copied l.fn.field_check.plan)) (events_of_feed l.feed).items);
}

abbrev pub decreases-loop-reader : goal.decreases-loop-reader
decreases-loop-reader l = length l.frames.items
