use Rattle.std.proofs.Common.{◌≡◌, ◌+◌, ◌≤◌, ◌||◌, List, false, length}
use Rattle.std.specs.Prelude.{option_copied}
use Rattle.std.specs.List.{list_any}
use Rattle.source_feed.specs.GroupValue.{GroupValue}
use Rattle.source_feed.specs.PastEvents.{PastEvents, is_open}
use Rattle.source_feed.specs.Growing.{events_so_far}
use Rattle.source_feed.specs.Private.EventByEvent.{past_behind}
use Rattle.source_feed.specs.Private.FeedTables.{AreNumbered}
use Rattle.source_feed.specs.Private.ReaderState.{IsBehind, count_of}
use Rattle.source_feed.specs.Private.Walked.{Walked}
use Rattle.source_feed.specs.Planned.{differs_from}
use Rattle.source_feed.specs.TakesMemory.{WantsFrom}
use Rattle.source_feed.proofs.growing.put_piece.Given as goal

-- the messages so far are taken and seen, and those to come are what is left of the piece
abbrev pub invariant-loop-message : goal.invariant-loop-message
invariant-loop-message l = record {
  meaning : (base : List GroupValue) (earlier : PastEvents) → IsBehind base l.source earlier l.fn.reader → (history : PastEvents)
      × (past_behind l.source earlier (events_so_far l.piece).items (events_so_far l.piece).fault ≡ past_behind l.source history (events_so_far l.rest).items (events_so_far l.rest).fault)
      × IsBehind base l.source history l.reader
      × (is_open earlier ≡ false → Walked l.piece l.due l.rest earlier history)
      × (WantsFrom l.source history (events_so_far l.rest).items → WantsFrom l.source earlier (events_so_far l.piece).items);
  room : count_of l.reader + length l.rest ≤ count_of l.fn.reader + length l.piece;
  numbers : AreNumbered (option_copied l.fn.field_check.plan) l.fn.reader.tables → AreNumbered (option_copied l.fn.field_check.plan) l.reader.tables;
  plan : option_copied l.field_check.plan ≡ option_copied l.fn.field_check.plan;
  seen : (l.field_check.differs || list_any (differs_from (option_copied l.field_check.plan)) (events_so_far l.rest).items)
      ≡ (l.fn.field_check.differs || list_any (differs_from (option_copied l.fn.field_check.plan)) (events_so_far l.piece).items);
}

abbrev pub decreases-loop-message : goal.decreases-loop-message
decreases-loop-message l = length l.rest
