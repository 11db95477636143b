-- Laws, as statements: what the exact functions below read is what the relations say. Each is the contract of a function
-- without a body.
use Rattle.std.specs.Prelude.{◌≡◌, ◌↔◌, ℕ, List, Option, None, Some, Ok, length, slice_get}
use Rattle.gtid_set.specs.declared.interval.Interval.{Interval}
use Rattle.gtid_set.specs.Text.{position_of_text}
use Rattle.row_view.specs.Row.{RowValue, row_of_message}
use Rattle.vevent.specs.EventValue.{EventValue}
use Rattle.vevent.specs.Event.{event_at}
use Rattle.filter_text.specs.FilterText.{FilterMeaning, filter_of}
use Rattle.filter_rule.specs.PlanValue.{PlanValue}
use Rattle.filter_rule.specs.Reading.{plans_of}
use Rattle.pk_copy.specs.KeyOrder.{key_cmp}
use Rattle.pk_copy.specs.KeyValue.{KeyValue}
use Rattle.target_tables.specs.Rising.{IsRising}
use Rattle.source_feed.specs.EventList.{events_of_feed}
use Rattle.source_feed.specs.History.{touches_in, kept_at}
use Rattle.source_feed.specs.Planned.{FeedValue, groups_under}
use Rattle.source_feed.specs.SoundGroups.{sound_groups}
use Rattle.vrepl_choices.specs.UntilValue.{UntilValue}
use Rattle.feed_ends.specs.EndedFeeds.{IsEndedBy, AreEnded}
use Rattle.dump.specs.Dump.{dump_of}
use Rattle.dump.specs.DumpRowsValue.{DumpRowsValue, row_with_key}
use Rattle.run_says.specs.Messages.{SaysRow, SaysEvent, HasEvents}
use Rattle.run_says.specs.Positions.{IsPositionText}
use Rattle.run_says.specs.Rules.{SaysFilter}
use Rattle.run_says.specs.Says.{SaysTouches}
use Rattle.run_says.specs.Workflow.{SaysPlans}
use Rattle.run_says.specs.RunIsRight.{RunIsRight}

-- a row message that can be read says its columns
abbrev pub RowsSayTheirColumns : Type 0
RowsSayTheirColumns = (bytes : List ℕ) (row : RowValue) → row_of_message bytes ≡ Ok row → SaysRow bytes row

-- the bytes of an event that can be read say it
abbrev pub BytesSayTheirEvent : Type 0
BytesSayTheirEvent = (bytes : List ℕ) (event : EventValue) → event_at bytes ≡ Ok event → SaysEvent bytes event

-- a feed that can be read to its end has its events
abbrev pub FeedsHaveTheirEvents : Type 0
FeedsHaveTheirEvents = (feed : List ℕ) → (events_of_feed feed).fault ≡ None → HasEvents feed (events_of_feed feed).items

-- the text of a position that can be read says it
abbrev pub TextsSayTheirPosition : Type 0
TextsSayTheirPosition = (text : List ℕ) (position : List Interval) → position_of_text text ≡ Ok position → IsPositionText text position

-- the text of a filter that can be read says it
abbrev pub TextsSayTheirFilter : Type 0
TextsSayTheirFilter = (text : List ℕ) (said : FilterMeaning) → filter_of text ≡ Some said → SaysFilter text (record { columns = said.columns; rows = said.rows })

-- a workflow that can be read says its plans
abbrev pub WorkflowsSayTheirPlans : Type 0
WorkflowsSayTheirPlans = (text : List ℕ) (plans : List PlanValue) → plans_of text ≡ Ok plans → SaysPlans text plans

-- a feed that can be opened, all groups of which are sound up to a position, says their touches
abbrev pub FeedsSayTheirTouches : Type 0
FeedsSayTheirTouches =
    (plan : PlanValue) (until : Option (List ℕ)) (bytes : List ℕ) (whole feed : FeedValue) → whole.plan ≡ plan → groups_under bytes plan ≡ Ok whole.groups → IsEndedBy until whole feed → length (sound_groups feed) ≡ length feed.groups
    → SaysTouches plan until bytes (touches_in (sound_groups feed))

-- ---- a run

-- a feed under a plan has the groups that its bytes say
pub record IsGiven (plan : PlanValue) (bytes : List ℕ) (feed : FeedValue) : Type 0 where
  pub plan_of : feed.plan ≡ plan
  pub groups : groups_under bytes plan ≡ Ok feed.groups

-- as many feeds as plans, each of the bytes of its number under the plan of its number; and of each the groups up to the position
-- that is given for it, all of them sound
pub record AreGiven (plans : List PlanValue) (bytes : List (List ℕ)) (until : List UntilValue) (feeds : List FeedValue) : Type 0 where
  pub given : length bytes ≡ length plans
  pub whole : List FeedValue
  pub count : length whole ≡ length plans
  pub each : (s : ℕ) (plan : PlanValue) (one : List ℕ) (feed : FeedValue) → slice_get plans s ≡ Some plan → slice_get bytes s ≡ Some one → slice_get whole s ≡ Some feed → IsGiven plan one feed
  pub ended : AreEnded until whole feeds
  pub sound : (s : ℕ) (feed : FeedValue) → slice_get feeds s ≡ Some feed → length (sound_groups feed) ≡ length feed.groups

-- all groups of feed s leave a row at the key that passes, and these are its kept columns
pub record FeedKeeps (feeds : List FeedValue) (s : ℕ) (key : KeyValue) (row : RowValue) : Type 0 where
  pub feed : FeedValue
  pub there : slice_get feeds s ≡ Some feed
  pub kept : kept_at feed.plan (sound_groups feed) (length feed.groups) key ≡ Some row

-- by rising key just the rows that feeds keep, no two at one key
pub record AreRowsOf (feeds : List FeedValue) (rows : DumpRowsValue) : Type 0 where
  pub rising : IsRising key_cmp rows
  pub each_key : (key : KeyValue) (row : RowValue) → (row_with_key rows key ≡ Some row) ↔ ((s : ℕ) × FeedKeeps feeds s key row)
  pub apart : (s t : ℕ) (key : KeyValue) (row other : RowValue) → FeedKeeps feeds s key row → FeedKeeps feeds t key other → s ≡ t

-- the dump of the rows that the feeds of a workflow's plans keep, under the first plan, is what the relations say
abbrev pub RunsAreRight : Type 0
RunsAreRight =
    (workflow : List ℕ) (bytes : List (List ℕ)) (until : List UntilValue) (plans : List PlanValue) (feeds : List FeedValue) (rows : DumpRowsValue) (first : PlanValue) → plans_of workflow ≡ Ok plans → AreGiven plans bytes until feeds
    → AreRowsOf feeds rows → slice_get plans 0 ≡ Some first → RunIsRight workflow bytes until (dump_of first rows)
