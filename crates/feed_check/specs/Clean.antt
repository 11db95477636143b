-- Feeds of which a check warns of nothing, and feeds of which it notes nothing either, by what stands in them (this profile).
use Rattle.std.specs.Prelude.{◌≡◌, ◌≢◌, ◌↔◌, ℕ, ◌<◌, ◌≤◌, ◌||◌, Bool, true, false, List, [], ◌∷◌, length, Some, None, IfSome, IsSomeAnd, Ok, reverse, slice_get}
use Rattle.std.specs.List.{AllByRecursion, Any}
use Rattle.board_laws.specs.Meaning.{Meaning}
use Rattle.board_laws.specs.Lawful.{IsLawful}
use Rattle.board_laws.specs.Reading.{AllReadTheirFeeds}
use Rattle.board_laws.specs.Runs.{AreDisjoint}
use Rattle.board_laws.specs.RunLaws.{NoneClashes}
use Rattle.board_laws.specs.Schedule.{Reply, IsRun}
use Rattle.filter_rule.specs.PlanValue.{PlanValue, table_of_name}
use Rattle.gtid_set.specs.declared.interval.Interval.{Interval}
use Rattle.proto_wire.specs.Frame.{frames_of}
use Rattle.proto_wire.specs.Parts.{parts, scalar}
use Rattle.source_feed.specs.GroupValue.{Position, TableChangeValue, GroupValue}
use Rattle.source_feed.specs.Groups.{groups}
use Rattle.source_feed.specs.Planned.{FeedValue, source_of}
use Rattle.source_feed.specs.SoundGroups.{sound_groups}
use Rattle.source_feed.specs.Touches.{TouchValue, PreparedValue}
use Rattle.stream_core.specs.declared.step.Step.{Step}
use Rattle.feed_check.specs.Checked.{CheckedValue, checked_feeds}
use Rattle.feed_check.specs.Findings.{AreTrue}
use Rattle.feed_check.specs.KeyedChanges.{KeyedChangeValue, keyed_changes}
use Rattle.feed_check.specs.Skipped.{is_skipped}

-- ---- where a feed begins

-- the position of the first transaction of one source, and of no other one
pub record IsStart (position : Position) : Type 0 where
  pub source : Interval
  pub alone : position ≡ source ∷ []
  pub transaction : source.last ≡ 1

-- the first group, if there is one, stands there
abbrev pub BeginsAtStart : List PreparedValue → Type 0
BeginsAtStart history = IfSome (slice_get history 0) (λ group. IsStart group.position)

-- ---- tables

-- a touch puts a row of the table that passes the stream's filter
pub record PutsPassing (t : ℕ) (touch : TouchValue) : Type 0 where
  pub table : touch.0.table ≡ t
  pub row : IsSomeAnd touch.1 (λ put. put.passes ≡ true)

-- some group puts such a row
abbrev pub HasPassingRow : List PreparedValue → ℕ → Type 0
HasPassingRow history t = Any (λ group. Any (PutsPassing t) group.touches) history

-- ---- changes

-- a change is to a table of the plan
abbrev pub IsNamed : PlanValue → TableChangeValue → Type 0
IsNamed plan change = table_of_name plan change.table ≢ None

-- each change of some groups is
abbrev pub AreNamed : PlanValue → List GroupValue → Type 0
AreNamed plan groups = AllByRecursion (λ group. AllByRecursion (IsNamed plan) group.changes) groups

-- an update leaves its row at the key that it had
abbrev pub KeepsItsKey : KeyedChangeValue → Type 0
KeepsItsKey change = IfSome change.after (λ after. IfSome change.before (λ before. after.0 ≡ before.0))

abbrev pub KeepTheirKeys : List KeyedChangeValue → Type 0
KeepTheirKeys changes = AllByRecursion KeepsItsKey changes

-- ---- events

-- no event of a feed's messages is of a type that is passed over though it may change rows
abbrev pub NothingIsSkipped : List ℕ → Type 0
NothingIsSkipped feed = AllByRecursion (λ message. AllByRecursion (λ event. is_skipped (scalar 1 event) ≡ false) (parts 1 message)) (frames_of feed).items

-- ---- a feed

-- A feed that was opened of these bytes, without a fault. All its groups are sound, and there is one. Each change of the
-- bytes' groups is to a table of the plan, and of those with their keys each is true of the rows that the changes before it
-- leave, from no row on. No event is passed over.
pub record IsFaultlessFeed (bytes : List ℕ) (feed : FeedValue) : Type 0 where
  pub sound : length (sound_groups feed) ≡ length feed.groups
  pub some : 1 ≤ length (sound_groups feed)
  pub changes : List GroupValue
  pub read : groups bytes (source_of feed.plan) ≡ Ok changes
  pub named : AreNamed feed.plan changes
  pub true_of_rows : AreTrue (reverse (keyed_changes feed.plan changes))
  pub told : NothingIsSkipped bytes

-- Such a feed of which nothing is to be noted. Its first group stands at the start of its source. Each table of the plan has a
-- row that passes the filter. Each change leaves its row at its key.
pub record IsPlainFeed (bytes : List ℕ) (feed : FeedValue) : Type 0 where
  pub start : BeginsAtStart (sound_groups feed)
  pub tables : (t : ℕ) → t < length feed.plan.tables → HasPassingRow (sound_groups feed) t
  pub changes : List GroupValue
  pub read : groups bytes (source_of feed.plan) ≡ Ok changes
  pub still : KeepTheirKeys (keyed_changes feed.plan changes)

-- both
pub record IsCleanFeed (bytes : List ℕ) (feed : FeedValue) : Type 0 where
  pub faultless : IsFaultlessFeed bytes feed
  pub plain : IsPlainFeed bytes feed

-- ---- all feeds

-- each of the feeds is so by the bytes of its number
abbrev pub EachFeed : (List ℕ → FeedValue → Type 0) → List (List ℕ) → List FeedValue → Type 0
EachFeed Is bytes feeds = (s : ℕ) (one : List ℕ) (feed : FeedValue) → slice_get bytes s ≡ Some one → slice_get feeds s ≡ Some feed → Is one feed

-- each of the feeds is without a fault, and no key is touched in two of them
pub record AreFaultlessFeeds (bytes : List (List ℕ)) (feeds : List FeedValue) : Type 0 where
  pub each : EachFeed IsFaultlessFeed bytes feeds
  pub apart : AreDisjoint feeds

-- each of the feeds is clean, and no key is touched in two of them
pub record AreCleanFeeds (bytes : List (List ℕ)) (feeds : List FeedValue) : Type 0 where
  pub each : EachFeed IsCleanFeed bytes feeds
  pub apart : AreDisjoint feeds

-- ---- laws

-- checks of feeds, each with its bytes, warn of nothing exactly where the feeds are without a fault
abbrev pub WarnsUnlessFaultless : List CheckedValue → Bool → Type 0
WarnsUnlessFaultless checks warned =
    (bytes : List (List ℕ)) (feeds : List FeedValue) → length bytes ≡ length feeds → checked_feeds bytes feeds ≡ Ok checks → (warned ≡ false) ↔ AreFaultlessFeeds bytes feeds

-- they warn of nothing and note nothing exactly where the feeds are clean
abbrev pub TellsUnlessClean : List CheckedValue → Bool → Bool → Type 0
TellsUnlessClean checks warned noted =
    (bytes : List (List ℕ)) (feeds : List FeedValue) → length bytes ≡ length feeds → checked_feeds bytes feeds ≡ Ok checks → ((warned || noted) ≡ false) ↔ AreCleanFeeds bytes feeds

-- on a lawful board whose streams read feeds without a fault no step is refused since another stream's row stands at a key
abbrev pub FaultlessFeedsNeverClash : Type 0
FaultlessFeedsNeverClash =
    (bytes : List (List ℕ)) (feeds : List FeedValue) → AreFaultlessFeeds bytes feeds
    → (old new : Meaning) (steps : List (ℕ × Step)) (replies : List Reply) → IsRun feeds old steps replies new → IsLawful old → AllReadTheirFeeds feeds old → NoneClashes replies
