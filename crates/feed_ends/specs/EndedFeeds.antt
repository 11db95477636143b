-- Feeds up to positions (this profile).
use Rattle.std.specs.Prelude.{◌≡◌, ℕ, ◌+◌, not, if◌then◌else◌, List, [], ◌∷◌, length, Option, Some, None, Result, Ok, Err, slice_get}
use Rattle.list_laws.specs.Outcome.{◌>>=◌, refused_if}
use Rattle.gtid_set.specs.Text.{position_of_text}
use Rattle.source_feed.specs.GroupValue.{Position}
use Rattle.source_feed.specs.Planned.{FeedValue}
use Rattle.vrepl_choices.specs.UntilValue.{UntilValue}
use Rattle.feed_ends.specs.AtPosition.{EndsAt, feed_until, reaches}
use Rattle.feed_ends.specs.Positions.{name_some_of, position_for, read_ends, text_for}
use Rattle.feed_ends.specs.declared.end.End.{End}
use Rattle.feed_ends.specs.Faults.{EndReason, no_stream, not_reached}

-- the feed of a stream up to a position, where one is given; refused where the feed doesn't reach it
abbrev pub ended_feed : ℕ → Option Position → FeedValue → Result FeedValue EndReason
ended_feed s None feed = Ok feed
ended_feed s (Some position) feed = if reaches position feed then Ok (feed_until position feed) else Err (not_reached s)

-- a feed in front of further ones
abbrev pub ended_then : FeedValue → Result (List FeedValue) EndReason → Result (List FeedValue) EndReason
ended_then first others = others >>= λ feeds. Ok (first ∷ feeds)

-- the feeds of the streams from s on, each up to its position, one after another, up to the first that doesn't reach it
abbrev pub ended_from : ℕ → List End → List FeedValue → Result (List FeedValue) EndReason
ended_from s ends [] = Ok []
ended_from s ends (feed ∷ feeds) = ended_feed s (position_for s ends) feed >>= λ first. ended_then first (ended_from (s + 1) ends feeds)

-- Feeds up to the positions that are given. The faults are found in this order: a stream that is named isn't there; a text is
-- none of a position; a feed doesn't reach its position.
abbrev pub ended_feeds : List UntilValue → List FeedValue → Result (List FeedValue) EndReason
ended_feeds untils feeds =
    refused_if (not (name_some_of (length feeds) untils)) no_stream >>= λ _.
    read_ends untils >>= λ ends.
    ended_from 0 ends feeds

-- ---- what they are

-- where no position is given a feed is whole; else it ends at the position
abbrev pub IsEndedBy : Option (List ℕ) → FeedValue → FeedValue → Type 0
IsEndedBy None feed ended = ended ≡ feed
IsEndedBy (Some text) feed ended = (position : Position) × (position_of_text text ≡ Ok position) × EndsAt position feed ended

-- as many feeds, each up to the position that is given for its stream
pub record AreEnded (untils : List UntilValue) (feeds ended : List FeedValue) : Type 0 where
  pub count : length ended ≡ length feeds
  pub each : (s : ℕ) (feed one : FeedValue) → slice_get feeds s ≡ Some feed → slice_get ended s ≡ Some one → IsEndedBy (text_for s untils) feed one
