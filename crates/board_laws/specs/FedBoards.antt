-- A board together with the feeds of its streams (this profile).
use Rattle.std.specs.Prelude.{◌≡◌, List, length, take}
use Rattle.source_feed.specs.Planned.{FeedValue, IsFeed}
use Rattle.source_feed.specs.SoundGroups.{sound_groups}
use Rattle.board_laws.specs.Lawful.{IsLawful}
use Rattle.board_laws.specs.Meaning.{Meaning}
use Rattle.board_laws.specs.Reading.{AllReadTheirFeeds}

-- a board, and the feeds of its streams in their order
pub record Fed : Type 0 where
  pub board : Meaning
  pub feeds : List FeedValue

-- a lawful board with a stream for each feed, which reads that feed
pub record IsFedBoard (feeds : List FeedValue) (board : Meaning) : Type 0 where
  pub lawful : IsLawful board
  pub count : length board.streams ≡ length feeds
  pub reads : AllReadTheirFeeds feeds board

-- a feed has grown: it is whole and of the same plan, and its sound groups begin with those that were sound
pub record HasGrown (old new : FeedValue) : Type 0 where
  pub plan : new.plan ≡ old.plan
  pub whole : IsFeed new
  pub begins : take (length (sound_groups old)) (sound_groups new) ≡ sound_groups old
