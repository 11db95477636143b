-- What a board that goes on keeps inside.
use Rattle.std.specs.Prelude.{◌≡◌, List, IfSome, Option, length}
use Rattle.source_feed.specs.Planned.{FeedValue}
use Rattle.board_laws.specs.Meaning.{Meaning}
use Rattle.live_core.specs.declared.source.Source.{Source}
use Rattle.live_core.specs.Live.{AreOfSources, AreRunning, HasGoneOnFrom}

-- there is a source for each feed, all tables are copied, and the streams have gone on since what was told
pub record IsKept (feeds : List FeedValue) (board : Meaning) (sources : List Source) (told : Option Meaning) : Type 0 where
  pub count : length sources ≡ length feeds
  pub known : AreOfSources feeds sources
  pub running : AreRunning board
  pub since : IfSome told (HasGoneOnFrom board)
