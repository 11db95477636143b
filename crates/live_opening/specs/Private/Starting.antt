-- The board that is run to the ends of its feeds.
use Rattle.std.specs.Prelude.{◌≡◌, ℕ, List, Option, None}
use Rattle.filter_rule.specs.PlanValue.{PlanValue}
use Rattle.source_feed.specs.Planned.{FeedValue}
use Rattle.apply_core.specs.Ended.{AllHaveEnded, IsRowsUnion}
use Rattle.apply_core.specs.Shown.{all_rows}
use Rattle.live_core.specs.Live.{LiveValue}
use Rattle.live_opening.specs.Opened.{IsNotRun, IsNotTakenUp, IsTakenUp}
use Rattle.live_opening.specs.declared.starting.Unstarted.{Unstarted}
use Rattle.live_opening.specs.declared.starting.Unstarted.TheVariants.{Checkpoint, Stream}

-- The checkpoint is taken up over these feeds, and then all streams have come to their ends. Nothing is told.
pub record HasStarted (feeds : List FeedValue) (bytes : List (List ℕ)) (checkpoint : Option (List ℕ)) (live : LiveValue) : Type 0 where
  pub fed : live.fed.feeds ≡ feeds
  pub known : live.bytes ≡ bytes
  pub taken_up : IsTakenUp feeds checkpoint
  pub ended : AllHaveEnded live.fed.feeds live.fed.board
  pub rows : IsRowsUnion live.fed.feeds (all_rows live.fed.board.rows)
  pub untold : live.told ≡ None

-- the checkpoint isn't resumed, or the run to the feeds' ends is refused
abbrev pub IsUnstarted : List PlanValue → List FeedValue → Option (List ℕ) → Unstarted → Type 0
IsUnstarted plans feeds checkpoint (Checkpoint fault) = IsNotTakenUp plans feeds checkpoint fault
IsUnstarted plans feeds checkpoint (Stream refusal) = IsNotRun plans feeds checkpoint refusal
