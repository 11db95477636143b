-- How far the streams are below one that a run is refused by (this profile).
use Rattle.std.specs.Prelude.{ℕ, ◌<◌, List, IfSome}
use Rattle.source_feed.specs.Planned.{FeedValue}
use Rattle.board_laws.specs.Meaning.{Meaning}
use Rattle.apply_core.specs.declared.run_refusal.RunRefusal.{RunRefusal}
use Rattle.apply_core.specs.Ended.{StreamHasEnded, IsFedBoard}
use Rattle.apply_core.specs.RunRefused.{refused_stream}

-- each stream below s of a board has come to its feed's end
abbrev pub HaveEndedBelow : List FeedValue → Meaning → ℕ → Type 0
HaveEndedBelow feeds board s = (t : ℕ) → t < s → StreamHasEnded feeds t board

-- on the board that a refused run leaves each stream below the one that is refused has
abbrev pub LowerHaveEnded : List FeedValue → Meaning → RunRefusal → Type 0
LowerHaveEnded feeds board refusal = IfSome (refused_stream refusal) (HaveEndedBelow feeds board)

-- there is a board of these feeds on which each stream below s has: together they come to their feeds' ends
pub record EndsBelow (feeds : List FeedValue) (s : ℕ) : Type 0 where
  pub board : Meaning
  pub fed : IsFedBoard feeds board
  pub lower : HaveEndedBelow feeds board s

-- there is one for the stream that is refused
abbrev pub LowerCanEnd : List FeedValue → RunRefusal → Type 0
LowerCanEnd feeds refusal = IfSome (refused_stream refusal) (EndsBelow feeds)
