-- What `save`, `join` and `follow` hand on, in bytes alone: the checkpoint of a board that shows what a workflow and the bytes
-- of its feeds say (this profile).
use Rattle.std.specs.Prelude.{◌≡◌, ℕ, List, [], map, Option, Some, Ok, slice_get}
use Rattle.filter_rule.specs.PlanValue.{PlanValue}
use Rattle.filter_rule.specs.Reading.{plans_of}
use Rattle.source_feed.specs.Planned.{FeedValue}
use Rattle.dump.specs.Dump.{dump_of}
use Rattle.printing.specs.Printing.{Written, IsWritten}
use Rattle.board_laws.specs.Meaning.{Meaning}
use Rattle.board_laws.specs.Sources.{ShowAll}
use Rattle.board_laws.specs.Compatible.{plans_of_board}
use Rattle.checkpoint_laws.specs.Written.{checkpoint_of}
use Rattle.apply_core.specs.Ended.{AllHaveEnded, AreAsBefore, HaveEnded}
use Rattle.apply_core.specs.Shown.{all_rows}
use Rattle.vrepl_choices.specs.UntilValue.{UntilValue, until_value}
use Rattle.vrepl_choices.specs.declared.feed_form.FeedForm.{FeedForm}
use Rattle.feed_ends.specs.EndedFeeds.{AreEnded}
use Rattle.vrepl_main.specs.Followed.{FollowedValue, saved_asked}
use Rattle.vrepl_main.specs.Given.{given_value}
use Rattle.vrepl_main.specs.HexText.{feed_bytes}
use Rattle.vrepl_main.specs.OnlyFollowed.{IsStart}
use Rattle.vrepl_main.specs.RunIsRight.{AreOpened, RunIsRight}
use Rattle.vrepl_main.specs.declared.named_inputs.FollowInputs.{FollowInputs}

-- ---- a board

-- The workflow says plans, one a stream; the bytes are their feeds; where a position is given for a feed, just its groups up
-- to the last that lies within the position are there; and a board of these plans shows all its sources among them: of each
-- stream the rows that the groups up to the stream's own position leave, as far as they are copied, and no other rows.
pub record ShowsAt (workflow : List ℕ) (feeds : List (List ℕ)) (until : List UntilValue) (opened : List FeedValue) (board : Meaning) : Type 0 where
  pub plans : List PlanValue
  pub says : plans_of workflow ≡ Ok plans
  pub whole : List FeedValue
  pub fed : AreOpened plans feeds whole
  pub ended : AreEnded until whole opened
  pub planned : plans_of_board board ≡ plans
  pub sources : ShowAll opened board

-- ---- its checkpoint

-- the bytes are the checkpoint of such a board
pub record CheckpointIsRight (workflow : List ℕ) (feeds : List (List ℕ)) (until : List UntilValue) (bytes : List ℕ) : Type 0 where
  pub opened : List FeedValue
  pub board : Meaning
  pub shows : ShowsAt workflow feeds until opened board
  pub checkpoint : bytes ≡ checkpoint_of board

-- The board is such a one, and its streams stand at the feeds' ends: all groups that are there are read and applied, and all
-- tables are copied. The bytes are its checkpoint, and its dump is the text that `run` writes of the same bytes.
pub record FollowIsRight (workflow : List ℕ) (feeds : List (List ℕ)) (until : List UntilValue) (followed : FollowedValue) : Type 0 where
  pub opened : List FeedValue
  pub shows : ShowsAt workflow feeds until opened followed.board
  pub ended : AllHaveEnded opened followed.board
  pub checkpoint : followed.checkpoint ≡ checkpoint_of followed.board
  pub dump : RunIsRight workflow feeds until (dump_of followed.plan (all_rows followed.board.rows))

-- The board is such a one, and these streams stand at the feeds' ends, the others where they stand on the board of the
-- checkpoint that was given, or at the beginning. The bytes are its checkpoint, and its tables are those of the first plan.
pub record OnlyIsRight (workflow : List ℕ) (feeds : List (List ℕ)) (until : List UntilValue) (only : List ℕ) (given : Option (List ℕ)) (followed : FollowedValue) : Type 0 where
  pub opened : List FeedValue
  pub shows : ShowsAt workflow feeds until opened followed.board
  pub ended : HaveEnded only opened followed.board
  pub start : Meaning
  pub starts : IsStart (record { plans = shows.plans; feeds = opened }) given start
  pub others : AreAsBefore only start followed.board
  pub checkpoint : followed.checkpoint ≡ checkpoint_of followed.board
  pub tables : slice_get shows.plans 0 ≡ Some followed.plan

-- ---- what a command hands on

-- whole feeds in this form, decoded where they are given as hexadecimal text, make this checkpoint
abbrev pub MakesCheckpoint : FeedForm → List ℕ → List (List ℕ) → List ℕ → Type 0
MakesCheckpoint form workflow given bytes = (feeds : List (List ℕ)) × (map (feed_bytes form) given ≡ map Some feeds) × CheckpointIsRight workflow feeds [] bytes

-- they make one, and just this was written
abbrev pub WritesCheckpoint : FeedForm → List ℕ → List (List ℕ) → Written → Written → Type 0
WritesCheckpoint form workflow given old new = (bytes : List ℕ) × MakesCheckpoint form workflow given bytes × IsWritten old new bytes

-- the feeds' bytes make this board with its checkpoint
abbrev pub FollowsRight : FollowInputs → FollowedValue → Type 0
FollowsRight inputs followed =
    (feeds : List (List ℕ)) × (map given_value inputs.feeds.now ≡ map Some feeds) × FollowIsRight inputs.workflow.now feeds (map until_value inputs.until.now) followed

-- the same where streams are named that are to run alone
abbrev pub FollowsOnlyRight : FollowInputs → List ℕ → FollowedValue → Type 0
FollowsOnlyRight inputs only followed =
    (feeds : List (List ℕ)) × (map given_value inputs.feeds.now ≡ map Some feeds)
    × OnlyIsRight inputs.workflow.now feeds (map until_value inputs.until.now) only (saved_asked inputs) followed
