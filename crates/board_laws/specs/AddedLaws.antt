-- Laws of added tables, as statements: each is the contract of a function without a body.
use Rattle.std.specs.Prelude.{◌≡◌, ℕ, ◌≤◌, List, length, Some, None, slice_get}
use Rattle.filter_rule.specs.Extending.{IsExtended}
use Rattle.pk_copy.specs.KeyOrder.{key_cmp}
use Rattle.pk_copy.specs.KeyValue.{KeyValue}
use Rattle.source_feed.specs.declared.fault.FeedFault.{FeedFault}
use Rattle.source_feed.specs.Planned.{FeedValue, IsFeed}
use Rattle.stream_core.specs.declared.phase.Phase.TheVariants.{CatchUp}
use Rattle.stream_core.specs.Standing.{phase_of}
use Rattle.target_tables.specs.Contents.{value_at}
use Rattle.board_laws.specs.Cut.{cut_in}
use Rattle.board_laws.specs.Lawful.{standing_of, IsSoundState, IsLawful}
use Rattle.board_laws.specs.Meaning.{State, Meaning}
use Rattle.board_laws.specs.Reading.{AllReadTheirFeeds}
use Rattle.board_laws.specs.Sources.{applied_position}
use Rattle.board_laws.specs.Extended.{extended_state, extended_board, MayExtend}
use Rattle.board_laws.specs.GoingOn.{GoesOn, MeetsUnsound, IsOfOtherHistory}

-- ---- one stream

-- a stream to which tables are added is sound
abbrev pub ExtendedStatesAreSound : Type 0
ExtendedStatesAreSound =
    (feed : FeedValue) (state : State) → IsSoundState state → IsFeed feed → IsExtended state.plan feed.plan → GoesOn feed state → IsSoundState (extended_state feed state)

-- it stands at the position at which it stood
abbrev pub PositionsStay : Type 0
PositionsStay = (feed : FeedValue) (state : State) → state.applied ≤ length state.list → GoesOn feed state → applied_position (extended_state feed state) ≡ applied_position state

-- ---- the board

-- a lawful board to which tables are added is lawful
abbrev pub ExtendedBoardsAreLawful : Type 0
ExtendedBoardsAreLawful = (feeds : List FeedValue) (board : Meaning) → IsLawful board → MayExtend feeds board → IsLawful (extended_board feeds board)

-- its streams read the feeds
abbrev pub ExtendedBoardsReadTheirFeeds : Type 0
ExtendedBoardsReadTheirFeeds = (feeds : List FeedValue) (board : Meaning) → MayExtend feeds board → AllReadTheirFeeds feeds (extended_board feeds board)

-- each stream's rows are due where they were, at keys of the old tables
abbrev pub CutsStay : Type 0
CutsStay =
    (feeds : List FeedValue) (board : Meaning) → IsLawful board → MayExtend feeds board → (s : ℕ) (key : KeyValue)
    → cut_in (extended_board feeds board) s key ≡ cut_in board s key

-- ---- the new tables

-- no row of a table that is added stands in the target
abbrev pub AddedTablesAreBare : Type 0
AddedTablesAreBare =
    (board : Meaning) → IsLawful board → (s : ℕ) (state : State) (key : KeyValue) → slice_get board.streams s ≡ Some state → length state.plan.tables ≤ key.table
    → value_at key_cmp board.rows key ≡ None

-- and each stream has to copy them: it isn't Running
abbrev pub AddedTablesAreToCopy : Type 0
AddedTablesAreToCopy =
    (feeds : List FeedValue) (board : Meaning) → IsLawful board → MayExtend feeds board
    → (s : ℕ) (state : State) → slice_get (extended_board feeds board).streams s ≡ Some state → phase_of (standing_of state) ≡ CatchUp

-- ---- refusals

-- a feed that goes on isn't stopped: no group up to the applied one is unsound or another
abbrev pub FeedsThatGoOnArentStopped : Type 0
FeedsThatGoOnArentStopped = (feed : FeedValue) (state : State) → GoesOn feed state → (IsOfOtherHistory feed state → ⊥) × ((fault : FeedFault) → MeetsUnsound feed state fault → ⊥)
