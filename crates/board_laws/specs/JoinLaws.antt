-- Laws of joins, as statements: each is the contract of a function without a body.
use Rattle.std.specs.Prelude.{◌≡◌, ◌≤◌, ℕ, List, length, Some, slice_get}
use Rattle.std.specs.Cmp.{IsTotalOrder}
use Rattle.std.specs.declared.cmp.Ordering.TheVariants.{Equal}
use Rattle.source_feed.specs.Planned.{FeedValue}
use Rattle.board_laws.specs.Meaning.{State, Meaning}
use Rattle.board_laws.specs.Lawful.{IsSoundState, IsLawful}
use Rattle.board_laws.specs.Reading.{AllReadTheirFeeds}
use Rattle.board_laws.specs.Runs.{AreDisjoint}
use Rattle.board_laws.specs.declared.join_fault.JoinFault.{JoinFault}
use Rattle.board_laws.specs.declared.join_fault.JoinFault.TheVariants.{Memory}
use Rattle.board_laws.specs.StateOrder.{state_cmp, running_cmp}
use Rattle.board_laws.specs.Chosen.{all_chosen_running}
use Rattle.board_laws.specs.Joined.{board_of, joined}
use Rattle.board_laws.specs.Compatible.{plans_of_board, OfEachStream, AreRunning, AreOfOneHistory, AreApart, AreCompatible}
use Rattle.board_laws.specs.RefusedJoin.{IsRefusedJoin}

-- ---- the order of states

-- the order is total
abbrev pub StatesAreOrdered : Type 0
StatesAreOrdered = IsTotalOrder state_cmp

-- states of one plan and one history that it holds equal are equal
abbrev pub StatesThatTieAreEqual : Type 0
StatesThatTieAreEqual = (x y : State) → IsSoundState x → IsSoundState y → x.plan ≡ y.plan → AreOfOneHistory x y → state_cmp x y ≡ Equal → x ≡ y

-- where all tables are copied it is the order by what is applied, then by what is read
abbrev pub RunningStatesByWhatIsRead : Type 0
RunningStatesByWhatIsRead = (x y : State) → IsSoundState x → IsSoundState y → x.plan ≡ y.plan → AreRunning x y → state_cmp x y ≡ running_cmp x y

-- ---- joined boards

-- sound states over the same tables whose cuts share no key are, with the rows of their cuts, a lawful board
abbrev pub StatesApartAreLawful : Type 0
StatesApartAreLawful =
    (states : List State) → 1 ≤ length states → length states ≤ 64 → ((s : ℕ) (state : State) → slice_get states s ≡ Some state → IsSoundState state)
    → ((s t : ℕ) (x y : State) → slice_get states s ≡ Some x → slice_get states t ≡ Some y → x.plan.tables ≡ y.plan.tables) → AreApart states → IsLawful (board_of states)

-- a lawful board is the board of its states, whose cuts share no key
abbrev pub BoardsAreOfTheirStates : Type 0
BoardsAreOfTheirStates = (a : Meaning) → IsLawful a → AreApart a.streams × (a ≡ board_of a.streams)

-- a joined board is lawful
abbrev pub JoinsAreLawful : Type 0
JoinsAreLawful = (a b : Meaning) → IsLawful a → IsLawful b → AreCompatible a b → IsLawful (joined a b)

-- either way round it is the same board
abbrev pub JoinsCommute : Type 0
JoinsCommute = (a b : Meaning) → IsLawful a → IsLawful b → AreCompatible a b → AreCompatible b a × (joined b a ≡ joined a b)

-- boards whose tables are all copied are joined by what is applied and read alone
abbrev pub RunningJoinsByWhatIsRead : Type 0
RunningJoinsByWhatIsRead =
    (a b : Meaning) → IsLawful a → IsLawful b → AreCompatible a b → OfEachStream AreRunning a.streams b.streams → joined a b ≡ board_of (all_chosen_running a.streams b.streams)

-- a board joined with itself is the board
abbrev pub JoinsWithItself : Type 0
JoinsWithItself = (a : Meaning) → IsLawful a → AreCompatible a a × (joined a a ≡ a)

-- three boards of which each two can be joined are joined to the same in either grouping, and can be
abbrev pub JoinsAssociate : Type 0
JoinsAssociate =
    (a b c : Meaning) → IsLawful a → IsLawful b → IsLawful c → AreCompatible a b → AreCompatible b c → AreCompatible a c
    → AreCompatible (joined a b) c × AreCompatible a (joined b c) × (joined (joined a b) c ≡ joined a (joined b c))

-- boards whose streams read the same feeds, which share no key, can be joined, however far their tables are copied
abbrev pub DisjointFeedsCanBeJoined : Type 0
DisjointFeedsCanBeJoined =
    (feeds : List FeedValue) (a b : Meaning) → AllReadTheirFeeds feeds a → AllReadTheirFeeds feeds b → AreDisjoint feeds → plans_of_board a ≡ plans_of_board b → AreCompatible a b

-- ---- refusals

-- boards that can be joined are refused for want of memory alone
abbrev pub CompatibleBoardsAreJoined : Type 0
CompatibleBoardsAreJoined = (a b : Meaning) (fault : JoinFault) → AreCompatible a b → IsRefusedJoin a b fault → fault ≡ Memory
