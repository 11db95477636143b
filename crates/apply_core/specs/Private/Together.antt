-- Streams that are put together over one target, in order.
use Rattle.std.specs.Prelude.{◌≡◌, ℕ, List, Option, length}
use Rattle.pk_copy.specs.KeyOrder.{key_cmp}
use Rattle.pk_copy.specs.KeyValue.{KeyValue}
use Rattle.target_tables.specs.declared.fault.TableFault.{TableFault}
use Rattle.target_tables.specs.declared.fault.TableFault.TheVariants as table
use Rattle.target_tables.specs.Touches.{last_at, IsLeastClash}
use Rattle.source_feed.specs.History.{RowValue}
use Rattle.board_laws.specs.Meaning.{State, TargetRows, Meaning}
use Rattle.board_laws.specs.Step.{due_at}
use Rattle.board_laws.specs.declared.join_fault.JoinFault.{JoinFault}
use Rattle.board_laws.specs.declared.join_fault.JoinFault.TheVariants.{WrongPlan, HistoriesDiffer, OwnedByOther, Memory}
use Rattle.board_laws.specs.Chosen.{all_chosen}
use Rattle.board_laws.specs.Joined.{rows_from}
use Rattle.board_laws.specs.Compatible.{AreApart, AreCompatible}
use Rattle.board_laws.specs.RefusedJoin.{IsFirstClash}
use Rattle.apply_core.specs.Private.Meeting.{AreFurtherSides}
use Rattle.apply_core.specs.declared.joining.JoinSource.{JoinSource}
use Rattle.apply_core.specs.declared.joining.JoinSource.TheVariants.{First, Second, Both}

-- the rows are those of the cuts of these streams, which share no key
pub record AreTogether (states : List State) (rows : TargetRows) : Type 0 where
  pub apart : AreApart states
  pub target : rows ≡ rows_from 0 states

-- a row of the first stream
abbrev pub of_first : KeyValue × RowValue → KeyValue × (ℕ × RowValue)
of_first row = (row.0, (0, row.1))

-- puts are the rows of a stream's cut
abbrev pub ArePutsOfCut : State → List (KeyValue × Option RowValue) → Type 0
ArePutsOfCut state puts = (key : KeyValue) → last_at key_cmp puts key ≡ due_at state key

-- the next stream isn't put to these: at the least key a lower one has a row; or want of memory
abbrev pub IsNotPut : List State → State → TableFault KeyValue → Type 0
IsNotPut lower state (table.OwnedByOther key owner) = IsLeastClash key_cmp (rows_from 0 lower) (length lower) (due_at state) key owner
IsNotPut lower state table.Memory = Unit {0}

-- the streams aren't put together
abbrev pub AreNotTogether : List State → JoinFault → Type 0
AreNotTogether states (OwnedByOther key owner) = IsFirstClash states key owner
AreNotTogether states Memory = Unit {0}
AreNotTogether states WrongPlan = ⊥
AreNotTogether states (HistoriesDiffer s) = ⊥

-- where the streams of a join come from: all from one of the boards, or from both, each from the side on which it is further on
abbrev pub IsJoinSource : Meaning → Meaning → JoinSource → Type 0
IsJoinSource a b First = AreCompatible a b × (all_chosen a.streams b.streams ≡ a.streams)
IsJoinSource a b Second = AreCompatible a b × (all_chosen a.streams b.streams ≡ b.streams)
IsJoinSource a b (Both sides) = AreCompatible a b × AreFurtherSides a.streams b.streams sides.items
