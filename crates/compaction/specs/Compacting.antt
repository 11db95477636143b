-- A feed whose first groups are compacted, and why one isn't (this profile).
use Rattle.std.specs.Prelude.{◌≡◌, ◌⊎◌, ℕ, ◌-◌, ◌<◌, ◌≤◌, ◌^◌, List, [], ◌∷◌, ◌++◌, length, map, take, Bool, true, false, is_none, IfSome, Ok}
use Rattle.std.specs.List.{AllByRecursion, list_any}
use Rattle.row_view.specs.WrittenRow.{IsWithinLimits}
use Rattle.vevent.specs.EventValue.{Begin, Commit}
use Rattle.vevent.specs.WrittenEvent.{written_event}
use Rattle.filter_rule.specs.PlanValue.{PlanValue, table_of_name}
use Rattle.source_feed.specs.FaultNumber.{meant_of}
use Rattle.source_feed.specs.GroupValue.{TableChangeValue, GroupValue}
use Rattle.source_feed.specs.Groups.{groups}
use Rattle.source_feed.specs.Image.{ImageRows}
use Rattle.source_feed.specs.Planned.{source_of, FeedValue}
use Rattle.source_feed.specs.SoundGroups.{sound_groups, StopsBefore}
use Rattle.source_feed.specs.declared.fault.FeedFault.{FeedFault}
use Rattle.source_feed.specs.declared.fault.FeedFault.TheVariants as feed
use Rattle.event_laws.specs.WrittenMessages.{written_response, framed, written_messages}
use Rattle.feed_bytes.specs.Cut.{IsCutBehind}
use Rattle.feed_bytes.specs.FieldBytes.{FieldBytesValue}
use Rattle.compaction_laws.specs.Base.{IsLeft}
use Rattle.compaction_laws.specs.CompactedBytes.{OpensCompacted}
use Rattle.compaction_laws.specs.Portions.{Portion, event_of, rows_of, IsOfOneTable}
use Rattle.compaction.specs.declared.cut.UnknownTables.{UnknownTables}
use Rattle.compaction.specs.declared.cut.UnknownTables.TheVariants.{Refused, LeftOut}
use Rattle.compaction.specs.declared.fault.CompactFault.{CompactFault}
use Rattle.compaction.specs.declared.fault.CompactFault.TheVariants.{NoCut, UnknownTable, Unsound, TooLong, Memory}

-- ---- tables that a plan lacks

-- a change is of a table that the plan lacks
abbrev pub is_unknown : PlanValue → TableChangeValue → Bool
is_unknown plan change = is_none (table_of_name plan change.table)

-- one of some groups has such a change
abbrev pub have_unknown : PlanValue → List GroupValue → Bool
have_unknown plan all = list_any (λ group. list_any (is_unknown plan) group.changes) all

-- such changes would be lost that aren't to be left out
abbrev pub loses : PlanValue → UnknownTables → List GroupValue → Bool
loses plan Refused all = have_unknown plan all
loses plan LeftOut all = false

-- ---- what must hold of a feed that is compacted up to a group

-- it has the group
pub record HasGroup (feed : FeedValue) (number : ℕ) : Type 0 where
  pub some : 0 < number
  pub within : number ≤ length feed.groups

-- no change of its first so many groups is lost that isn't to be left out
abbrev pub KeepsAll : FeedValue → List ℕ → UnknownTables → ℕ → Type 0
KeepsAll feed bytes unknown number = (all : List GroupValue) → groups bytes (source_of feed.plan) ≡ Ok all → loses feed.plan unknown (take number all) ≡ false

-- one is
pub record LosesSome (feed : FeedValue) (bytes : List ℕ) (unknown : UnknownTables) (number : ℕ) : Type 0 where
  pub all : List GroupValue
  pub are : groups bytes (source_of feed.plan) ≡ Ok all
  pub lost : loses feed.plan unknown (take number all) ≡ true

-- these groups are sound
abbrev pub AreSound : FeedValue → ℕ → Type 0
AreSound feed number = number ≤ length (sound_groups feed)

-- ---- the new feed

-- the other events of the message in which a feed is cut, as a message of their own, if there are some
abbrev pub others_message : List (List ℕ) → List ℕ
others_message [] = []
others_message (event ∷ events) = framed (written_response (event ∷ events))

-- a feed in two, behind a group up to which it can be compacted
pub record CutsFeed (feed : FeedValue) (bytes : List ℕ) (unknown : UnknownTables) (number : ℕ) (fields : List FieldBytesValue) (place : List ℕ) (others : List (List ℕ)) (rest : List ℕ) : Type 0 where
  pub has : HasGroup feed number
  pub keeps : KeepsAll feed bytes unknown number
  pub cut : IsCutBehind bytes (source_of feed.plan) number fields place others rest

-- What is written is a base in the place of a feed's groups up to the one of a number, behind it the other events of the message
-- that this one ends in, and the rest as it stands. It opens under the feed's plan as the compacted feed. The base has so many
-- rows, just those that the groups leave, and no change is lost that isn't to be left out.
pub record IsCompaction (feed : FeedValue) (bytes : List ℕ) (unknown : UnknownTables) (number rows : ℕ) (written : List ℕ) : Type 0 where
  pub some : 0 < number
  pub opens : OpensCompacted bytes feed.plan (number - 1) written
  pub fields : List FieldBytesValue
  pub place : List ℕ
  pub others : List (List ℕ)
  pub rest : List ℕ
  pub cut : CutsFeed feed bytes unknown number fields place others rest
  pub base : List ℕ
  pub parts : written ≡ base ++ (others_message others ++ rest)
  pub sound : AreSound feed number
  pub left : ImageRows
  pub are_left : IsLeft (sound_groups feed) number left
  pub count : length left ≡ rows

-- ---- what is too long

-- the message of a portion: the ROW that inserts its rows
abbrev pub portion_message : Portion → List (List ℕ)
portion_message portion = written_event (event_of portion) ∷ []

-- a base as it is written: a message of the FIELDs and a BEGIN, one of each portion, and one of the position and a COMMIT
abbrev pub written_base : List FieldBytesValue → List Portion → List ℕ → List ℕ
written_base fields portions place =
    written_messages ((map (λ field. field.bytes) fields ++ written_event Begin ∷ []) ∷ (map portion_message portions ++ (place ∷ written_event Commit ∷ []) ∷ []))

-- a base of these rows, with what stands behind it, has more bytes than a feed may
pub record IsLongFeed (plan : PlanValue) (fields : List FieldBytesValue) (rows : ImageRows) (place : List ℕ) (others : List (List ℕ)) (rest : List ℕ) : Type 0 where
  pub portions : List Portion
  pub each_portion : AllByRecursion (IsOfOneTable plan) portions
  pub are : rows_of portions ≡ rows
  pub long : 2 ^ 31 ≤ length (written_base fields portions place ++ (others_message others ++ rest))

-- one of the rows has more columns or bytes than a row may, as none does that was read
abbrev pub HasLongRow : ImageRows → Type 0
HasLongRow rows = ¬ AllByRecursion (λ row. IsWithinLimits row.1) rows

-- a base of these rows is beyond the limits, by a row or as a whole
abbrev pub IsOver : PlanValue → List FieldBytesValue → ImageRows → List ℕ → List (List ℕ) → List ℕ → Type 0
IsOver plan fields rows place others rest = HasLongRow rows ⊎ IsLongFeed plan fields rows place others rest

-- a base of the rows that the groups leave is beyond them
pub record IsTooLong (feed : FeedValue) (bytes : List ℕ) (unknown : UnknownTables) (number : ℕ) : Type 0 where
  pub fields : List FieldBytesValue
  pub place : List ℕ
  pub others : List (List ℕ)
  pub rest : List ℕ
  pub cut : CutsFeed feed bytes unknown number fields place others rest
  pub left : ImageRows
  pub are_left : IsLeft (sound_groups feed) number left
  pub over : IsOver feed.plan fields left place others rest

-- ---- refusals

-- a fault of a feed's groups as one of compacting it
abbrev pub refusal_of_feed : FeedFault → CompactFault
refusal_of_feed feed.Memory = Memory
refusal_of_feed fault = Unsound fault

-- What stands in a feed that isn't compacted up to a group: the first of these that isn't as it must be, and last that the new
-- feed would be too long. Memory is wanted of a feed that has the group: of each such one, for the FIELDs in force there or for
-- the base.
abbrev pub IsCause : FeedValue → List ℕ → UnknownTables → ℕ → CompactFault → Type 0
IsCause feed bytes unknown number NoCut = (number ≡ 0) ⊎ (length feed.groups < number)
IsCause feed bytes unknown number UnknownTable = HasGroup feed number × LosesSome feed bytes unknown number
IsCause feed bytes unknown number (Unsound fault) = HasGroup feed number × KeepsAll feed bytes unknown number × IfSome (meant_of fault) (StopsBefore feed number)
IsCause feed bytes unknown number TooLong = HasGroup feed number × KeepsAll feed bytes unknown number × AreSound feed number × IsTooLong feed bytes unknown number
IsCause feed bytes unknown number Memory = HasGroup feed number
