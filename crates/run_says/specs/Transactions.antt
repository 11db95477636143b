-- The transactions of a feed (this profile, after the Vitess document 'VReplication'). `table_in_source` and `own_gtid` are
-- those of source_feed/specs/SourceValue.antt, `changes_at` and `is_inner` those of Grammar.antt, `has` is that of gtid_set.
use Rattle.std.specs.Prelude.{◌≡◌, ◌≢◌, ◌⊎◌, ℕ, List, [], ◌∷◌, ◌++◌, Option, Some, None, IsTrue}
use Rattle.std.specs.List.{AllByRecursion, flat_map, list_any}
use Rattle.gtid_set.specs.Position.{has, IsWithin}
use Rattle.vevent.specs.EventValue.{EventValue, Gtid, Begin, Commit, Rollback, Vgtid}
use Rattle.source_feed.specs.GroupValue.{Position, TableChangeValue}
use Rattle.source_feed.specs.SourceValue.{SourceValue, own_gtid}
use Rattle.source_feed.specs.Grammar.{is_inner, changes_at}
use Rattle.source_feed.specs.Groups.{Block}
use Rattle.run_says.specs.Positions.{IsPositionText}

-- the text of the position that an event carries: a GTID's, or a VGTID's of the feed's own shard
abbrev pub position_text : SourceValue → EventValue → Option (List ℕ)
position_text source (Gtid text) = Some text
position_text source (Vgtid entries) = own_gtid source entries
position_text source event = None

-- the last position of some events
pub record HasLast (source : SourceValue) (events : List EventValue) (position : Position) : Type 0 where
  pub before : List EventValue
  pub event : EventValue
  pub behind : List EventValue
  pub split : events ≡ before ++ event ∷ behind
  pub text : List ℕ
  pub carries : position_text source event ≡ Some text
  pub says : IsPositionText text position
  pub last : AllByRecursion (λ later. position_text source later ≡ None) behind

-- only events that may stand between a BEGIN and its end: no BEGIN, COMMIT or ROLLBACK
abbrev pub AreInner : List EventValue → Type 0
AreInner body = AllByRecursion (λ event. IsTrue (is_inner event)) body

-- BEGIN body COMMIT is a block with the body's last position and its changes in order; BEGIN body ROLLBACK is none; outside a
-- position is a block without changes, and else an event is nothing.
pub data AreBlocks (source : SourceValue) : List EventValue → List Block → Type 0 where
  no_more : AreBlocks source [] []
  committed : (body rest : List EventValue) (position : Position) (others : List Block) → AreInner body → HasLast source body position → AreBlocks source rest others
      → AreBlocks source (Begin ∷ body ++ Commit ∷ rest) (record { position = position; changes = flat_map (changes_at source) body } ∷ others)
  rolled_back : (body rest : List EventValue) (blocks : List Block) → AreInner body → AreBlocks source rest blocks → AreBlocks source (Begin ∷ body ++ Rollback ∷ rest) blocks
  lone_position : (event : EventValue) (rest : List EventValue) (text : List ℕ) (position : Position) (others : List Block) → position_text source event ≡ Some text → IsPositionText text position → AreBlocks source rest others
      → AreBlocks source (event ∷ rest) (record { position = position; changes = [] } ∷ others)
  anything_else : (event : EventValue) (rest : List EventValue) (blocks : List Block) → event ≢ Begin → position_text source event ≡ None → AreBlocks source rest blocks → AreBlocks source (event ∷ rest) blocks

-- a block is a repeat where each pair of its position is one of an earlier block's
abbrev pub IsRepeat : List Block → Block → Type 0
IsRepeat earlier block = (uuid number : ℕ) → IsTrue (has block.position uuid number) → IsTrue (list_any (λ one. has one.position uuid number) earlier)

-- a block lies within the position up to which a feed is read, where one is given
abbrev pub LiesBefore : Option Position → Block → Type 0
LiesBefore None block = Unit {0}
LiesBefore (Some end) block = IsWithin block.position end

-- the changes of blocks behind earlier ones: of each that is no repeat and lies before the end
pub data AreChanges (end : Option Position) : List Block → List Block → List TableChangeValue → Type 0 where
  no_block : (earlier : List Block) → AreChanges end earlier [] []
  left_out : (earlier : List Block) (block : Block) (rest : List Block) (changes : List TableChangeValue) → IsRepeat earlier block ⊎ (¬ LiesBefore end block) → AreChanges end (block ∷ earlier) rest changes → AreChanges end earlier (block ∷ rest) changes
  fresh : (earlier : List Block) (block : Block) (rest : List Block) (others : List TableChangeValue) → ¬ IsRepeat earlier block → LiesBefore end block → AreChanges end (block ∷ earlier) rest others → AreChanges end earlier (block ∷ rest) (block.changes ++ others)
