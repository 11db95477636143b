-- Which blocks are groups, block by block (this profile).
use Rattle.std.specs.Prelude.{◌≡◌, ℕ, ◌+◌, List, [], ◌∷◌, take, false, Some, slice_get, if◌then◌else◌}
use Rattle.gtid_set.specs.Position.{union_of, within_of}
use Rattle.source_feed.specs.GroupValue.{Position, GroupValue}
use Rattle.source_feed.specs.SourceValue.{SourceValue}
use Rattle.source_feed.specs.PastEvents.{PastEvents}
use Rattle.source_feed.specs.Groups.{Block, groups_of}
use Rattle.source_feed.specs.Grammar.{blocks}

-- a set and the positions of some blocks
abbrev pub union_with : Position → List Block → Position
union_with seen [] = seen
union_with seen (block ∷ more) = union_with (union_of seen block.position) more

-- how many of some blocks have a position that isn't within those before it, `seen` among them
abbrev pub kept_count : Position → List Block → ℕ
kept_count seen [] = 0
kept_count seen (block ∷ more) = (if within_of block.position seen then 0 else 1) + kept_count (union_of seen block.position) more

-- the union of the positions of the blocks before block i
abbrev pub union_before : List Block → ℕ → Position
union_before all i = union_with [] (take i all)

-- how many of the blocks before block i are kept
abbrev pub kept_before : List Block → ℕ → ℕ
kept_before all i = kept_count [] (take i all)

-- a block with the number of its group
abbrev pub group_as : ℕ → Block → GroupValue
group_as number block = record { number = number; position = block.position; changes = block.changes }

-- block i is one that is kept: its position isn't within the union of the positions before it
pub record IsKeptBlock (all : List Block) (i : ℕ) (block : Block) : Type 0 where
  pub here : slice_get all i ≡ Some block
  pub more : within_of block.position (union_before all i) ≡ false

-- The groups are the blocks that are kept: each such block is a group, whose number is 1 plus the
-- number of kept blocks before it, and each group is such a block.
pub record AreGroupsOf (all : List Block) (groups : List GroupValue) : Type 0 where
  pub each_block : (i : ℕ) (block : Block) → IsKeptBlock all i block → slice_get groups (kept_before all i) ≡ Some (group_as (kept_before all i + 1) block)
  pub each_group : (n : ℕ) (group : GroupValue) → slice_get groups n ≡ Some group
      → (i : ℕ) × (block : Block) × IsKeptBlock all i block × (kept_before all i ≡ n) × (group ≡ group_as (n + 1) block)

-- the groups of a past are those of its blocks
abbrev pub AreKeptBlocks : SourceValue → PastEvents → Type 0
AreKeptBlocks source past = AreGroupsOf (blocks source past) (groups_of source past)
