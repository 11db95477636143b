-- What a board means: for each stream what it has read, applied and copied, and the rows of the target (this
-- profile, after Vitess 'Life of a Stream').
use Rattle.std.specs.Prelude.{ℕ, List, Option}
use Rattle.filter_rule.specs.PlanValue.{PlanValue}
use Rattle.pk_copy.specs.KeyValue.{KeyValue}
use Rattle.pk_copy.specs.Marks.{Marks}
use Rattle.source_feed.specs.History.{RowValue}
use Rattle.source_feed.specs.Touches.{PreparedValue}

-- a stream: its plan, the groups that are read, how many of these are applied, how far its tables are
-- copied, and the group of the open snapshot
pub record State : Type 0 where
  pub plan : PlanValue
  pub list : List PreparedValue
  pub applied : ℕ
  pub marks : Marks
  pub snapshot : Option ℕ

-- the rows of a target by rising key, each with the stream that owns it
abbrev pub TargetRows : Type 0
TargetRows = List (KeyValue × (ℕ × RowValue))

-- the streams in order, and the rows of their target
pub record Meaning : Type 0 where
  pub streams : List State
  pub rows : TargetRows
