use Rattle.std.proofs.Common.{rules}
use Rattle.stream_core.proofs.cursor.Cursor.phase.Goals as goal

pub returns-else-has_snapshot_at : goal.returns-else-has_snapshot_at
returns-else-has_snapshot_at c = search rules

pub returns-then-has_snapshot_at : goal.returns-then-has_snapshot_at
returns-then-has_snapshot_at c = search rules

pub returns-then-is_none : goal.returns-then-is_none
returns-then-is_none c = search rules

pub returns-then-self : goal.returns-then-self
returns-then-self c = search rules
