use Rattle.std.proofs.Common.{rules}
use Rattle.vindex.proofs.key_ranges.KeyRange.holds.Goals as goal

pub returns-else-is_le : goal.returns-else-is_le
returns-else-is_le c = search rules

pub returns-then-is_le : goal.returns-then-is_le
returns-then-is_le c = search rules
