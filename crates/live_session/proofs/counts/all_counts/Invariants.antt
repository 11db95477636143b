use Rattle.std.proofs.Common.{◌≡◌, ℕ, length, map, Some, slice_get}
use Rattle.filter_rule.specs.PlanTable.{TableValue}
use Rattle.live_json.specs.Answers.{TableCounts}
use Rattle.live_json.specs.Private.Parts.{counts_value}
use Rattle.live_session.specs.Counts.{AreCounts}
use Rattle.live_session.proofs.counts.all_counts.Given as goal

-- the first tables are counted
abbrev pub invariant-loop-t : goal.invariant-loop-t
invariant-loop-t l = record {
  count : length l.all.items ≡ l.t;
  each : (t : ℕ) (table : TableValue) (one : TableCounts) → slice_get l.tables t ≡ Some table → slice_get (map counts_value l.all.items) t ≡ Some one → (one.table ≡ table.name) × AreCounts l.board.rows t (length l.board.streams) one.rows;
}
