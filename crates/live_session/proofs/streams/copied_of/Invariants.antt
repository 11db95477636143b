use Rattle.std.proofs.Common.{◌≡◌, ℕ, length, map, Some, slice_get}
use Rattle.filter_rule.specs.PlanTable.{TableValue}
use Rattle.pk_copy.specs.Marks.{mark_of}
use Rattle.board_laws.specs.Meaning.{State}
use Rattle.live_json.specs.Answers.{CopiedValue}
use Rattle.live_json.specs.Private.Parts.{copied_value}
use Rattle.live_session.proofs.streams.copied_of.Given as goal

-- the first tables are told with their marks
abbrev pub invariant-loop-t : goal.invariant-loop-t
invariant-loop-t l = record {
  count : length l.copied.items ≡ l.t;
  each : (state : State) → slice_get l.board.streams l.s ≡ Some state
      → (t : ℕ) (table : TableValue) (one : CopiedValue) → slice_get l.tables t ≡ Some table → slice_get (map copied_value l.copied.items) t ≡ Some one → one ≡ record { table = table.name; mark = mark_of state.marks t };
}
