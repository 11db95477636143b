use Rattle.std.proofs.Common.{◌≡◌, ◌+◌, ◌∷◌, false, length}
use Rattle.serde_json.specs.Written.{members_text}
use Rattle.json_pieces.specs.Telling.{IsToldUpTo, at}
use Rattle.show_json.specs.Values.{value_members}
use Rattle.show_json.proofs.rows.put_named_row.Given as goal

-- what is told and what is left are the whole, and so many values are told
abbrev pub invariant-loop-value : goal.invariant-loop-value
invariant-loop-value g l = record {
  told : IsToldUpTo (at (g.O.Out.written l.fn.out) l.fn.line) (at (g.O.Out.written l.out) l.line) (123 ∷ members_text false (value_members 1 l.fn.columns l.fn.row)) (members_text l.later (value_members (l.number + 1) l.columns l.value-iterator));
  count : l.number + length l.value-iterator ≡ l.fn.count;
}
