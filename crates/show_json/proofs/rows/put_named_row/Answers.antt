use Rattle.std.proofs.Common.{◌∙◌, ◌+◌, [], ◌∷◌, ap, arith, false, length}
use Rattle.row_view.specs.ColumnValue.{column_value}
use Rattle.serde_json.specs.Written.{members_text}
use Rattle.json_pieces.proofs.TellLaws.{begins, moves, ends_by}
use Rattle.show_json.specs.Values.{value_members}
use Rattle.show_json.proofs.ValueLaws.{member-at}
use Rattle.show_json.proofs.rows.put_named_row.Goals as goal

pub loop-value-init : goal.loop-value-init
loop-value-init g c = record {
  told = rw c.into_iter-value-iterator.ensures.into_iter_gives (begins _ _ (123 ∷ []) (members_text false (value_members 1 c.args.columns c.args.row)) c.put.ensures);
  count = omega (arith, c.requires, ap length c.into_iter-value-iterator.ensures.into_iter_gives);
}

pub loop-value-preserved : goal.loop-value-preserved
loop-value-preserved g c =
    let parts = ap (λ l. members_text c.loop-value.later (value_members (c.loop-value.number + 1) c.loop-value.columns l)) c.in-Some.ensures.steps
    ∙ member-at c.loop-value.later (c.loop-value.number + 1) c.loop-value.columns (column_value c.in-Some.value) c.next.new.self in
    record {
      told = rw c.put_member.ensures.rest (moves _ _ _ _ _ _ _ parts c.loop-value.invariant.told c.put_member.ensures.told);
      count = omega (arith, c.loop-value.invariant.count, ap length c.in-Some.ensures.steps);
    }

pub returns : goal.returns
returns g c =
    ends_by _ _ _ _ _ (125 ∷ []) (ap (λ l. members_text c.loop-value.later (value_members (c.loop-value.number + 1) c.loop-value.columns l)) c.in-None.ensures.steps.0) c.loop-value.invariant.told c.put-2.ensures
