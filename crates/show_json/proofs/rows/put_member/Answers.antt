use Rattle.std.proofs.Common.{◌∙◌, ap, sym}
use Rattle.row_view.specs.ColumnValue.{column_value}
use Rattle.json_pieces.proofs.TellLaws.{same_text}
use Rattle.show_json.specs.Private.Parts.{member_part}
use Rattle.show_json.specs.Values.{behind_first, name_of}
use Rattle.show_json.proofs.rows.put_member.Goals as goal

pub returns-in-Some-clause-told : goal.returns-in-Some-clause-told
returns-in-Some-clause-told g c =
    same_text _ _ _ _ (ap (λ l. member_part c.args.later (name_of c.args.number l) (column_value c.args.value.now)) (sym c.in-Some.ensures.steps)) c.put_named.ensures

pub returns-in-Some-clause-rest : goal.returns-in-Some-clause-rest
returns-in-Some-clause-rest g c = sym (ap behind_first c.in-Some.ensures.steps)

pub returns-in-None-clause-told : goal.returns-in-None-clause-told
returns-in-None-clause-told g c =
    same_text _ _ _ _ (ap (λ l. member_part c.args.later (name_of c.args.number l) (column_value c.args.value.now)) (sym c.in-None.ensures.steps.0)) c.put_numbered.ensures

pub returns-in-None-clause-rest : goal.returns-in-None-clause-rest
returns-in-None-clause-rest g c = c.in-None.ensures.steps.1 ∙ ap behind_first (sym c.in-None.ensures.steps.0)
