use Rattle.std.proofs.Common.{◌≡◌, ◌∙◌, List, map, sym, ap}
use Rattle.std.proofs.lemmas.Bool.{true≢false}
use Rattle.row_view.specs.FieldValue.{FieldValue}
use Rattle.filter_rule.specs.PlanValue.{columns_of}
use Rattle.vevent.specs.ColumnView.{field_value}
use Rattle.checkpoint_laws.specs.Written.{fields_of_table, key_fields_of}
use Rattle.checkpoint_core.specs.Private.WrittenTables.{fields_at}
use Rattle.checkpoint_core.proofs.head.has_columns.Goals as goal

pub returns-then-not-are_fields : goal.returns-then-not-are_fields
returns-then-not-are_fields c =
    let wanted : map field_value c.deref.result.now ≡ fields_of_table c.args.plan.now c.args.t =
    ap (map field_value) c.deref.ensures.value ∙ c.in_ok-columns.ensures
    ∙ ap (λ (columns : List FieldValue). fields_at columns c.kept_columns.result.now) c.columns.ensures ∙ ap (fields_at (columns_of c.args.plan.now c.args.t)) c.kept_columns.ensures.places in (
      λ yes. absurd (true≢false (sym yes)),
      λ both. absurd (true≢false (sym (c.are_fields.ensures.1 (c.fields.ensures ∙ both.0 ∙ sym wanted)) ∙ c.if-not-are_fields.true)),
    )

pub returns : goal.returns
returns c =
    let fields : c.args.answer.now.fields ≡ fields_of_table c.args.plan.now c.args.t =
    sym c.fields.ensures ∙ c.are_fields.ensures.0 c.if-not-are_fields.false ∙ ap (map field_value) c.deref.ensures.value ∙ c.in_ok-columns.ensures
    ∙ ap (λ (columns : List FieldValue). fields_at columns c.kept_columns.result.now) c.columns.ensures ∙ ap (fields_at (columns_of c.args.plan.now c.args.t)) c.kept_columns.ensures.places in
    let key : map field_value c.deref-2.result.now ≡ key_fields_of c.args.plan.now c.args.t =
    ap (map field_value) c.deref-2.ensures.value ∙ c.in_ok-key_columns.ensures
    ∙ ap (λ (columns : List FieldValue). fields_at columns c.key_columns.result.now) c.columns-2.ensures ∙ ap (fields_at (columns_of c.args.plan.now c.args.t)) c.key_columns.ensures.places in (
      λ yes. (fields, sym c.pkfields.ensures ∙ c.are_fields-2.ensures.0 yes ∙ key),
      λ both. c.are_fields-2.ensures.1 (c.pkfields.ensures ∙ both.1 ∙ sym key),
    )
