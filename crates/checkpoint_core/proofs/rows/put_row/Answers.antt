use Rattle.std.proofs.Common.{◌≡◌, ◌∙◌, sym, subst}
use Rattle.std.proofs.lemmas.Bool.{true≢false}
use Rattle.std.proofs.lemmas.Result.{err_from_is_err_and}
use Rattle.pk_copy.specs.KeyOrder.{key_cmp}
use Rattle.pk_copy.specs.KeyValue.{KeyValue}
use Rattle.target_tables.specs.Rising.{AreBelow}
use Rattle.checkpoint_core.specs.Private.Reading.{IsRowOf}
use Rattle.checkpoint_core.proofs.Items.{nothing_by}
use Rattle.checkpoint_core.proofs.RowLaws.{same_row_key}
use Rattle.checkpoint_core.proofs.rows.put_row.Goals as goal

pub returns-in_err-key-clause-err : goal.returns-in_err-key-clause-err
returns-in_err-key-clause-err c =
    let p = err_from_is_err_and c.from_residual.result c.from_residual.ensures.1 in
    rw (p.1, p.2) (nothing_by (IsRowOf c.args.plan.now c.args.t c.args.row) (λ (key : KeyValue). IsRowOf c.args.plan.now c.args.t c.args.row key × AreBelow key_cmp key c.args.rows.now.items)
    (λ none key h. none key h.0) c.in_err-key.field-0.0 c.in_err-key.ensures.err)

pub returns-then-not-is_behind-clause-err : goal.returns-then-not-is_behind-clause-err
returns-then-not-is_behind-clause-err c = λ key h.
    let same : c.in_ok-key.key ≡ key = same_row_key c.args.plan.now c.args.t c.args.row c.in_ok-key.key key c.in_ok-key.ensures.ok h.0 in
    let below : AreBelow key_cmp c.in_ok-key.key c.args.rows.now.items = subst (λ (k : KeyValue). AreBelow key_cmp k c.args.rows.now.items) (sym same) h.1 in
    true≢false (sym (c.is_behind.ensures.1 (subst (AreBelow key_cmp c.in_ok-key.key) (sym c.deref.ensures.value) below)) ∙ c.if-not-is_behind.true)
