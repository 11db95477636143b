use Rattle.std.proofs.Common.{◌∙◌, ap, subst}
use Rattle.pk_copy.specs.KeyOrder.{key_cmp}
use Rattle.target_tables.specs.Places.{IsAt, IsGap}
use Rattle.dump.specs.DumpRowsValue.{DumpRowsValue, row_with_key}
use Rattle.dump.proofs.RowsLaws.{row_there, no_row_there}
use Rattle.dump.proofs.rows.DumpRows.get.Goals as goal

pub returns-in-Ok : goal.returns-in-Ok
returns-in-Ok c =
    let at = subst (λ (rows : DumpRowsValue). IsAt key_cmp rows c.args.key.now c.in-Ok.place) c.deref.ensures.value c.in-Ok.ensures in
    row_there c.self.inside.pairs.items c.args.key.now c.in-Ok.place c.index.result.now at c.index.ensures ∙ ap (λ (rows : DumpRowsValue). row_with_key rows c.args.key.now) c.self.view_is

pub returns-in-Err : goal.returns-in-Err
returns-in-Err c =
    let gap = subst (λ (rows : DumpRowsValue). IsGap key_cmp rows c.args.key.now c.in-Err.field-0) c.deref.ensures.value c.in-Err.ensures in
    no_row_there c.self.inside.pairs.items c.args.key.now c.in-Err.field-0 gap ∙ ap (λ (rows : DumpRowsValue). row_with_key rows c.args.key.now) c.self.view_is
