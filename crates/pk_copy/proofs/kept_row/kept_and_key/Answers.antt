use Rattle.std.proofs.Common.{◌≡◌, ◌≤◌, ◌∙◌, ℕ, List, sym, subst, length}
use Rattle.std.specs.Prelude.{Some, slice_get}
use Rattle.filter_rule.specs.WellFormed.{AreColumnPlaces}
use Rattle.pk_copy.proofs.KeptLaws.{kept_columns_of-at, table_kept}
use Rattle.pk_copy.proofs.ReadingLaws.{table_at, columns_of-at, key_columns_of-at, key_few, key_places}
use Rattle.pk_copy.proofs.kept_row.kept_and_key.Goals as goal

pub returns-clause-columns : goal.returns-clause-columns
returns-clause-columns c =
    let table = c.index-tables-from.result in
    let stands : slice_get c.args.plan.now.tables c.args.t ≡ Some table = table_at _ _ c.args.t _ table c.tables.ensures.tables c.from.ensures c.requires c.index-tables-from.is in
    c.columns.ensures ∙ sym (columns_of-at c.args.plan.now c.args.t table stands)

pub returns-clause-kept : goal.returns-clause-kept
returns-clause-kept c =
    let table = c.index-tables-from.result in
    let stands : slice_get c.args.plan.now.tables c.args.t ≡ Some table = table_at _ _ c.args.t _ table c.tables.ensures.tables c.from.ensures c.requires c.index-tables-from.is in
    c.kept.ensures ∙ sym (kept_columns_of-at c.args.plan.now c.args.t table stands)

pub returns-clause-places : goal.returns-clause-places
returns-clause-places c =
    let table = c.index-tables-from.result in
    let stands : slice_get c.args.plan.now.tables c.args.t ≡ Some table = table_at _ _ c.args.t _ table c.tables.ensures.tables c.from.ensures c.requires c.index-tables-from.is in
    c.key.ensures ∙ sym (key_columns_of-at c.args.plan.now c.args.t table stands)

pub returns-clause-few : goal.returns-clause-few
returns-clause-few c =
    let table = c.index-tables-from.result in
    let stands : slice_get c.args.plan.now.tables c.args.t ≡ Some table = table_at _ _ c.args.t _ table c.tables.ensures.tables c.from.ensures c.requires c.index-tables-from.is in
    subst (λ (places : List ℕ). length places ≤ 8) (sym c.key.ensures) (key_few c.args.plan.now c.args.t table c.tables.ensures.well_formed stands)

pub returns-clause-within : goal.returns-clause-within
returns-clause-within c =
    let table = c.index-tables-from.result in
    let stands : slice_get c.args.plan.now.tables c.args.t ≡ Some table = table_at _ _ c.args.t _ table c.tables.ensures.tables c.from.ensures c.requires c.index-tables-from.is in
    let places : AreColumnPlaces table.columns table.key = key_places c.args.plan.now c.args.t table c.tables.ensures.well_formed stands in
    rw (c.columns.ensures, c.key.ensures) places

pub returns-clause-among : goal.returns-clause-among
returns-clause-among c =
    let table = c.index-tables-from.result in
    let stands : slice_get c.args.plan.now.tables c.args.t ≡ Some table = table_at _ _ c.args.t _ table c.tables.ensures.tables c.from.ensures c.requires c.index-tables-from.is in
    rw (c.kept.ensures, c.key.ensures) (table_kept c.args.plan.now c.args.t table c.tables.ensures.well_formed stands)
