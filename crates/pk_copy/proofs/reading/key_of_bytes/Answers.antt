use Rattle.std.proofs.Common.{◌≡◌, ◌∙◌, sym, ap, subst, length, map}
use Rattle.std.specs.Prelude.{◌↔◌, Ok, Err}
use Rattle.pk_copy.specs.KeyOf.{cell_at, key_cells, key_in, HoldsNull, LacksPart, IsKeyOf}
use Rattle.pk_copy.specs.declared.fault.KeyFault.TheVariants.{NullKey, BadKey}
use Rattle.pk_copy.proofs.RelationLaws.{key-stands, null_key-stands, bad_key-stands}
use Rattle.pk_copy.proofs.reading.key_of_bytes.Goals as goal

pub key_at-requires-clause-width : goal.key_at-requires-clause-width
key_at-requires-clause-width c = c.requires.columns ∙ sym (ap length c.key_columns.ensures.columns)

pub returns-clause-value : goal.returns-clause-value
returns-clause-value c =
    c.key_at.ensures ∙ (λ i. key_in c.args.t (map (cell_at (c.key_columns.ensures.columns i) c.args.row.now) (c.key_columns.ensures.places i)))

pub returns-clause-key : goal.returns-clause-key
returns-clause-key c key =
    let cells = key_cells c.args.plan.now c.args.t c.args.row.now in
    subst (λ r. (r ≡ Ok key) ↔ IsKeyOf c.args.t cells key) (sym (returns-clause-value c)) (key-stands c.args.t cells key)

pub returns-clause-null : goal.returns-clause-null
returns-clause-null c =
    let cells = key_cells c.args.plan.now c.args.t c.args.row.now in
    subst (λ r. (r ≡ Err NullKey) ↔ HoldsNull cells) (sym (returns-clause-value c)) (null_key-stands c.args.t cells)

pub returns-clause-bad : goal.returns-clause-bad
returns-clause-bad c =
    let cells = key_cells c.args.plan.now c.args.t c.args.row.now in
    subst (λ r. (r ≡ Err BadKey) ↔ ((¬ HoldsNull cells) × LacksPart cells)) (sym (returns-clause-value c)) (bad_key-stands c.args.t cells)
