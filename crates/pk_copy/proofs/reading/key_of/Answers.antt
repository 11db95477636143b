use Rattle.std.proofs.Common.{◌≡◌, ◌∙◌, ap, subst}
use Rattle.std.specs.Prelude.{◌↔◌, Ok, Err}
use Rattle.pk_copy.specs.KeyOf.{key_of, key_cells, HoldsNull, LacksPart, IsKeyOf}
use Rattle.pk_copy.specs.declared.fault.KeyFault.TheVariants.{NullKey, BadKey}
use Rattle.pk_copy.proofs.reading.key_of.Goals as goal

pub key_of_bytes-requires-clause-columns : goal.key_of_bytes-requires-clause-columns
key_of_bytes-requires-clause-columns c = rw c.bytes.ensures c.requires.columns

pub returns-clause-value : goal.returns-clause-value
returns-clause-value c = c.key_of_bytes.ensures.value ∙ ap (key_of c.args.plan.now c.args.t) c.bytes.ensures

pub returns-clause-key : goal.returns-clause-key
returns-clause-key c key =
    subst (λ row. (c.key_of_bytes.result ≡ Ok key) ↔ IsKeyOf c.args.t (key_cells c.args.plan.now c.args.t row) key) c.bytes.ensures (c.key_of_bytes.ensures.key key)

pub returns-clause-null : goal.returns-clause-null
returns-clause-null c =
    subst (λ row. (c.key_of_bytes.result ≡ Err NullKey) ↔ HoldsNull (key_cells c.args.plan.now c.args.t row)) c.bytes.ensures c.key_of_bytes.ensures.null

pub returns-clause-bad : goal.returns-clause-bad
returns-clause-bad c =
    subst (λ row. (c.key_of_bytes.result ≡ Err BadKey) ↔ ((¬ HoldsNull (key_cells c.args.plan.now c.args.t row)) × LacksPart (key_cells c.args.plan.now c.args.t row))) c.bytes.ensures c.key_of_bytes.ensures.bad
