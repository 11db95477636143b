use Rattle.std.proofs.Common.{◌∙◌, sym, ap, length, map}
use Rattle.pk_copy.specs.KeyOf.{key_in}
use Rattle.pk_copy.specs.KeyOfKept.{kept_cell, key_of_kept}
use Rattle.pk_copy.proofs.KeptLaws.{keys_kept}
use Rattle.pk_copy.proofs.kept_row.key_of_kept.Goals as goal

pub kept_key_at-requires-clause-width : goal.kept_key_at-requires-clause-width
kept_key_at-requires-clause-width c = rw c.bytes.ensures (c.requires.columns ∙ sym (ap length c.kept_and_key.ensures.kept))

pub returns-clause-value : goal.returns-clause-value
returns-clause-value c =
    let told = c.kept_and_key.ensures in
    c.kept_key_at.ensures ∙ (λ i. key_in c.args.t (map (kept_cell (told.columns i) (told.kept i) (c.bytes.ensures i)) (told.places i)))

pub returns-clause-whole : goal.returns-clause-whole
returns-clause-whole c source is =
    returns-clause-value c ∙ ap (key_of_kept c.args.plan.now c.args.t) is ∙ keys_kept c.args.plan.now c.args.t source c.kept_and_key.ensures.sound c.requires.table
