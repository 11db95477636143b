use Rattle.std.proofs.Common.{◌∙◌, sym, ap}
use Rattle.std.specs.Ordering.{is_eq}
use Rattle.target_tables.proofs.Keeping.{ends_at-read}
use Rattle.target_tables.proofs.touched.ends_at_key.Goals as goal

pub returns : goal.returns
returns g c = c.is_eq.ensures ∙ ap is_eq c.cmp.ensures ∙ sym (ends_at-read g.K.Ord.cmp c.args.key.now c.args.touches.now c.index-touches-touches.result c.if-is_empty.ensures)
