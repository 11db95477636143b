use Rattle.target_tables.proofs.Mixing.{merged_parts}
use Rattle.target_tables.proofs.merging.merge.Goals as goal

pub returns-in-Ok-clause-merged : goal.returns-in-Ok-clause-merged
returns-in-Ok-clause-merged g c =
    merged_parts g.met.K.Ord.total c.args.sides.now c.args.one.entries c.args.other.entries c.into_part.result c.into_part-in-Ok.result c.mix.new.mixed.entries
    c.into_part.ensures.rising c.into_part-in-Ok.ensures.rising c.into_part.ensures.entries c.into_part-in-Ok.ensures.entries c.mix.ensures
