use Rattle.std.proofs.Common.{sym, subst}
use Rattle.target_tables.specs.Merged.{comes_from}
use Rattle.target_tables.specs.Rising.{IsRising}
use Rattle.target_tables.proofs.Mixing.{rising_part}
use Rattle.target_tables.proofs.side_part.SidePart.new.Goals as goal

pub invariant_of-result : goal.invariant_of-result
invariant_of-result g c = subst (IsRising g.K.Ord.cmp) (sym c.fetch-first.ensures) (rising_part g.K.Ord.cmp (comes_from c.args.sides.now c.args.side) c.args.later c.requires)
