use Rattle.std.proofs.Common.{◌<◌, length, arith, refl}
use Rattle.std.proofs.lemmas.Option.{slice_get_within}
use Rattle.checkpoint_laws.specs.declared.version.Version.TheVariants.{Two}
use Rattle.checkpoint_laws.specs.Said.{IsNamed}
use Rattle.checkpoint_core.proofs.Items.{there_at, up_to_more}
use Rattle.checkpoint_core.proofs.names.all_named.Goals as goal

pub loop-t-preserved : goal.loop-t-preserved
loop-t-preserved c =
    let there = there_at c.args.tables.now c.loop-t.t c.index-tables-t.result c.loop-t-test.true c.index-tables-t.is in
    up_to_more (IsNamed Two c.args.plan.now) c.args.tables.now c.loop-t.t c.index-tables-t.result there (c.is_named.ensures.0 c.if-not-is_named.false) c.loop-t.invariant

pub returns : goal.returns
returns c = (
  λ yes t part there.
      let inside : t < length c.args.tables.now = slice_get_within c.args.tables.now t part there in
      c.loop-t.invariant t part (omega (arith, inside, c.loop-t-test.false)) there,
  λ all. refl,
)
