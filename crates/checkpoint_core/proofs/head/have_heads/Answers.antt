use Rattle.std.proofs.Common.{◌≡◌, ◌<◌, Some, length, slice_get, arith, refl, subst}
use Rattle.std.proofs.lemmas.Option.{slice_get_within}
use Rattle.checkpoint_core.specs.Private.Reading.{HasHead}
use Rattle.checkpoint_core.proofs.Items.{there_at, up_to_more}
use Rattle.checkpoint_core.proofs.head.have_heads.Goals as goal

pub has_head-requires-clause-first : goal.has_head-requires-clause-first
has_head-requires-clause-first c = λ none.
    let there = there_at c.args.tables.now c.loop-t.t c.index-tables-t.result c.loop-t-test.true c.index-tables-t.is in
    c.requires.first c.index-tables-t.result (subst (λ n. slice_get c.args.tables.now n ≡ Some c.index-tables-t.result) none there)

pub loop-t-preserved : goal.loop-t-preserved
loop-t-preserved c =
    let there = there_at c.args.tables.now c.loop-t.t c.index-tables-t.result c.loop-t-test.true c.index-tables-t.is in
    up_to_more (HasHead c.args.plan.now c.args.position.now) c.args.tables.now c.loop-t.t c.index-tables-t.result there (c.in_ok-has_head.ensures.0 c.if-not-branch.false) c.loop-t.invariant

pub returns : goal.returns
returns c = (
  λ yes t part there.
      let inside : t < length c.args.tables.now = slice_get_within c.args.tables.now t part there in
      c.loop-t.invariant t part (omega (arith, inside, c.loop-t-test.false)) there,
  λ all. refl,
)
