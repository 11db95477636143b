use Rattle.std.proofs.Common.{refl, ◌∙◌, arith}
use Rattle.hex.specs.Hex.{encode_with}
use Rattle.printing.proofs.SpellLaws.{all_spelled}
use Rattle.printing.proofs.gathered.spell_blocks.Goals as goal

pub loop-at-init : goal.loop-at-init
unfolding encode_with
loop-at-init c = record { spelled = refl; room = c.requires.room; within = omega arith }

pub loop-at-preserved : goal.loop-at-preserved
loop-at-preserved c = record {
  spelled = c.spell_block.ensures.spelled c.loop-at.at (omega arith) c.loop-at.invariant.spelled;
  room = c.spell_block.ensures.same ∙ c.loop-at.invariant.room;
  within = omega arith;
}

pub returns : goal.returns
returns c =
    all_spelled c.args.piece.now c.spell_block-2.new.room _ (c.spell_block-2.ensures.same ∙ c.loop-at.invariant.room) (omega arith)
    (c.spell_block-2.ensures.spelled c.loop-at.at c.loop-at-test.false c.loop-at.invariant.spelled)
