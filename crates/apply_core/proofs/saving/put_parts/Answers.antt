use Rattle.list_laws.proofs.Walks.{at_item}
use Rattle.apply_core.proofs.SaveLaws.{parts_turn, parts_end}
use Rattle.apply_core.proofs.saving.put_parts.Goals as goal

pub loop-s-preserved : goal.loop-s-preserved
loop-s-preserved c =
    parts_turn c.args.rows.now.entries c.args.streams.now c.loop-s.s c.loop-s.out.items c.put_part.new.out.items _ c.index-streams-s.result c.loop-s-test.true
    (at_item c.args.streams.now c.loop-s.s c.index-streams-s.result c.loop-s-test.true c.index-streams-s.is) c.in_ok-put_part.ensures c.loop-s.invariant

pub returns : goal.returns
returns c = parts_end c.args.rows.now.entries c.args.streams.now c.loop-s.s c.loop-s.out.items _ c.loop-s-test.false c.loop-s.invariant
