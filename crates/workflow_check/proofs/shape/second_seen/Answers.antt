use Rattle.std.proofs.Common.{[], refl, sym, ◌∙◌}
use Rattle.std.specs.Prelude.{Some}
use Rattle.workflow_check.specs.Shape.{second_from}
use Rattle.workflow_check.proofs.SecondLaws.{texts, second_turn, second_stands}
use Rattle.workflow_check.proofs.shape.second_seen.Goals as goal

pub returns-then-not-is_new : goal.returns-then-not-is_new
returns-then-not-is_new c =
    let same = second_stands c.args.names.now c.loop-i.i _ _ c.loop-i.seen.keys c.in_ok-is_new.is_new (second_from 0 [] (texts c.args.names.now)) c.loop-i-test.true refl c.in_ok-is_new.ensures.added c.if-not-is_new.true c.loop-i.invariant in
    rw same at c.second_told.ensures

pub loop-i-preserved : goal.loop-i-preserved
loop-i-preserved c =
    second_turn c.args.names.now c.loop-i.i _ _ c.loop-i.seen.keys c.insert.new.self.keys c.in_ok-is_new.is_new (second_from 0 [] (texts c.args.names.now)) c.loop-i-test.true refl c.in_ok-is_new.ensures.added c.if-not-is_new.false
    c.in_ok-is_new.ensures.updates.0 c.loop-i.invariant
