use Rattle.std.proofs.Common.{subst, slice_get}
use Rattle.std.specs.Prelude.{IfOk}
use Rattle.stream_worker.specs.Knowing.{Laid}
use Rattle.stream_worker.proofs.StepsOfOneStream.{of_step}
use Rattle.stream_worker.proofs.deal.Deal.call.Goals as goal

pub returns-clause-step : goal.returns-clause-step
returns-clause-step g c =
    of_step c.self.inside.board c.make-result.new.board c.args.self.now c.self.inside.given c.args.s (g.C.BoardCall.event c.args.call) _ c.self.view_is c.self.invariant c.make-result.ensures.step

pub returns-clause-gives : goal.returns-clause-gives
returns-clause-gives g c =
    subst
    (λ (laid : Laid). IfOk c.make-result.result (λ made. g.C.BoardCall.gives c.args.call c.args.s (slice_get laid.board c.args.s) made (slice_get c.make-result.new.board.streams c.args.s)))
    c.self.view_is c.make-result.ensures.gives
