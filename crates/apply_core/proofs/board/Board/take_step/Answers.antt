use Rattle.std.proofs.Common.{Err, sym, subst}
use Rattle.board_laws.specs.declared.refusal.Refusal.{Refusal}
use Rattle.board_laws.specs.declared.step_refusal.StepRefusal.TheVariants.{Refused}
use Rattle.board_laws.specs.Schedule.{IsReply}
use Rattle.apply_core.proofs.FedLaws.{reply-no_stream}
use Rattle.apply_core.proofs.board.Board.take_step.Goals as goal

pub returns-in-Err : goal.returns-in-Err
returns-in-Err c =
    subst (λ (r : Refusal). IsReply c.args.feeds.now c.args.self.now (c.args.s, c.args.step) (Err (Refused r)) c.args.self.now) (sym c.in-Err.ensures.no_stream.0)
    (reply-no_stream c.args.feeds.now c.args.self.now c.args.s c.args.step c.in-Err.ensures.no_stream.1)
