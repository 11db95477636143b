use Rattle.std.proofs.Common.{sym, subst, refl}
use Rattle.std.specs.Prelude.{IsOk}
use Rattle.stream_worker.proofs.StepsOfOneStream.{advance_by_table, advance_wants}
use Rattle.stream_worker.proofs.deal.Deal.judge_advance.Goals as goal

pub returns-in-Err : goal.returns-in-Err
returns-in-Err c = advance_by_table c.self.inside.board c.args.self.now c.self.inside.given c.args.s c.cursor.result c.in-Err.refusal c.self.view_is c.self.invariant c.cursor.ensures (sym c.in-Err.ensures.decided)

pub returns-in-Ok : goal.returns-in-Ok
returns-in-Ok c = advance_wants c.self.inside.board c.args.self.now c.self.inside.given c.args.s c.cursor.result c.self.view_is c.self.invariant c.cursor.ensures (subst (λ made. IsOk made) c.in-Ok.ensures.decided refl)
