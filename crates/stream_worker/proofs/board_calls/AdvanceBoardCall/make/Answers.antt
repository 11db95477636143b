use Rattle.std.proofs.Common.{ℕ, Result, ap, ◌∙◌, subst}
use Rattle.std.specs.Arc.{arc_value}
use Rattle.std.specs.Option.{option_map}
use Rattle.board_laws.specs.declared.answer.Answer.TheVariants.{Applied}
use Rattle.board_laws.specs.declared.refusal.Refusal.{Refusal}
use Rattle.board_laws.specs.Event.{advance}
use Rattle.board_laws.specs.Step.{answered, IsStep}
use Rattle.stream_worker.proofs.StepsOfOneStream.{none_applied, receipt_of, next_here, puts_here}
use Rattle.stream_worker.proofs.board_calls.AdvanceBoardCall.make.Goals as goal

pub advance_by-result-requires : goal.advance_by-result-requires
advance_by-result-requires c = puts_here c.args.board.now c.args.s c.args.self.next c.is_lawful.ensures c.requires

pub returns-in-Ok-Some-clause-gives : goal.returns-in-Ok-Some-clause-gives
returns-in-Ok-Some-clause-gives c =
    receipt_of c.args.board.now c.advance_by-result.new.self c.args.s c.in-Ok-Some.number (arc_value c.in-Ok-Some.group)
    (subst (λ (r : Result (ℕ × _) Refusal). IsStep c.args.board.now c.args.s advance (answered (λ made. Applied made.0) r) c.advance_by-result.new.self) c.in-Ok-Some.is-0 c.advance_by-result.ensures)
    (next_here c.args.board.now c.args.s c.args.self.next c.requires ∙ ap (option_map arc_value) c.in-Ok-Some.is-1)

pub unreachable-requires : goal.unreachable-requires
unreachable-requires c =
    none_applied c.args.board.now c.advance_by-result.new.self c.args.s c.in-Ok-None.field-0-0.0
    (subst (λ (r : Result (ℕ × _) Refusal). IsStep c.args.board.now c.args.s advance (answered (λ made. Applied made.0) r) c.advance_by-result.new.self) c.in-Ok-None.is-0 c.advance_by-result.ensures)
    (next_here c.args.board.now c.args.s c.args.self.next c.requires ∙ ap (option_map arc_value) c.in-Ok-None.is-1)

pub returns-clause-step : goal.returns-clause-step
returns-clause-step c =
    subst (λ (r : Result (ℕ × _) Refusal). IsStep c.args.board.now c.args.s advance (answered (λ made. Applied made.0) r) c.advance_by-result.new.self) c.in-Err-default.is-0 c.advance_by-result.ensures
