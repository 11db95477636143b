use Rattle.std.proofs.Common.{◌≡◌, length, refl, arith}
use Rattle.board_laws.specs.declared.answer.Answer.TheVariants.{Restarted}
use Rattle.board_laws.specs.Event.{restart}
use Rattle.board_laws.specs.Step.{answered}
use Rattle.apply_core.proofs.BoardLaws.{lent-step, lent-lawful}
use Rattle.apply_core.proofs.board.Board.restart.Goals as goal

pub invariant_of-self : goal.invariant_of-self
invariant_of-self c =
    let same : length c.restart_on.new.streams ≡ c.self.inside.streams.len = omega (arith, c.restart_on.auto.streams, c.deref_mut.ensures.len) in
    lent-lawful c.steps_keep_boards_lawful.ensures.still c.self.inside.streams.items c.self.inside.rows.entries c.args.s restart (answered Restarted c.restart_on.result) c.deref_mut.result.now c.restart_on.new.streams
    c.deref_mut.ensures.value c.self.invariant tt (λ state key. refl) c.restart_on.ensures c.self.inside.streams.len same

pub returns : goal.returns
returns c =
    let same : length c.restart_on.new.streams ≡ c.self.inside.streams.len = omega (arith, c.restart_on.auto.streams, c.deref_mut.ensures.len) in
    lent-step c.steps_keep_boards_lawful.ensures.still c.self.inside.streams.items c.self.inside.rows.entries c.args.s restart (answered Restarted c.restart_on.result) c.deref_mut.result.now c.restart_on.new.streams
    c.deref_mut.ensures.value c.self.invariant tt (λ state key. refl) c.restart_on.ensures c.self.inside.streams.len same c.args.self.now c.self.view_is
