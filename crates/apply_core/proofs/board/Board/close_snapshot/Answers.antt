use Rattle.std.proofs.Common.{◌≡◌, length, refl, arith}
use Rattle.board_laws.specs.declared.answer.Answer.TheVariants.{Closed}
use Rattle.board_laws.specs.Event.{close}
use Rattle.board_laws.specs.Step.{answered}
use Rattle.apply_core.proofs.BoardLaws.{lent-step, lent-lawful}
use Rattle.apply_core.proofs.board.Board.close_snapshot.Goals as goal

pub invariant_of-self : goal.invariant_of-self
invariant_of-self c =
    let same : length c.close_on.new.streams ≡ c.self.inside.streams.len = omega (arith, c.close_on.auto.streams, c.deref_mut.ensures.len) in
    lent-lawful c.steps_keep_boards_lawful.ensures.still c.self.inside.streams.items c.self.inside.rows.entries c.args.s close (answered (λ _. Closed) c.close_on.result) c.deref_mut.result.now c.close_on.new.streams
    c.deref_mut.ensures.value c.self.invariant tt (λ state key. refl) c.close_on.ensures c.self.inside.streams.len same

pub returns : goal.returns
returns c =
    let same : length c.close_on.new.streams ≡ c.self.inside.streams.len = omega (arith, c.close_on.auto.streams, c.deref_mut.ensures.len) in
    lent-step c.steps_keep_boards_lawful.ensures.still c.self.inside.streams.items c.self.inside.rows.entries c.args.s close (answered (λ _. Closed) c.close_on.result) c.deref_mut.result.now c.close_on.new.streams
    c.deref_mut.ensures.value c.self.invariant tt (λ state key. refl) c.close_on.ensures c.self.inside.streams.len same c.args.self.now c.self.view_is
