use Rattle.std.proofs.Common.{◌≡◌, ◌∙◌, List, length, refl, sym, ap, subst, arith}
use Rattle.stream_core.specs.declared.step.Step.TheVariants.{Advance}
use Rattle.board_laws.specs.declared.answer.Answer.TheVariants.{Applied}
use Rattle.board_laws.specs.Event.{advance}
use Rattle.board_laws.specs.Meaning.{State, Meaning}
use Rattle.apply_core.specs.Private.StreamStep.{IsMoveFor}
use Rattle.apply_core.proofs.ApplyLaws.{puts_here, lent-refused, lent-made, lent-made-lawful}
use Rattle.apply_core.proofs.board.Board.advance_by.Goals as goal

pub advance_on-requires-clause-made : goal.advance_on-requires-clause-made
advance_on-requires-clause-made c =
    subst (λ (streams : List State). IsMoveFor streams c.args.s Advance c.in_ok-made.made) (c.deref.ensures.value ∙ sym c.deref_mut.ensures.value) c.in_ok-made.ensures.made

pub invariant_of-self-in-Ok : goal.invariant_of-self-in-Ok
invariant_of-self-in-Ok c =
    let same : length c.advance_on.new.streams ≡ c.self.inside.streams.len = omega (arith, c.advance_on.auto.streams, c.deref_mut.ensures.len) in
    lent-made-lawful c.self.inside.streams.items c.self.inside.rows.entries c.apply.new.self.entries c.args.s advance c.args.puts.changes.items c.self.invariant tt c.deref.result.now c.deref.ensures.value (puts_here c.deref.result.now c.self.inside.streams.items c.args.self.now.streams c.args.s advance c.args.puts.changes.items c.deref.ensures.value (ap (λ (b : Meaning). b.streams) c.self.view_is) c.in_ok-made.ensures.may c.requires)
    c.steps_keep_boards_lawful.ensures.touches c.in-Ok.ensures.clear c.in-Ok.ensures.values c.in-Ok.ensures.rising
    (Applied c.advance_on.result) c.deref_mut.result.now c.advance_on.new.streams c.deref_mut.ensures.value c.advance_on.ensures c.self.inside.streams.len same

pub returns-in-Err : goal.returns-in-Err
returns-in-Err c =
    lent-refused c.self.inside.streams.items c.self.inside.rows.entries c.apply.new.self.entries c.args.s advance c.args.puts.changes.items c.self.invariant tt c.deref.result.now c.deref.ensures.value (puts_here c.deref.result.now c.self.inside.streams.items c.args.self.now.streams c.args.s advance c.args.puts.changes.items c.deref.ensures.value (ap (λ (b : Meaning). b.streams) c.self.view_is) c.in_ok-made.ensures.may c.requires)
    c.steps_keep_boards_lawful.ensures.clashes (λ state. refl) c.in-Err.fault c.in-Err.ensures.refused c.refusal_by.result c.refusal_by.ensures c.in-Err.ensures.unchanged c.args.self.now c.self.view_is

pub returns-in-Ok : goal.returns-in-Ok
returns-in-Ok c =
    let same : length c.advance_on.new.streams ≡ c.self.inside.streams.len = omega (arith, c.advance_on.auto.streams, c.deref_mut.ensures.len) in
    lent-made c.self.inside.streams.items c.self.inside.rows.entries c.apply.new.self.entries c.args.s advance c.args.puts.changes.items c.self.invariant tt c.deref.result.now c.deref.ensures.value (puts_here c.deref.result.now c.self.inside.streams.items c.args.self.now.streams c.args.s advance c.args.puts.changes.items c.deref.ensures.value (ap (λ (b : Meaning). b.streams) c.self.view_is) c.in_ok-made.ensures.may c.requires)
    c.steps_keep_boards_lawful.ensures.touches c.in-Ok.ensures.clear c.in-Ok.ensures.values c.in-Ok.ensures.rising
    (Applied c.advance_on.result) c.deref_mut.result.now c.advance_on.new.streams c.deref_mut.ensures.value c.advance_on.ensures c.self.inside.streams.len same c.args.self.now c.self.view_is
