use Rattle.std.proofs.Common.{◌≡◌, ◌∙◌, length, refl, ap, arith}
use Rattle.board_laws.specs.declared.answer.Answer.TheVariants.{Copied}
use Rattle.board_laws.specs.Meaning.{Meaning}
use Rattle.board_laws.specs.Event.{copy_rows}
use Rattle.apply_core.proofs.ApplyLaws.{lent-refused, lent-made, lent-made-lawful}
use Rattle.apply_core.proofs.CopyLaws.{chunk_may, chunk_puts, chunk_moves}
use Rattle.apply_core.proofs.board.Board.copy_by.Goals.{in-Some+in-Long-1, in-Some+in-Several-1, in-Some+in-Negative-1, in-None-1}
use Rattle.apply_core.proofs.board.Board.copy_by.Goals as goal

pub copied_on-requires-clause-may : goal.copied_on-requires-clause-may
copied_on-requires-clause-may c = chunk_may _ _ (c.deref_mut.ensures.value ∙ ap (λ (b : Meaning). b.streams) c.self.view_is) c.args.s c.args.c c.args.chunk c.requires

pub copied_on-requires-clause-moves : goal.copied_on-requires-clause-moves
copied_on-requires-clause-moves c = chunk_moves _ _ (c.deref_mut.ensures.value ∙ ap (λ (b : Meaning). b.streams) c.self.view_is) c.args.s c.args.c c.args.chunk c.requires

pub invariant_of-self-in-Ok : goal.invariant_of-self-in-Ok
invariant_of-self-in-Ok c =
    let same : length c.copied_on.new.streams ≡ c.self.inside.streams.len = omega (arith, c.copied_on.auto.streams, c.deref_mut.ensures.len) in
    lent-made-lawful c.self.inside.streams.items c.self.inside.rows.entries c.apply.new.self.entries c.args.s (copy_rows c.args.c) c.args.chunk.puts.items c.self.invariant tt c.self.inside.streams.items refl
    (chunk_puts _ _ (ap (λ (b : Meaning). b.streams) c.self.view_is) c.args.s c.args.c c.args.chunk c.requires)
    c.steps_keep_boards_lawful.ensures.touches c.in-Ok.ensures.clear c.in-Ok.ensures.values c.in-Ok.ensures.rising
    (Copied c.copied_on.result) c.deref_mut.result.now c.copied_on.new.streams c.deref_mut.ensures.value c.copied_on.ensures c.self.inside.streams.len same

pub returns-in-Err : goal.returns-in-Err
returns-in-Err c =
    let refused = lent-refused c.self.inside.streams.items c.self.inside.rows.entries c.apply.new.self.entries c.args.s (copy_rows c.args.c) c.args.chunk.puts.items c.self.invariant tt c.self.inside.streams.items refl
    (chunk_puts _ _ (ap (λ (b : Meaning). b.streams) c.self.view_is) c.args.s c.args.c c.args.chunk c.requires)
    c.steps_keep_boards_lawful.ensures.clashes (λ state. refl) c.in-Err.fault c.in-Err.ensures.refused c.refusal_by.result c.refusal_by.ensures c.in-Err.ensures.unchanged c.args.self.now c.self.view_is in
    (refused.0, elim c.match-chunk.branch [ in-Some+in-Long-1 w ↦ w.self-is ∙ refused.1 | in-Some+in-Several-1 w ↦ w.self-is ∙ refused.1 | in-Some+in-Negative-1 w ↦ w.self-is ∙ refused.1 | in-None-1 w ↦ w.self-is ∙ refused.1 ])

pub returns-in-Ok : goal.returns-in-Ok
returns-in-Ok c =
    let same : length c.copied_on.new.streams ≡ c.self.inside.streams.len = omega (arith, c.copied_on.auto.streams, c.deref_mut.ensures.len) in
    lent-made c.self.inside.streams.items c.self.inside.rows.entries c.apply.new.self.entries c.args.s (copy_rows c.args.c) c.args.chunk.puts.items c.self.invariant tt c.self.inside.streams.items refl
    (chunk_puts _ _ (ap (λ (b : Meaning). b.streams) c.self.view_is) c.args.s c.args.c c.args.chunk c.requires)
    c.steps_keep_boards_lawful.ensures.touches c.in-Ok.ensures.clear c.in-Ok.ensures.values c.in-Ok.ensures.rising
    (Copied c.copied_on.result) c.deref_mut.result.now c.copied_on.new.streams c.deref_mut.ensures.value c.copied_on.ensures c.self.inside.streams.len same c.args.self.now c.self.view_is
