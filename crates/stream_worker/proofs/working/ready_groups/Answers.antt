use Rattle.std.proofs.Common.{rules, ℕ, [], ◌∷◌, List, length, length-append, ap, sym, subst, ◌∙◌, arith}
use Rattle.std.specs.Prelude.{IsOk}
use Rattle.source_feed.specs.Touches.{prepared_at}
use Rattle.stream_worker.specs.declared.ready.Ready.{Ready}
use Rattle.stream_worker.specs.Private.Turns.{IsReady, AreReady}
use Rattle.stream_worker.proofs.TurnsTakeGroupsIn.{ready-push, ready-first, ready-wanted}
use Rattle.stream_worker.proofs.working.ready_groups.Goals as goal

pub loop-next-preserved : goal.loop-next-preserved
loop-next-preserved g c =
    let pushed = c.in-Ok-push.ensures.items in
    let long = ap length pushed ∙ length-append c.loop-next.readies.items (c.in-Ok-ready_group-2.ready ∷ []) in
    let next = c.loop-next.invariant.1 in
    let less = c.loop-next-test.true in (
      c.ready_group-in-loop-next.ensures.feed,
      omega (arith, long, next),
      omega (arith, less),
      subst (λ (readies : List Ready). AreReady c.args.bench.now.feed.now c.args.seat.now.outline.marks c.args.number readies) (sym pushed)
          (ready-push c.args.bench.now.feed.now c.args.seat.now.outline.marks c.args.number c.loop-next.readies.items c.in-Ok-ready_group-2.ready c.loop-next.invariant.3
          (subst (λ (n : ℕ). IsReady c.args.bench.now.feed.now c.args.seat.now.outline.marks n c.in-Ok-ready_group-2.ready) next c.in-Ok-ready_group-2.ensures.ready)),
    )

pub returns-in_default-push-clause-refused : goal.returns-in_default-push-clause-refused
returns-in_default-push-clause-refused g c = record {
  refused = tt;
  wanted = λ is.
      ready-first c.args.bench.now.feed.now c.args.seat.now.outline.marks c.args.number c.loop-next.readies.items c.in-Ok-ready_group-2.ready c.loop-next.invariant.3
      (subst (λ (n : ℕ). IsReady c.args.bench.now.feed.now c.args.seat.now.outline.marks n c.in-Ok-ready_group-2.ready) c.loop-next.invariant.1 c.in-Ok-ready_group-2.ensures.ready);
}

pub returns-in-Err-Memory-clause-refused : goal.returns-in-Err-Memory-clause-refused
returns-in-Err-Memory-clause-refused g c = record {
  refused = tt;
  wanted = λ is.
      ready-wanted c.args.bench.now.feed.now c.args.seat.now.outline.marks c.args.number c.loop-next.readies.items c.loop-next.invariant.3
      (subst (λ (n : ℕ). IsOk (prepared_at c.args.bench.now.feed.now n)) c.loop-next.invariant.1 (c.in-Err-Memory.ensures.refused.wanted (search rules)));
}
