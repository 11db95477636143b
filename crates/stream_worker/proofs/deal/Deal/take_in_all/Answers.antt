use Rattle.std.proofs.Common.{[], ◌∷◌, length, length-append, ap, ◌∙◌, arith}
use Rattle.std.proofs.lemmas.Result.{err_from_is_err_and}
use Rattle.std.specs.Vec.Iter.{into_iter_items}
use Rattle.stream_worker.proofs.TurnsTakeGroupsIn.{caught-next, more-turn, more-caught, more-ahead, more-receipts, end-turn, end-receipts, end-begins, end-ends, ahead-begins}
use Rattle.stream_worker.proofs.deal.Deal.take_in_all.Goals as goal

pub take_in-requires : goal.take_in-requires
take_in-requires c =
    caught-next c.args.feed.now c.args.s c.loop-ready.self c.in-Some.ready (into_iter_items c.next.new.self) (into_iter_items c.loop-ready.ready-iterator) c.in-Some.ensures.steps.0 c.loop-ready.invariant.3

pub returns-in_err-receipt-clause-turn : goal.returns-in_err-receipt-clause-turn
returns-in_err-receipt-clause-turn c =
    end-turn c.args.feed.now c.know_feed.ensures c.args.s c.args.self.now c.loop-ready.self c.requires.given c.loop-ready.invariant.2 c.in-Some.ready (into_iter_items c.next.new.self) (into_iter_items c.loop-ready.ready-iterator) c.in-Some.ensures.steps.0 c.loop-ready.invariant.3
    c.take_in.new.self c.in_err-receipt.field-0.0 c.in_err-receipt.ensures.refused

pub returns-in_err-receipt-clause-receipts : goal.returns-in_err-receipt-clause-receipts
returns-in_err-receipt-clause-receipts c = λ first all.
    end-receipts c.args.feed.now c.know_feed.ensures c.args.s c.args.self.now c.loop-ready.self c.requires.given c.loop-ready.invariant.2 c.in-Some.ready (into_iter_items c.next.new.self) (into_iter_items c.loop-ready.ready-iterator) c.in-Some.ensures.steps.0 c.loop-ready.invariant.3
    c.take_in.new.self c.in_err-receipt.field-0.0 c.in_err-receipt.ensures.refused first c.loop-ready.receipts.items (c.loop-ready.invariant.4 first all)

pub returns-in_err-receipt-clause-kept : goal.returns-in_err-receipt-clause-kept
returns-in_err-receipt-clause-kept c = λ outline ahead.
    end-begins c.args.feed.now c.know_feed.ensures c.args.s c.args.self.now c.loop-ready.self c.requires.given c.loop-ready.invariant.2 c.in-Some.ready (into_iter_items c.next.new.self) (into_iter_items c.loop-ready.ready-iterator) c.in-Some.ensures.steps.0 c.loop-ready.invariant.3
    c.take_in.new.self c.in_err-receipt.field-0.0 c.in_err-receipt.ensures.refused outline (c.loop-ready.invariant.5 outline ahead)

pub returns-in_err-receipt-clause-refused : goal.returns-in_err-receipt-clause-refused
returns-in_err-receipt-clause-refused c =
    let p = err_from_is_err_and c.from_residual.result c.from_residual.ensures.1 in
    rw (p.1, p.2)
    (end-ends c.args.feed.now c.know_feed.ensures c.args.s c.args.self.now c.loop-ready.self c.requires.given c.loop-ready.invariant.2 c.in-Some.ready (into_iter_items c.next.new.self) (into_iter_items c.loop-ready.ready-iterator) c.in-Some.ensures.steps.0 c.loop-ready.invariant.3
    c.take_in.new.self c.in_err-receipt.field-0.0 c.in_err-receipt.ensures.refused)

pub loop-ready-preserved : goal.loop-ready-preserved
loop-ready-preserved c =
    let long = ap length c.in-Some.ensures.steps.0 in (
      tt,
      tt,
      more-turn c.args.feed.now c.know_feed.ensures c.args.s c.args.self.now c.loop-ready.self c.requires.given c.loop-ready.invariant.2 c.in-Some.ready (into_iter_items c.next.new.self) (into_iter_items c.loop-ready.ready-iterator) c.in-Some.ensures.steps.0 c.loop-ready.invariant.3
          c.take_in.new.self c.in_ok-receipt.ensures.made.0,
      more-caught c.args.feed.now c.know_feed.ensures c.args.s c.args.self.now c.loop-ready.self c.requires.given c.loop-ready.invariant.2 c.in-Some.ready (into_iter_items c.next.new.self) (into_iter_items c.loop-ready.ready-iterator) c.in-Some.ensures.steps.0 c.loop-ready.invariant.3
          c.take_in.new.self c.in_ok-receipt.ensures.made.0,
      λ first all.
          more-receipts c.args.feed.now c.know_feed.ensures c.args.s c.args.self.now c.loop-ready.self c.requires.given c.loop-ready.invariant.2 c.in-Some.ready (into_iter_items c.next.new.self) (into_iter_items c.loop-ready.ready-iterator) c.in-Some.ensures.steps.0 c.loop-ready.invariant.3
          c.take_in.new.self c.in_ok-receipt.ensures.made.0 first c.loop-ready.receipts.items c.push_reserved.new.self.items c.in_ok-receipt.receipt c.push_reserved.ensures.items c.in_ok-receipt.ensures.made.1 (c.loop-ready.invariant.4 first all),
      λ outline ahead.
          more-ahead c.args.feed.now c.know_feed.ensures c.args.s c.args.self.now c.loop-ready.self c.requires.given c.loop-ready.invariant.2 c.in-Some.ready (into_iter_items c.next.new.self) (into_iter_items c.loop-ready.ready-iterator) c.in-Some.ensures.steps.0 c.loop-ready.invariant.3
          c.take_in.new.self c.in_ok-receipt.ensures.made.0 outline (c.loop-ready.invariant.5 outline ahead),
      let more = ap length c.push_reserved.ensures.items ∙ length-append c.loop-ready.receipts.items (c.in_ok-receipt.receipt ∷ []) in let d = c.loop-ready.invariant.6 in omega (arith, long, more, d),
      let a = c.push_reserved.ensures.len in let b = c.push_reserved.ensures.capacity in let d = c.loop-ready.invariant.7 in omega (arith, long, a, b, d),
      let a = c.push_reserved-in-loop-ready.ensures.len in let b = c.push_reserved-in-loop-ready.ensures.capacity in let d = c.loop-ready.invariant.8 in omega (arith, long, a, b, d),
    )

pub returns-clause-kept : goal.returns-clause-kept
returns-clause-kept c = λ outline ahead. ahead-begins outline c.args.s c.loop-ready.self (into_iter_items c.loop-ready.ready-iterator) (c.loop-ready.invariant.5 outline ahead)
