use Rattle.std.proofs.Common.{◌<◌, ℕ, List, length, refl, sym, subst, ◌∙◌, arith}
use Rattle.std.specs.Prelude.{option_copied}
use Rattle.std.proofs.lemmas.Result.{err_from_is_err_and}
use Rattle.vevent.specs.Response.{response_of}
use Rattle.source_feed.specs.EventList.{end_of_message}
use Rattle.source_feed.specs.Planned.{differs_from}
use Rattle.source_feed.specs.Private.EventByEvent.{past_behind}
use Rattle.source_feed.specs.Private.FeedTables.{AreNumbered}
use Rattle.source_feed.proofs.Messages.{refuses_along, length-response_of, seen_more}
use Rattle.source_feed.proofs.MemoryLaws.{memory_of}
use Rattle.source_feed.proofs.GrowingLaws.{Front, front_of, no_message, took_next, refused_next, any_next, wants_so_far, wants_in_message, past_is, no_fault, ends_well, ends_broken, seen_at_end}
use Rattle.source_feed.proofs.WalkedLaws.{walked_none, walked_open, walked_closed, walked_all}
use Rattle.source_feed.proofs.growing.put_piece.Goals as goal

pub loop-message-init : goal.loop-message-init
loop-message-init c = record {
  meaning = λ base earlier m. (earlier, refl, m, (λ outside. walked_none c.args.piece.now earlier), λ w. w);
  room = omega arith;
  numbers = λ n. n;
  plan = refl;
  seen = refl;
}

pub put_message-requires : goal.put_message-requires
put_message-requires c =
    let f : Front c.loop-message.rest.now c.in-Ok.message.now c.in-Ok.behind.now = front_of c.loop-message.rest.now c.in-Ok.message.now c.in-Ok.behind.now c.in-Ok.ensures in
    omega (arith, f.room, length-response_of c.in-Ok.message.now, c.loop-message.invariant.room, c.requires.few)

pub loop-message-smaller : goal.loop-message-smaller
loop-message-smaller c =
    let f : Front c.loop-message.rest.now c.in-Ok.message.now c.in-Ok.behind.now = front_of c.loop-message.rest.now c.in-Ok.message.now c.in-Ok.behind.now c.in-Ok.ensures in
    let less : length c.in-Ok.behind.now < length c.loop-message.rest.now = omega (arith, f.room) in less

pub loop-message-smaller-then-not-is_open : goal.loop-message-smaller-then-not-is_open
loop-message-smaller-then-not-is_open c =
    let f : Front c.loop-message.rest.now c.in-Ok.message.now c.in-Ok.behind.now = front_of c.loop-message.rest.now c.in-Ok.message.now c.in-Ok.behind.now c.in-Ok.ensures in
    let less : length c.in-Ok.behind.now < length c.loop-message.rest.now = omega (arith, f.room) in less

pub loop-message-preserved : goal.loop-message-preserved
loop-message-preserved c =
    let rest : List ℕ = c.loop-message.rest.now in
    let message : List ℕ = c.in-Ok.message.now in
    let behind : List ℕ = c.in-Ok.behind.now in
    let f : Front rest message behind = front_of rest message behind c.in-Ok.ensures in
    let first = c.requires.behind in
    let stood = c.loop-message.invariant.meaning first.0 first.1 first.2 in
    let stands = c.in_ok-put_message-in-Ok.ensures.meaning first.0 stood.0 stood.2 in
    record {
      meaning = λ base earlier m.
          (let before = c.loop-message.invariant.meaning base earlier m in
          let after = c.in_ok-put_message-in-Ok.ensures.meaning base before.0 before.2 in
          let is = past_is c.args.source.now (response_of message).items (end_of_message (response_of message).fault) before.0 after.0 after.1 in (
            after.0,
            took_next c.args.source.now _ before.0 after.0 rest message behind f before.1 after.1,
            after.2,
            (λ outside. walked_open c.args.piece.now c.loop-message.due.now rest message behind earlier before.0 after.0 (before.3 outside) f (no_fault (response_of message).fault is.0) is.1 outside
                (sym (c.is_open.ensures base c.args.source.now after.0 after.2) ∙ c.if-not-is_open.false)),
            λ w. before.4 (wants_so_far c.args.source.now before.0 after.0 rest message behind f after.1 w),
          ));
      room = omega (arith, f.room, length-response_of message, c.loop-message.invariant.room, c.in_ok-put_message-in-Ok.ensures.grows);
      numbers = λ numbered. subst (λ plan. AreNumbered plan c.put_message.new.reader.tables) c.loop-message.invariant.plan
          (c.in_ok-put_message-in-Ok.ensures.numbers (subst (λ plan. AreNumbered plan c.loop-message.reader.tables) (sym c.loop-message.invariant.plan) (c.loop-message.invariant.numbers numbered)));
      plan = c.put_message.ensures.plan ∙ c.loop-message.invariant.plan;
      seen = rw c.put_message.ensures.plan
          (seen_more c.loop-message.field_check.differs c.put_message.new.field_check.differs _ _ _ _ c.loop-message.invariant.seen
          (any_next (differs_from (option_copied c.loop-message.field_check.plan)) c.args.source.now stood.0 stands.0 rest message behind f stands.1)
          c.in_ok-put_message-in-Ok.ensures.seen);
    }

pub loop-message-preserved-then-not-is_open : goal.loop-message-preserved-then-not-is_open
loop-message-preserved-then-not-is_open c =
    let rest : List ℕ = c.loop-message.rest.now in
    let message : List ℕ = c.in-Ok.message.now in
    let behind : List ℕ = c.in-Ok.behind.now in
    let f : Front rest message behind = front_of rest message behind c.in-Ok.ensures in
    let first = c.requires.behind in
    let stood = c.loop-message.invariant.meaning first.0 first.1 first.2 in
    let stands = c.in_ok-put_message-in-Ok.ensures.meaning first.0 stood.0 stood.2 in
    record {
      meaning = λ base earlier m.
          (let before = c.loop-message.invariant.meaning base earlier m in
          let after = c.in_ok-put_message-in-Ok.ensures.meaning base before.0 before.2 in
          let is = past_is c.args.source.now (response_of message).items (end_of_message (response_of message).fault) before.0 after.0 after.1 in (
            after.0,
            took_next c.args.source.now _ before.0 after.0 rest message behind f before.1 after.1,
            after.2,
            (λ outside. walked_closed c.args.piece.now c.loop-message.due.now rest message behind earlier before.0 after.0 (before.3 outside) f (no_fault (response_of message).fault is.0) is.1 outside
                (sym (c.is_open.ensures base c.args.source.now after.0 after.2) ∙ c.if-not-is_open.true)),
            λ w. before.4 (wants_so_far c.args.source.now before.0 after.0 rest message behind f after.1 w),
          ));
      room = omega (arith, f.room, length-response_of message, c.loop-message.invariant.room, c.in_ok-put_message-in-Ok.ensures.grows);
      numbers = λ numbered. subst (λ plan. AreNumbered plan c.put_message.new.reader.tables) c.loop-message.invariant.plan
          (c.in_ok-put_message-in-Ok.ensures.numbers (subst (λ plan. AreNumbered plan c.loop-message.reader.tables) (sym c.loop-message.invariant.plan) (c.loop-message.invariant.numbers numbered)));
      plan = c.put_message.ensures.plan ∙ c.loop-message.invariant.plan;
      seen = rw c.put_message.ensures.plan
          (seen_more c.loop-message.field_check.differs c.put_message.new.field_check.differs _ _ _ _ c.loop-message.invariant.seen
          (any_next (differs_from (option_copied c.loop-message.field_check.plan)) c.args.source.now stood.0 stands.0 rest message behind f stands.1)
          c.in_ok-put_message-in-Ok.ensures.seen);
    }

pub returns-in_err-put_message-in-Ok-clause-meaning : goal.returns-in_err-put_message-in-Ok-clause-meaning
returns-in_err-put_message-in-Ok-clause-meaning c = λ base earlier m.
    let rest : List ℕ = c.loop-message.rest.now in
    let message : List ℕ = c.in-Ok.message.now in
    let behind : List ℕ = c.in-Ok.behind.now in
    let f : Front rest message behind = front_of rest message behind c.in-Ok.ensures in
    let before = c.loop-message.invariant.meaning base earlier m in
    let p = err_from_is_err_and c.from_residual.result c.from_residual.ensures.1 in
    rw (p.1, p.2)
    (refuses_along c.in_err-put_message-in-Ok.field-0.0 (past_behind c.args.source.now before.0 (response_of message).items (end_of_message (response_of message).fault)) _
    (λ err. refused_next c.args.source.now _ before.0 rest message behind _ f before.1 err)
    (c.in_err-put_message-in-Ok.ensures.meaning base before.0 before.2))

pub returns-in_err-put_message-in-Ok-clause-memory : goal.returns-in_err-put_message-in-Ok-clause-memory
returns-in_err-put_message-in-Ok-clause-memory c = λ base earlier m is.
    let rest : List ℕ = c.loop-message.rest.now in
    let message : List ℕ = c.in-Ok.message.now in
    let behind : List ℕ = c.in-Ok.behind.now in
    let f : Front rest message behind = front_of rest message behind c.in-Ok.ensures in
    let before = c.loop-message.invariant.meaning base earlier m in
    let p = err_from_is_err_and c.from_residual.result c.from_residual.ensures.1 in
    before.4 (wants_in_message c.args.source.now before.0 rest message behind f
    (c.in_err-put_message-in-Ok.ensures.memory base before.0 before.2 (memory_of c.from_residual.result _ c.in_err-put_message-in-Ok.field-0.0 p.1 p.2 is)))

pub returns-in-Err-clause-meaning : goal.returns-in-Err-clause-meaning
returns-in-Err-clause-meaning c = λ base earlier m.
    let before = c.loop-message.invariant.meaning base earlier m in
    before.1 ∙ ends_broken c.args.source.now before.0 c.loop-message.rest.now c.in-Err.cause c.in-Err.ensures (sym c.is_no_length.ensures ∙ c.if-is_no_length.true)

pub returns-in-Err-2-clause-meaning : goal.returns-in-Err-2-clause-meaning
returns-in-Err-2-clause-meaning c = λ base earlier m.
    let before = c.loop-message.invariant.meaning base earlier m in (
      before.0,
      before.1 ∙ ends_well c.args.source.now before.0 c.loop-message.rest.now c.in-Err.cause c.in-Err.ensures (sym c.is_no_length.ensures ∙ c.if-is_no_length.false),
      before.2,
    )

pub returns-in-Err-2-clause-due : goal.returns-in-Err-2-clause-due
returns-in-Err-2-clause-due c = λ base earlier m outside.
    let before = c.loop-message.invariant.meaning base earlier m in
    let w = before.3 outside in
    (w.front, walked_all c.args.piece.now c.loop-message.due.now c.loop-message.rest.now earlier before.0 w (no_message c.loop-message.rest.now c.in-Err.cause c.in-Err.ensures).0)

pub returns-in-Err-2-clause-seen : goal.returns-in-Err-2-clause-seen
returns-in-Err-2-clause-seen c =
    seen_at_end (differs_from (option_copied c.loop-message.field_check.plan)) c.loop-message.field_check.differs _ c.loop-message.rest.now c.in-Err.cause c.in-Err.ensures c.loop-message.invariant.seen
