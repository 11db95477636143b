use Rattle.std.proofs.Common.{[], List, ℕ, ◌||◌, refl, sym, ap, subst, ◌∙◌, arith}
use Rattle.std.specs.Prelude.{option_copied}
use Rattle.std.specs.List.{list_any}
use Rattle.std.proofs.lemmas.Result.{err_from_is_err_and}
use Rattle.proto_wire.specs.Reading.{Reading}
use Rattle.proto_wire.specs.declared.fault.FrameFault.{FrameFault}
use Rattle.vevent.specs.Response.{response_of}
use Rattle.source_feed.specs.EventList.{end_of_message, events_in_messages}
use Rattle.source_feed.specs.Private.EventByEvent.{past_behind}
use Rattle.source_feed.specs.Planned.{differs_from}
use Rattle.source_feed.specs.Private.FeedTables.{AreNumbered}
use Rattle.source_feed.proofs.Messages.{refuses_along, took_message, refused_message, length-feed, events_behind, any_behind, seen_more, wants_next, wants_here}
use Rattle.source_feed.proofs.MemoryLaws.{memory_of}
use Rattle.source_feed.specs.TakesMemory.{WantsFrom}
use Rattle.source_feed.proofs.groups.put_feed.Goals as goal

pub loop-reader-init : goal.loop-reader-init
loop-reader-init c = record {
  meaning = ([], ap (λ (r : Reading (List ℕ) FrameFault). past_behind c.args.source.now [] (events_in_messages r.items r.fault).items (events_in_messages r.items r.fault).fault) (sym c.new-frames.ensures.reading), c.new-reader.ensures.meaning c.args.source.now, λ w. subst (λ (r : Reading (List ℕ) FrameFault). WantsFrom c.args.source.now [] (events_in_messages r.items r.fault).items) c.new-frames.ensures.reading w);
  room = omega (arith, length-feed c.args.feed.now c.new-frames.result c.new-frames.ensures.spelled, c.new-reader.ensures.none);
  numbers = c.new-reader.ensures.numbers (option_copied c.args.field_check.now.plan);
  plan = refl;
  seen = ap (λ (r : Reading (List ℕ) FrameFault). c.args.field_check.now.differs || list_any (differs_from (option_copied c.args.field_check.now.plan)) (events_in_messages r.items r.fault).items) c.new-frames.ensures.reading;
}

pub loop-reader-preserved : goal.loop-reader-preserved
loop-reader-preserved c =
    let before = c.loop-reader.invariant.meaning in
    let frame = rw c.in-Some.is at c.in_ok-message.ensures in
    let after = c.in_ok-put_message.ensures.meaning [] before.0 before.2 in
    record {
      meaning = (
        after.0,
        took_message c.args.source.now _ before.0 after.0 c.in-Some.message.now c.loop-reader.frames c.next_frame.new.self before.1 frame.0 frame.1 after.1,
        after.2,
        λ w. before.3 (wants_next c.args.source.now before.0 after.0 c.in-Some.message.now c.loop-reader.frames c.next_frame.new.self frame.0 frame.1 after.1 w),
      );
      room = omega (
        arith,
        c.in_ok-put_message.ensures.grows,
        c.loop-reader.invariant.room,
        events_behind c.args.source.now before.0 after.0 c.in-Some.message.now c.loop-reader.frames c.next_frame.new.self frame.0 frame.1 after.1,
      );
      numbers = subst (λ plan. AreNumbered plan c.put_message.new.reader.tables) c.loop-reader.invariant.plan (c.in_ok-put_message.ensures.numbers (subst (λ plan. AreNumbered plan c.loop-reader.reader.tables) (sym c.loop-reader.invariant.plan) c.loop-reader.invariant.numbers));
      plan = c.put_message.ensures.plan ∙ c.loop-reader.invariant.plan;
      seen = rw c.put_message.ensures.plan
          (seen_more c.loop-reader.field_check.differs c.put_message.new.field_check.differs _ _ _ _ c.loop-reader.invariant.seen
          (any_behind (differs_from (option_copied c.loop-reader.field_check.plan)) c.args.source.now before.0 after.0 c.in-Some.message.now c.loop-reader.frames c.next_frame.new.self frame.0 frame.1 after.1)
          c.in_ok-put_message.ensures.seen);
    }

pub returns-in_err-put_message-clause-err : goal.returns-in_err-put_message-clause-err
returns-in_err-put_message-clause-err c =
    let before = c.loop-reader.invariant.meaning in
    let frame = rw c.in-Some.is at c.in_ok-message.ensures in
    let p = err_from_is_err_and c.from_residual-in_err-put_message.result c.from_residual-in_err-put_message.ensures.1 in
    rw (p.1, p.2)
    (refuses_along c.in_err-put_message.field-0.0 (past_behind c.args.source.now before.0 (response_of c.in-Some.message.now).items (end_of_message (response_of c.in-Some.message.now).fault)) _
    (λ e. refused_message c.args.source.now _ before.0 c.in-Some.message.now c.loop-reader.frames c.next_frame.new.self _ before.1 frame.0 frame.1 e)
    (c.in_err-put_message.ensures.meaning [] before.0 before.2))

pub returns-in_err-put_message-clause-memory : goal.returns-in_err-put_message-clause-memory
returns-in_err-put_message-clause-memory c =
    let before = c.loop-reader.invariant.meaning in
    let frame = rw c.in-Some.is at c.in_ok-message.ensures in
    let p = err_from_is_err_and c.from_residual-in_err-put_message.result c.from_residual-in_err-put_message.ensures.1 in
    λ is. before.3
    (wants_here c.args.source.now before.0 c.in-Some.message.now c.loop-reader.frames c.next_frame.new.self frame.0 frame.1
    (c.in_err-put_message.ensures.memory [] before.0 before.2 (memory_of c.from_residual-in_err-put_message.result _ c.in_err-put_message.field-0.0 p.1 p.2 is)))
