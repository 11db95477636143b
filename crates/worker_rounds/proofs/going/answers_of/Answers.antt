use Rattle.std.proofs.Common.{◌<◌, ◌∷◌, [], length, length-append, refl, arith, rules}
use Rattle.std.specs.Vec.Iter.{into_iter_items}
use Rattle.list_laws.proofs.Walks.{turn}
use Rattle.worker_rounds.proofs.RoundsEnd.{next-within, answers-none, answers-further}
use Rattle.worker_rounds.proofs.going.answers_of.Goals as goal

pub loop-stop-init : goal.loop-stop-init
loop-stop-init c = record {
  whole = search rules;
  long = search rules;
  len = search rules;
  room = search rules;
  so_far = answers-none c.args.feeds.now c.args.board.now [] c.args.answers.items refl c.requires.room.0;
}

pub bounds-feeds-s : goal.bounds-feeds-s
bounds-feeds-s c =
    next-within c.loop-stop.yielded (into_iter_items c.loop-stop.stop-iterator) (into_iter_items c.next.new.self) c.args.stopped.items c.in-Some.stop c.loop-stop.s (length c.args.feeds.now) c.loop-stop.invariant.whole c.in-Some.ensures.steps.0 c.loop-stop.invariant.long c.requires.count

pub answer_of-requires : goal.answer_of-requires
answer_of-requires c =
    let less : c.loop-stop.s < length c.args.feeds.now = next-within c.loop-stop.yielded (into_iter_items c.loop-stop.stop-iterator) (into_iter_items c.next.new.self) c.args.stopped.items c.in-Some.stop c.loop-stop.s (length c.args.feeds.now) c.loop-stop.invariant.whole c.in-Some.ensures.steps.0 c.loop-stop.invariant.long c.requires.count in omega (arith, less, c.requires.streams)

pub push_reserved-requires : goal.push_reserved-requires
push_reserved-requires c =
    let less : c.loop-stop.s < length c.args.feeds.now = next-within c.loop-stop.yielded (into_iter_items c.loop-stop.stop-iterator) (into_iter_items c.next.new.self) c.args.stopped.items c.in-Some.stop c.loop-stop.s (length c.args.feeds.now) c.loop-stop.invariant.whole c.in-Some.ensures.steps.0 c.loop-stop.invariant.long c.requires.count in omega (arith, less, c.loop-stop.invariant.len, c.loop-stop.invariant.room)

pub overflow_add-s : goal.overflow_add-s
overflow_add-s c =
    let less : c.loop-stop.s < length c.args.feeds.now = next-within c.loop-stop.yielded (into_iter_items c.loop-stop.stop-iterator) (into_iter_items c.next.new.self) c.args.stopped.items c.in-Some.stop c.loop-stop.s (length c.args.feeds.now) c.loop-stop.invariant.whole c.in-Some.ensures.steps.0 c.loop-stop.invariant.long c.requires.count in omega (arith, less, c.requires.few)

pub loop-stop-preserved : goal.loop-stop-preserved
loop-stop-preserved c =
    let less : c.loop-stop.s < length c.args.feeds.now = next-within c.loop-stop.yielded (into_iter_items c.loop-stop.stop-iterator) (into_iter_items c.next.new.self) c.args.stopped.items c.in-Some.stop c.loop-stop.s (length c.args.feeds.now) c.loop-stop.invariant.whole c.in-Some.ensures.steps.0 c.loop-stop.invariant.long c.requires.count in
    record {
      whole = turn c.loop-stop.yielded (into_iter_items c.next.new.self) c.args.stopped.items (c.in-Some.stop ∷ []) (into_iter_items c.loop-stop.stop-iterator) c.loop-stop.invariant.whole c.in-Some.ensures.steps.0;
      long = omega (arith, length-append c.loop-stop.yielded (c.in-Some.stop ∷ []), c.loop-stop.invariant.long);
      len = omega (arith, c.push_reserved.ensures.len, c.loop-stop.invariant.len);
      room = omega (arith, c.push_reserved.ensures.capacity, c.loop-stop.invariant.room);
      so_far = answers-further c.args.feeds.now c.args.board.now c.loop-stop.yielded c.loop-stop.answers.items c.push_reserved.new.self.items c.loop-stop.s c.index-feeds-s.result c.in-Some.stop c.answer_of.result c.loop-stop.invariant.long less c.requires.streams c.index-feeds-s.is
          c.answer_of.ensures c.push_reserved.ensures.items c.loop-stop.invariant.so_far;
    }
