use Rattle.std.proofs.Common.{◌≡◌, ℕ, List, ◌++◌, take, ap, ◌∙◌}
use Rattle.crossbeam_channel.specs.Claims.{view}
use Rattle.board_laws.specs.Reading.{ReadsFeed}
use Rattle.stream_worker.specs.declared.ready.Ready.{Ready}
use Rattle.stream_worker.specs.SeatOf.{seat_state}
use Rattle.stream_worker.specs.Private.Turns.{IsCaughtUp, groups_of}
use Rattle.stream_worker.proofs.OutlinesStayTrue.{outlined}
use Rattle.stream_worker.proofs.TurnsTakeGroupsIn.{turn-plan, turn-many, turn-keeps, turn-receipts, turn-some, turn-ends, turn-stepped, turn-outlined, caught-wants}
use Rattle.stream_worker.proofs.shared.Shared.take_in.Goals as goal

pub invariant_of-seat-2-clause-outlined : goal.invariant_of-seat-2-clause-outlined
invariant_of-seat-2-clause-outlined g c =
    turn-outlined c.args.feed.now (view c.args.seat.now.pass) (view c.take-deal.new.pass) c.args.seat.now.stream c.take-deal.result c.args.seat.now.own c.args.seat.now.cursor c.args.seat.now.numbers c.take-deal.ensures.taken
    c.take_in_all-result.new.self c.take_in_all-result.ensures.turn (view c.put_back.new.pass) c.put_back.ensures.put c.args.seat.now.outline c.push_all.new.self c.keep.new.self c.args.readies.items c.cursor-seat.result c.args.seat.now.outlined
    (c.in-Ok-push_all.ensures.pushed ∙ ap (λ (readies : List Ready). outlined (c.args.seat.now.outline.list ++ groups_of readies) c.args.seat.now.outline.marks) c.deref.ensures.value)
    (c.take_in_all-result.ensures.kept c.push_all.new.self) c.cursor-seat.ensures
    (c.keep.ensures ∙ ap (λ (n : ℕ). outlined (take n c.push_all.new.self.list) c.push_all.new.self.marks) c.read.ensures)

pub returns-clause-goes_on : goal.returns-clause-goes_on
returns-clause-goes_on g c =
    record {
      stepped = record {
        steps = c.take_in_all-result.ensures.turn.steps;
        made = turn-stepped c.args.feed.now (view c.args.seat.now.pass) (view c.take-deal.new.pass) c.args.seat.now.stream c.take-deal.result c.args.seat.now.own c.args.seat.now.cursor c.args.seat.now.numbers c.take-deal.ensures.taken c.take_in_all-result.new.self c.take_in_all-result.ensures.turn (view c.put_back.new.pass) c.put_back.ensures.put;
      };
      many = turn-many c.args.feed.now (view c.args.seat.now.pass) (view c.take-deal.new.pass) c.args.seat.now.stream c.take-deal.result c.args.seat.now.own c.args.seat.now.cursor c.args.seat.now.numbers c.take-deal.ensures.taken c.take_in_all-result.new.self c.take_in_all-result.ensures.turn (view c.put_back.new.pass) c.put_back.ensures.put;
      receipts = λ first all.
          turn-receipts c.args.feed.now (view c.args.seat.now.pass) (view c.take-deal.new.pass) c.args.seat.now.stream c.take-deal.result c.args.seat.now.own c.args.seat.now.cursor c.args.seat.now.numbers c.take-deal.ensures.taken c.take_in_all-result.new.self c.take_in_all-result.ensures.turn (view c.put_back.new.pass) c.put_back.ensures.put
          first c.args.receipts.now.items c.reserve.new.self.items c.take_in_all-result.new.receipts.items c.reserve.ensures.items c.take_in_all-result.ensures.receipts all;
      plan = turn-keeps c.args.feed.now (view c.args.seat.now.pass) (view c.take-deal.new.pass) c.args.seat.now.stream c.take-deal.result c.args.seat.now.own c.args.seat.now.cursor c.args.seat.now.numbers c.take-deal.ensures.taken c.take_in_all-result.new.self c.take_in_all-result.ensures.turn (view c.put_back.new.pass) c.put_back.ensures.put (λ state. state.plan ≡ c.args.feed.now.plan) (λ state. state.plan ≡ c.args.feed.now.plan)
          (turn-plan c.args.feed.now c.args.seat.now.stream c.take-deal.result c.take_in_all-result.new.self c.take_in_all-result.ensures.turn);
      follows = turn-keeps c.args.feed.now (view c.args.seat.now.pass) (view c.take-deal.new.pass) c.args.seat.now.stream c.take-deal.result c.args.seat.now.own c.args.seat.now.cursor c.args.seat.now.numbers c.take-deal.ensures.taken c.take_in_all-result.new.self c.take_in_all-result.ensures.turn (view c.put_back.new.pass) c.put_back.ensures.put (ReadsFeed c.args.feed.now) (ReadsFeed c.args.feed.now)
          c.take_in_all-result.ensures.turn.follows;
    }

pub returns-in_default-clause-refused : goal.returns-in_default-clause-refused
returns-in_default-clause-refused g c = λ follows. caught-wants c.args.feed.now c.args.readies.items (seat_state c.args.seat.now) c.requires.some c.requires.ready

pub returns-in_default-with_capacity-clause-refused : goal.returns-in_default-with_capacity-clause-refused
returns-in_default-with_capacity-clause-refused g c = λ follows. caught-wants c.args.feed.now c.args.readies.items (seat_state c.args.seat.now) c.requires.some c.requires.ready

pub returns-in_default-push_all-clause-refused : goal.returns-in_default-push_all-clause-refused
returns-in_default-push_all-clause-refused g c = λ follows. caught-wants c.args.feed.now c.args.readies.items (seat_state c.args.seat.now) c.requires.some c.requires.ready

pub returns-clause-refused : goal.returns-clause-refused
returns-clause-refused g c =
    turn-ends c.args.feed.now (view c.args.seat.now.pass) (view c.take-deal.new.pass) c.args.seat.now.stream c.take-deal.result c.args.seat.now.own c.args.seat.now.cursor c.args.seat.now.numbers c.take-deal.ensures.taken c.take_in_all-result.new.self c.take_in_all-result.ensures.turn (view c.put_back.new.pass) c.put_back.ensures.put c.take_in_all-result.result c.take_in_all-result.ensures.refused

pub cursor-seat-requires : goal.cursor-seat-requires
cursor-seat-requires g c =
    turn-some c.args.feed.now (view c.args.seat.now.pass) (view c.take-deal.new.pass) c.args.seat.now.stream c.take-deal.result c.args.seat.now.own c.args.seat.now.cursor c.args.seat.now.numbers c.take-deal.ensures.taken c.take_in_all-result.new.self c.take_in_all-result.ensures.turn
    (IsCaughtUp c.args.feed.now c.args.readies.items) c.requires.ready
