use Rattle.std.proofs.Common.{◌+◌, ◌∷◌, [], ℕ, List, length, length-append, ap, ◌∙◌}
use Rattle.live_json.specs.Answers.{StreamValue}
use Rattle.live_json.specs.Private.Parts.{stream_value}
use Rattle.live_json.specs.declared.streams.StreamTold.{StreamTold}
use Rattle.live_session.specs.Sessions.{IsTold}
use Rattle.live_session.specs.declared.seat.Seat.{Seat}
use Rattle.live_session.proofs.Walking.{at-index, each-mapped}
use Rattle.live_session.proofs.streams.streams_of.Goals as goal

pub loop-s-preserved : goal.loop-s-preserved
loop-s-preserved c =
    let told : StreamTold = c.in_ok-stream_told.field-0 in
    record {
      count = ap (λ (all : List StreamTold). length all) c.in_ok-push.ensures.items ∙ length-append c.loop-s.told.items (told ∷ []) ∙ ap (λ n. n + 1) c.loop-s.invariant.count;
      each =
          each-mapped (λ (s : ℕ) (seat : Seat) (one : StreamValue). IsTold c.args.live.now s seat one) stream_value c.args.seats.now c.loop-s.told.items c.push.new.self.items told c.loop-s.s c.in_ok-push.ensures.items c.loop-s.invariant.count
          (at-index (λ (seat : Seat). IsTold c.args.live.now c.loop-s.s seat (stream_value told)) c.args.seats.now c.loop-s.s c.index-seats-s.result c.index-seats-s.is c.in_ok-stream_told.ensures) c.loop-s.invariant.each;
    }
