use Rattle.std.proofs.Common.{List, map, refl, sym, subst}
use Rattle.live_json.specs.Answers.{ok_line, state_data}
use Rattle.live_json.specs.Private.Parts.{stream_value}
use Rattle.live_json.specs.declared.streams.StreamTold.{StreamTold}
use Rattle.live_session.specs.Sessions.{AreTold, session_of}
use Rattle.live_session.proofs.looking.tell_state.Goals as goal

pub returns : goal.returns
returns g c = (
  ok_line (state_data (map stream_value c.deref.result.now)),
  record {
    streams = map stream_value c.deref.result.now;
    stand = subst (λ (told : List StreamTold). AreTold (session_of c.args.live.now c.args.seats.now) (map stream_value told)) (sym c.deref.ensures.value) c.in_ok-streams.ensures;
    line = refl;
  },
  c.print_state.ensures,
)
