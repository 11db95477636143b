use Rattle.std.proofs.Common.{List, map, refl, sym, subst}
use Rattle.live_json.specs.Answers.{ok_line, told_data}
use Rattle.live_json.specs.Private.Parts.{stream_value}
use Rattle.live_json.specs.declared.streams.StreamTold.{StreamTold}
use Rattle.live_session.specs.Sessions.{AreTold, session_of}
use Rattle.live_session.proofs.changing.print_count.Goals as goal

pub returns : goal.returns
returns g c = (
  ok_line (told_data c.in_ok-changes.changes (map stream_value c.deref.result.now)),
  record {
    changes = c.in_ok-changes.changes;
    counted = c.in_ok-changes.ensures.counted;
    streams = map stream_value c.deref.result.now;
    stand = subst (λ (told : List StreamTold). AreTold (session_of c.args.live.now c.args.seats.now) (map stream_value told)) (sym c.deref.ensures.value) c.in_ok-streams.ensures;
    line = refl;
  },
  c.print_told.ensures,
)
