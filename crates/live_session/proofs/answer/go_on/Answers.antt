use Rattle.std.proofs.Common.{◌≡◌, ℕ, List, map, refl, sym, subst}
use Rattle.change_laws.specs.Since.{HasMoved}
use Rattle.live_core.specs.Live.{LiveValue}
use Rattle.worker_rounds.specs.Rounds.{ApplyUpTo}
use Rattle.live_json.specs.Answers.{more_data, ok_line}
use Rattle.live_json.specs.Private.Parts.{stream_value}
use Rattle.live_json.specs.declared.streams.StreamTold.{StreamTold}
use Rattle.live_session.specs.Answered.{HasGone}
use Rattle.live_session.specs.Growths.{HaveCome}
use Rattle.live_session.specs.Sessions.{AreTold, SessionValue}
use Rattle.live_session.proofs.GrowthLaws.{grown-stepped}
use Rattle.live_session.proofs.answer.go_on.Goals as goal

-- what has come, and what the streams have made of it
gone-on : {most bytes : ℕ} {old between new : LiveValue} → HaveCome bytes old between → new.fed.feeds ≡ between.fed.feeds → new.bytes ≡ between.bytes → new.told ≡ between.told → HasMoved between.fed.feeds between.fed.board new.fed.board → ApplyUpTo most between.fed.board new.fed.board → HasGone most bytes old new
gone-on {most} {bytes} {old} {between} {new} come feeds known told moved up_to = record { between = between; come = come; feeds = feeds; known = known; told = told; moved = moved; up_to = up_to }

-- the same streams are told
told-as : {session : SessionValue} (streams same : List StreamTold) → same ≡ streams → AreTold session (map stream_value streams) → AreTold session (map stream_value same)
told-as {session} streams same is told = subst (λ (all : List StreamTold). AreTold session (map stream_value all)) (sym is) told

pub returns-in_err-answers-clause-gone : goal.returns-in_err-answers-clause-gone
returns-in_err-answers-clause-gone g c = (c.growth-bytes.result, gone-on c.growth-bytes.ensures.come c.in_err-answers.ensures.feeds c.in_err-answers.ensures.bytes c.in_err-answers.ensures.told c.in_err-answers.ensures.moved c.in_err-answers.ensures.up_to)

pub returns-in_err-changes-clause-gone : goal.returns-in_err-changes-clause-gone
returns-in_err-changes-clause-gone g c = (c.growth-bytes.result, gone-on c.growth-bytes.ensures.come c.in_ok-answers.ensures.feeds c.in_ok-answers.ensures.bytes c.in_ok-answers.ensures.told c.in_ok-answers.ensures.moved c.in_ok-answers.ensures.up_to)

pub returns-in_err-streams-clause-gone : goal.returns-in_err-streams-clause-gone
returns-in_err-streams-clause-gone g c = (c.growth-bytes.result, gone-on c.growth-bytes.ensures.come c.in_ok-answers.ensures.feeds c.in_ok-answers.ensures.bytes c.in_ok-answers.ensures.told c.in_ok-answers.ensures.moved c.in_ok-answers.ensures.up_to)

pub returns-clause-gone : goal.returns-clause-gone
returns-clause-gone g c = (c.growth-bytes.result, gone-on c.growth-bytes.ensures.come c.in_ok-answers.ensures.feeds c.in_ok-answers.ensures.bytes c.in_ok-answers.ensures.told c.in_ok-answers.ensures.moved c.in_ok-answers.ensures.up_to)

pub returns-clause-answer : goal.returns-clause-answer
unfolding gone-on
returns-clause-answer g c = (
  ok_line (more_data c.growth-bytes.result c.in_ok-changes.changes (map stream_value c.deref.result.now)),
  record {
    bytes = c.growth-bytes.result;
    gone = gone-on c.growth-bytes.ensures.come c.in_ok-answers.ensures.feeds c.in_ok-answers.ensures.bytes c.in_ok-answers.ensures.told c.in_ok-answers.ensures.moved c.in_ok-answers.ensures.up_to;
    grown = grown-stepped c.args.seats.now c.growth-bytes.new.seats c.note.new.seats c.args.live.now c.growth-bytes.new.live _ c.growth-bytes.ensures.grown c.note.ensures.stepped c.in_ok-answers.ensures.bytes c.in_ok-answers.ensures.feeds;
    answers = c.in_ok-answers.answers.items;
    answered = c.in_ok-answers.ensures.answers;
    ended = c.in_ok-answers.ensures.ended;
    noted = c.note.ensures.noted;
    changes = c.in_ok-changes.changes;
    counted = c.in_ok-changes.ensures.counted;
    streams = map stream_value c.deref.result.now;
    stand = told-as c.in_ok-streams.streams.items c.deref.result.now c.deref.ensures.value c.in_ok-streams.ensures;
    line = refl;
  },
  c.print_more.ensures,
)
