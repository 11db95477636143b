use Rattle.std.proofs.lemmas.Bool.{false≢true}
use Rattle.apply_core.proofs.JoinLaws.{as_long, none_further}
use Rattle.board_laws.proofs.JoinedPairs.{same_plan}
use Rattle.apply_core.proofs.joining.holds_all.Goals as goal

pub first_stream_not-requires-clause-both : goal.first_stream_not-requires-clause-both
first_stream_not-requires-clause-both c = as_long c.args.a.now.streams c.args.b.now.streams c.requires.plans

pub first_stream_not-requires-clause-premise : goal.first_stream_not-requires-clause-premise
first_stream_not-requires-clause-premise c = same_plan c.args.a.now.streams c.args.b.now.streams c.requires.plans

pub returns-in-None : goal.returns-in-None
returns-in-None c = λ _. none_further c.args.a.now.streams c.args.b.now.streams (as_long c.args.a.now.streams c.args.b.now.streams c.requires.plans) c.in-None.ensures

pub returns-in-Some : goal.returns-in-Some
returns-in-Some c = λ is. absurd (false≢true is)
