use Rattle.std.proofs.Common.{refl, sym, subst}
use Rattle.std.specs.Prelude.{IsTrue}
use Rattle.board_laws.proofs.JoinedPairs.{same_plan}
use Rattle.apply_core.proofs.joining.judge.Goals as goal

pub first_stream_not-requires-clause-premise : goal.first_stream_not-requires-clause-premise
first_stream_not-requires-clause-premise c = same_plan c.args.a.now.streams c.args.b.now.streams (c.have_same_plans.ensures.0 (subst IsTrue (sym c.if-not-have_same_plans.false) refl))

pub returns-in-Some-clause-err : goal.returns-in-Some-clause-err
returns-in-Some-clause-err c = record { plans = c.have_same_plans.ensures.0 (subst IsTrue (sym c.if-not-have_same_plans.false) refl); first = c.in-Some.ensures }
