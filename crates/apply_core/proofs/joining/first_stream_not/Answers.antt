use Rattle.std.proofs.Common.{◌≡◌, List, sym, ap, subst, ◌∙◌, MatchOption}
use Rattle.board_laws.specs.Meaning.{State, Meaning}
use Rattle.board_laws.specs.Compatible.{OfEachStream}
use Rattle.board_laws.specs.RefusedJoin.{IsFirstNot}
use Rattle.apply_core.specs.Private.Beside.{Premise, Passes}
use Rattle.apply_core.proofs.joining.first_stream_not.Goals as goal

pub first_not-requires-clause-premise : goal.first_not-requires-clause-premise
first_not-requires-clause-premise c =
    let here : c.deref.result.now ≡ c.args.a.now.streams = c.deref.ensures.value ∙ ap (λ (b : Meaning). b.streams) c.a.view_is in
    let there : c.deref-2.result.now ≡ c.args.b.now.streams = c.deref-2.ensures.value ∙ ap (λ (b : Meaning). b.streams) c.b.view_is in
    subst (λ (xs : List State). OfEachStream (Premise c.args.test) xs c.deref-2.result.now) (sym here)
    (subst (λ (ys : List State). OfEachStream (Premise c.args.test) c.args.a.now.streams ys) (sym there) c.requires.premise)

pub returns : goal.returns
returns c =
    let here : c.deref.result.now ≡ c.args.a.now.streams = c.deref.ensures.value ∙ ap (λ (b : Meaning). b.streams) c.a.view_is in
    let there : c.deref-2.result.now ≡ c.args.b.now.streams = c.deref-2.ensures.value ∙ ap (λ (b : Meaning). b.streams) c.b.view_is in
    subst (λ (xs : List State). MatchOption c.first_not.result (OfEachStream (Passes c.args.test) xs c.args.b.now.streams) (IsFirstNot (Passes c.args.test) xs c.args.b.now.streams)) here
    (subst (λ (ys : List State). MatchOption c.first_not.result (OfEachStream (Passes c.args.test) c.deref.result.now ys) (IsFirstNot (Passes c.args.test) c.deref.result.now ys)) there c.first_not.ensures)
