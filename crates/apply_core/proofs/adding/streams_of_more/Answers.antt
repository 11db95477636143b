use Rattle.std.proofs.Common.{List, length, IfOk, IfErr, ap, sym, subst, ◌∙◌}
use Rattle.board_laws.specs.Meaning.{State, Meaning}
use Rattle.apply_core.specs.Private.Adding.{FeedsExtend, AreExtendedUpTo, AreStopped}
use Rattle.apply_core.proofs.adding.streams_of_more.Goals as goal

pub extended_streams-requires-clause-extend : goal.extended_streams-requires-clause-extend
extended_streams-requires-clause-extend c = subst (FeedsExtend c.args.feeds.now) (sym (c.deref.ensures.value ∙ ap (λ (m : Meaning). m.streams) c.board.view_is)) c.requires.extend

pub returns-clause-ok : goal.returns-clause-ok
returns-clause-ok c =
    subst (λ (states : List State). IfOk c.extended_streams.result (λ new. AreExtendedUpTo c.args.feeds.now states (length states) new.items)) (c.deref.ensures.value ∙ ap (λ (m : Meaning). m.streams) c.board.view_is) c.extended_streams.ensures.ok

pub returns-clause-err : goal.returns-clause-err
returns-clause-err c =
    subst (λ (states : List State). IfErr c.extended_streams.result (AreStopped c.args.feeds.now states)) (c.deref.ensures.value ∙ ap (λ (m : Meaning). m.streams) c.board.view_is) c.extended_streams.ensures.err
