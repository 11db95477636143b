use Rattle.std.proofs.Common.{◌≡◌, ℕ, List, ◌<◌, ◌^◌, [], length, ◌∙◌, ap, arith, Result, Ok}
use Rattle.std.proofs.lemmas.Result.{err_from_is_err_and}
use Rattle.source_feed.specs.SourceValue.{SourceValue}
use Rattle.source_feed.specs.EventList.{events_of_feed}
use Rattle.source_feed.specs.Groups.{groups}
use Rattle.source_feed.specs.Private.EventByEvent.{past_behind, groups_at_end}
use Rattle.source_feed.proofs.EventByEventLaws.{groups-run, gives_along}
use Rattle.source_feed.proofs.Messages.{refuses_along}
use Rattle.source_feed.proofs.DefinedLaws.{in_order}
use Rattle.source_feed.proofs.MemoryLaws.{not_memory_at_end}
use Rattle.list_laws.specs.Outcome.{GivesUnless}
use Rattle.source_feed.specs.declared.fault.FeedFault.{FeedFault}
use Rattle.source_feed.specs.FaultNumber.{meant_of}
use Rattle.source_feed.specs.GroupValue.{GroupValue}
use Rattle.source_feed.specs.PastEvents.{PastEvents}
use Rattle.source_feed.specs.Private.NamedGroups.{all_named}
use Rattle.source_feed.proofs.groups.read.Goals as goal

pub returns-in_err-reader-clause-groups : goal.returns-in_err-reader-clause-groups
returns-in_err-reader-clause-groups c =
    let source : SourceValue = c.args.source.now in
    let short : length c.args.feed.now < 2 ^ 31 = omega arith in
    let p = err_from_is_err_and c.from_residual.result c.from_residual.ensures.1 in
    rw (p.1, p.2)
    (refuses_along c.in_err-reader.field-0.0 (past_behind source [] (events_of_feed c.args.feed.now).items (events_of_feed c.args.feed.now).fault) (groups c.args.feed.now source)
    (λ e. groups-run c.args.feed.now source short ∙ ap (groups_at_end source) e)
    c.in_err-reader.ensures.err)

given : (feed : List ℕ) (source : SourceValue) (short : length feed < 2 ^ 31) {X : Type 0} (view : X → List GroupValue) (result : Result X FeedFault) (history : PastEvents)
    → past_behind source [] (events_of_feed feed).items (events_of_feed feed).fault ≡ Ok history → GivesUnless meant_of view result (groups_at_end source (Ok history))
    → GivesUnless meant_of view result (groups feed source)
given feed source short view result history e g = gives_along view result (groups feed source) (groups_at_end source (Ok history)) (groups-run feed source short ∙ ap (groups_at_end source) e) g

pub returns-clause-groups : goal.returns-clause-groups
returns-clause-groups c =
    let all = c.in_ok-reader.ensures.ok in
    given c.args.feed.now c.args.source.now (omega arith) all_named c.end.result all.0 all.1 (c.end.ensures.groups [] c.args.source.now all.0 all.2)

pub returns-clause-order : goal.returns-clause-order
returns-clause-order c =
    let all = c.in_ok-reader.ensures.ok in
    in_order c.set_laws.ensures all_named c.args.feed.now c.args.source.now c.end.result
    (given c.args.feed.now c.args.source.now (omega arith) all_named c.end.result all.0 all.1 (c.end.ensures.groups [] c.args.source.now all.0 all.2))

pub returns-clause-memory : goal.returns-clause-memory
returns-clause-memory c = λ is. absurd (not_memory_at_end c.end.result c.end.ensures.refused is)

pub returns-clause-tables : goal.returns-clause-tables
returns-clause-tables c =
    let all = c.in_ok-reader.ensures.ok in
    c.end.ensures.tables [] c.args.source.now all.0 all.2
