use Rattle.std.proofs.Common.{rules, IfErr, IfSome}
use Rattle.std.specs.Arc.{arc_value}
use Rattle.source_feed.specs.FaultNumber.{meant_of}
use Rattle.source_feed.specs.Sound.{IsCauseAt}
use Rattle.source_feed.proofs.ClauseLaws.{if-given, if-refused, if-wanted}
use Rattle.source_feed.proofs.feed.Feed.prepare.Goals as goal

pub returns-in-Err-Memory-clause-cause : goal.returns-in-Err-Memory-clause-cause
returns-in-Err-Memory-clause-cause c = if-wanted c.touches_are_those_of_the_changes.ensures c.args.self.now c.args.number c.wanted.result c.wanted.ensures

pub returns-in_default : goal.returns-in_default
returns-in_default c =
    let why : IfErr c.prepared.result (λ fault. IfSome (meant_of fault) (IsCauseAt c.args.self.now c.args.number))
    = if-refused c.touches_are_those_of_the_changes.ensures (λ prepared. arc_value prepared) c.args.self.now c.args.number c.prepared.result c.prepared.ensures.exact in
    search rules

pub returns-in_default-2-clause-touches : goal.returns-in_default-2-clause-touches
returns-in_default-2-clause-touches c =
    if-given c.touches_are_those_of_the_changes.ensures (λ prepared. arc_value prepared) c.args.self.now c.args.number c.prepared.result c.prepared.ensures.exact
