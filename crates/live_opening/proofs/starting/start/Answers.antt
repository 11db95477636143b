use Rattle.std.proofs.Common.{List, map, ◌∙◌, sym, subst}
use Rattle.std.specs.Arc.{arc_value}
use Rattle.source_feed.specs.Planned.{FeedValue}
use Rattle.live_core.specs.Live.{AreOfSources}
use Rattle.live_core.specs.Source.{bytes_of}
use Rattle.live_opening.proofs.OpenedLaws.{not-run, started-by}
use Rattle.live_opening.proofs.starting.start.Goals as goal

pub new-requires-clause-sources : goal.new-requires-clause-sources
new-requires-clause-sources c =
    subst (λ (feeds : List FeedValue). AreOfSources feeds c.args.sources.items) (sym (c.in-Ok.ensures.feeds ∙ c.in_ok-fed.ensures.feeds)) c.requires.sources

pub returns-clause-started : goal.returns-clause-started
returns-clause-started c =
    started-by c.args.feeds.items (map bytes_of c.args.sources.items) _ c.run.new.self c.new.result c.new.ensures (c.in-Ok.ensures.feeds ∙ c.in_ok-fed.ensures.feeds) c.in_ok-fed.ensures.taken_up c.in-Ok.ensures.ended
    c.in-Ok.ensures.rows

pub returns-in-Err-clause-refused : goal.returns-in-Err-clause-refused
returns-in-Err-clause-refused c =
    not-run (map arc_value c.args.plans.items) c.args.feeds.items c.in_ok-fed.fed.feeds c.run.new.self _ c.in-Err.refusal c.in_ok-fed.ensures.feeds c.in-Err.ensures.feeds c.in_ok-fed.ensures.fed
    c.in_ok-fed.ensures.taken_up c.in-Err.ensures.refused c.in-Err.ensures.lowest c.is_fed.ensures c.in-Err.ensures.memory
