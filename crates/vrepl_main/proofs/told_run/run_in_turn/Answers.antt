use Rattle.std.proofs.Common.{◌∙◌, List, subst}
use Rattle.std.specs.Prelude.{IfErr}
use Rattle.source_feed.specs.Planned.{FeedValue}
use Rattle.apply_core.specs.RunRefused.{EndsRun, IsLowest}
use Rattle.vrepl_main.proofs.told_run.run_in_turn.Goals as goal

pub returns-clause-feeds : goal.returns-clause-feeds
returns-clause-feeds g c = c.run-ended.ensures.feeds ∙ c.run_ahead.ensures

pub returns-clause-refused : goal.returns-clause-refused
returns-clause-refused g c = subst (λ (fs : List FeedValue). IfErr c.run-ended.result (EndsRun fs)) c.run_ahead.ensures c.run-ended.ensures.refused

pub returns-clause-lowest : goal.returns-clause-lowest
returns-clause-lowest g c = subst (λ (fs : List FeedValue). IfErr c.run-ended.result (IsLowest fs)) c.run_ahead.ensures c.run-ended.ensures.lowest
