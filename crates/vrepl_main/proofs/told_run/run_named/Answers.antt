use Rattle.std.proofs.Common.{◌∙◌, sym, ℕ, ◌<◌, List, length, subst}
use Rattle.std.specs.Prelude.{IfErr}
use Rattle.source_feed.specs.Planned.{FeedValue}
use Rattle.apply_core.specs.Ended.{AreAsBefore, IsNamedStream}
use Rattle.apply_core.specs.RunRefused.{EndsRun}
use Rattle.vrepl_main.proofs.AheadLaws.{before_behind}
use Rattle.vrepl_main.proofs.told_run.run_named.Goals as goal

pub run_streams-ended-requires : goal.run_streams-ended-requires
run_streams-ended-requires g c = subst (λ (fs : List FeedValue). (s : ℕ) → IsNamedStream c.args.only.now s → s < length fs) (sym c.named_ahead.ensures.feeds) c.requires

pub returns-clause-feeds : goal.returns-clause-feeds
returns-clause-feeds g c = c.run_streams-ended.ensures.feeds ∙ c.named_ahead.ensures.feeds

pub returns-clause-others : goal.returns-clause-others
returns-clause-others g c = before_behind c.run_streams-ended.result c.args.only.now c.args.fed.now.board c.named_ahead.new.fed.board c.run_streams-ended.new.self.board c.named_ahead.ensures.others c.run_streams-ended.ensures.others

pub returns-clause-refused : goal.returns-clause-refused
returns-clause-refused g c = subst (λ (fs : List FeedValue). IfErr c.run_streams-ended.result (EndsRun fs)) c.named_ahead.ensures.feeds c.run_streams-ended.ensures.refused
