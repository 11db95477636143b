use Rattle.std.proofs.Common.{ap, sym, ◌∙◌}
use Rattle.std.specs.Prelude.{option_map}
use Rattle.std.specs.Map.Iter.{deref_pair}
use Rattle.source_feed.proofs.TableLaws.{found_name, told_name}
use Rattle.source_feed.proofs.feed_tables.FeedTables.find.Goals as goal

pub returns-clause-place : goal.returns-clause-place
returns-clause-place c = found_name c.args.self.now.first_seen.entries c.args.table.now _ (sym c.get_full.ensures.index ∙ ap (option_map (λ p. p.0)) c.in_ok-place.was)

pub returns-then-eq-clause-place : goal.returns-then-eq-clause-place
returns-then-eq-clause-place c = told_name c.args.self.now.first_seen.entries c.args.told _ c.args.table.now (sym c.get_index.ensures.entry ∙ ap (option_map deref_pair) c.in-Some.is) (sym c.eq.ensures ∙ c.if-eq.true)
