use Rattle.std.proofs.Common.{ap, sym, ◌∙◌}
use Rattle.std.specs.Prelude.{option_map}
use Rattle.std.specs.Map.Iter.{deref_pair}
use Rattle.source_feed.proofs.TableLaws.{number_found, number_missing}
use Rattle.source_feed.proofs.feed_tables.FeedTables.number.Goals as goal

pub returns-in-None : goal.returns-in-None
returns-in-None c = sym (number_missing c.args.self.now.first_seen.entries c.args.place (sym c.get_index.ensures.entry ∙ ap (option_map deref_pair) c.in-None.is))

pub returns-in-Some : goal.returns-in-Some
returns-in-Some c = sym (number_found c.args.self.now.first_seen.entries c.args.place _ (sym c.get_index.ensures.entry ∙ ap (option_map deref_pair) c.in-Some.is))
