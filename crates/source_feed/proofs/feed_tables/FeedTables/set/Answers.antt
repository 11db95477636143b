use Rattle.std.proofs.Common.{ℕ, List, Option, sym, ap, ◌∙◌}
use Rattle.std.specs.Prelude.{map, option_map}
use denote.Ref.{Bor}
use Rattle.std.proofs.lemmas.Map.Text.{hash_map_updates_str}
use Rattle.source_feed.specs.declared.feed_tables.FeedTable.{FeedTable}
use Rattle.source_feed.specs.Private.FeedTables.{number_under}
use Rattle.source_feed.proofs.TableLaws.{names-insert, names, numbers-insert, numbers, width-insert}
use Rattle.source_feed.proofs.feed_tables.FeedTables.set.Goals as goal

abbrev known_of : ℕ → Option ℕ → FeedTable
known_of columns number = record { columns = columns; number = number }

pub returns-clause-widths : goal.returns-clause-widths
returns-clause-widths c = λ name.
    ap (option_map (λ (known : FeedTable). known.columns)) (hash_map_updates_str c.args.table.now c.args.self.now.first_seen c.insert.new.self _ c.in_ok-insert.ensures.updates name)
    ∙ width-insert c.args.table.now name (known_of c.args.columns c.args.number) _

pub returns-clause-order : goal.returns-clause-order
returns-clause-order c = ap names c.in_ok-insert.ensures.entries ∙ names-insert c.args.self.now.first_seen.entries c.args.table (known_of c.args.columns c.args.number)

pub returns-clause-numbers : goal.returns-clause-numbers
returns-clause-numbers c = λ plan h all.
    ap numbers c.in_ok-insert.ensures.entries
    ∙ numbers-insert (number_under plan) c.args.self.now.first_seen.entries c.args.table (known_of c.args.columns c.args.number) h all
    ∙ ap (λ (es : List (Bor (List ℕ) × FeedTable)). map (number_under plan) (names es)) (sym c.in_ok-insert.ensures.entries)
