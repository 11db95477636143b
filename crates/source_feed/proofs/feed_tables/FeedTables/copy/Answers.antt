use Rattle.std.proofs.Common.{◌≡◌, ℕ, List, ap}
use denote.Ref.{Bor}
use Rattle.std.proofs.lemmas.Map.Entries.{entries_from_clone}
use Rattle.source_feed.specs.declared.feed_tables.FeedTable.{FeedTable}
use Rattle.source_feed.proofs.TableLaws.{names, numbers}
use Rattle.source_feed.proofs.feed_tables.FeedTables.copy.Goals as goal

abbrev same_name : Bor (List ℕ) → Bor (List ℕ) → Type 0
same_name x y = y ≡ x

abbrev same_known : FeedTable → FeedTable → Type 0
same_known v w = w ≡ v

pub returns-clause-order : goal.returns-clause-order
returns-clause-order c = ap names (entries_from_clone same_name same_known (λ x y e. e) (λ v w e. e) c.args.self.now.first_seen.entries c.in_ok-clone.field-0.entries c.in_ok-clone.ensures.cases)

pub returns-clause-numbers : goal.returns-clause-numbers
returns-clause-numbers c = ap numbers (entries_from_clone same_name same_known (λ x y e. e) (λ v w e. e) c.args.self.now.first_seen.entries c.in_ok-clone.field-0.entries c.in_ok-clone.ensures.cases)
