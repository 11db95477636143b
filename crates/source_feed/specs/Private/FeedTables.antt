-- What is known of each table of a feed, and the order in which the tables were first seen.
use Rattle.std.specs.Prelude.{◌≡◌, ℕ, List, [], ◌∷◌, ◌++◌, Option, None, Some, map, min, if◌then◌else◌}
use Rattle.std.specs.List.{list_any}
use Rattle.std.specs.Option.{option_map}
use Rattle.std.specs.Str.{bytes_eq}
use Rattle.indexmap.specs.IndexMap.{get_by, keys, values}
use Rattle.filter_rule.specs.PlanValue.{PlanValue, table_of_name}
use Rattle.source_feed.specs.declared.feed_tables.FeedTables.{FeedTables}

-- a number of columns as it is kept: a row has at most 256 of them, so what is above 65,535 is as good as that
abbrev pub counted : ℕ → ℕ
counted columns = min columns 65535

abbrev pub width_in : FeedTables → List ℕ → Option ℕ
width_in tables table = option_map (λ known. known.columns) (get_by (λ name. bytes_eq table name.now) tables.first_seen)

-- the names of the tables, the first one seen first
abbrev pub names_in : FeedTables → List (List ℕ)
names_in tables = map (λ name. name.now) (keys tables.first_seen)

-- names in first-seen order, after one more was seen
abbrev pub names_behind : List (List ℕ) → List ℕ → List (List ℕ)
names_behind names name = if list_any (bytes_eq name) names then names else names ++ name ∷ []

-- the tables' numbers in a plan, in the same order
abbrev pub numbers_in : FeedTables → List (Option ℕ)
numbers_in tables = map (λ known. known.number) (values tables.first_seen)

-- a table's number in a plan, where there is a plan that has it
abbrev pub number_under : Option PlanValue → List ℕ → Option ℕ
number_under None name = None
number_under (Some plan) name = table_of_name plan name

-- each table has its number in the plan
abbrev pub AreNumbered : Option PlanValue → FeedTables → Type 0
AreNumbered plan tables = numbers_in tables ≡ map (number_under plan) (names_in tables)
