-- The blocks of a feed as a grammar over its events (this profile):
-- BEGIN body COMMIT is a block with the body's last position and its changes in order; BEGIN body
-- ROLLBACK is none; a position outside is a block without changes; what is ignored is nothing.
use Rattle.std.specs.Prelude.{◌≡◌, ℕ, List, [], ◌∷◌, ◌++◌, reverse, IsTrue, Bool, true, false, Option, None}
use Rattle.std.specs.List.{AllByRecursion, flat_map}
use Rattle.std.specs.Option.{option_to_list, option_or}
use Rattle.vevent.specs.declared.ignored.IgnoredEvent.{IgnoredEvent}
use Rattle.vevent.specs.EventValue.{EventValue, Begin, Commit, Rollback, Row, Field, Ignored}
use Rattle.source_feed.specs.GroupValue.{Position, TableChangeValue}
use Rattle.source_feed.specs.SourceValue.{SourceValue, table_in_source}
use Rattle.source_feed.specs.PastEvents.{PastEvents, is_open, last_field, position_of, changes_in}
use Rattle.source_feed.specs.Groups.{Block, block_at, block_at_position}

-- all blocks of a history, in order
abbrev pub blocks : SourceValue → PastEvents → List Block
blocks source [] = []
blocks source (event ∷ earlier) = blocks source earlier ++ option_to_list (block_at source earlier event)

-- an event that may stand in a body
abbrev pub is_inner : EventValue → Bool
is_inner Begin = false
is_inner Commit = false
is_inner Rollback = false
is_inner event = true

-- the last position of a body, its events in order
abbrev pub last_position_in : SourceValue → List EventValue → Option Position
last_position_in source [] = None
last_position_in source (event ∷ body) = option_or (last_position_in source body) (position_of source event)

-- the changes of an event
abbrev pub changes_at : SourceValue → EventValue → List TableChangeValue
changes_at source (Row name changes) = changes_in (table_in_source source name) changes
changes_at source event = []

-- behind BEGIN and a body, before it `earlier`; a history has its latest event first
abbrev pub inside : PastEvents → List EventValue → PastEvents
inside earlier body = reverse body ++ Begin ∷ earlier

-- only a FIELD sets columns; the end of a transaction, a rollback too, leaves them
abbrev pub changes_columns : EventValue → Bool
changes_columns (Field name columns) = true
changes_columns event = false

pub record BlockGrammar (source : SourceValue) : Type 0 where
  pub committed : (earlier : PastEvents) (body : List EventValue) → AllByRecursion (λ event. IsTrue (is_inner event)) body
      → blocks source (Commit ∷ inside earlier body) ≡ blocks source earlier ++ option_to_list (block_at_position (last_position_in source body) (flat_map (changes_at source) body))
  pub rolled_back : (earlier : PastEvents) (body : List EventValue) → AllByRecursion (λ event. IsTrue (is_inner event)) body
      → blocks source (Rollback ∷ inside earlier body) ≡ blocks source earlier
  pub outside : (earlier : PastEvents) (event : EventValue) → is_open earlier ≡ false
      → blocks source (event ∷ earlier) ≡ blocks source earlier ++ option_to_list (block_at_position (position_of source event) [])
  pub ignored : (earlier : PastEvents) (kind : IgnoredEvent) → blocks source (Ignored kind ∷ earlier) ≡ blocks source earlier
  pub columns_stay : (earlier : PastEvents) (table : List ℕ) (event : EventValue) → changes_columns event ≡ false → last_field source (event ∷ earlier) table ≡ last_field source earlier table
