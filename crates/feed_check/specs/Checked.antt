-- What a check of a feed gives: its groups with their touches, the rows that pass at its end, what is told of its
-- changes, the names that no table has, and the events that are passed over (this profile).
use Rattle.std.specs.Prelude.{ℕ, ◌==◌, ◌&&◌, List, [], ◌∷◌, length, Bool, false, Option, Some, None, Result, Ok}
use Rattle.std.specs.List.{count_by, list_any}
use Rattle.filter_rule.specs.PlanValue.{PlanValue}
use Rattle.list_laws.specs.Outcome.{◌>>=◌, each}
use Rattle.board_laws.specs.KeptRows.{passed_rows}
use Rattle.source_feed.specs.declared.fault.FeedFault.{FeedFault}
use Rattle.source_feed.specs.Groups.{groups}
use Rattle.source_feed.specs.Image.{ImageRows}
use Rattle.source_feed.specs.Planned.{FeedValue, source_of}
use Rattle.source_feed.specs.Touches.{PutValue, TouchValue, PreparedValue, prepared}
use Rattle.feed_check.specs.KeyedChanges.{keyed_changes}
use Rattle.feed_check.specs.Findings.{FindingValue, findings_of, moves_of}
use Rattle.feed_check.specs.Skipped.{SkippedValue, skipped_of}
use Rattle.feed_check.specs.Unknown.{unknown_tables}

pub record CheckedValue : Type 0 where
  pub plan : PlanValue
  pub history : List PreparedValue
  pub rows : ImageRows
  pub findings : List FindingValue
  pub moves : List FindingValue
  pub unknown : List (List ℕ)
  pub skipped : List SkippedValue

-- the groups of a feed with their touches: refused by the first that isn't sound
abbrev pub history_of : FeedValue → Result (List PreparedValue) FeedFault
history_of feed = each (prepared feed.plan) feed.groups

-- the rows that pass the stream's filter, as all groups leave them
abbrev pub rows_at_end : List PreparedValue → ImageRows
rows_at_end history = passed_rows history (length history)

-- a feed, opened of these bytes: refused by the first group that isn't sound
abbrev pub checked : List ℕ → FeedValue → Result CheckedValue FeedFault
checked bytes feed =
    history_of feed >>= λ history.
    groups bytes (source_of feed.plan) >>= λ read.
    Ok (record { plan = feed.plan; history = history; rows = rows_at_end history; findings = findings_of (keyed_changes feed.plan read); moves = moves_of (keyed_changes feed.plan read); unknown = unknown_tables feed.plan read; skipped = skipped_of bytes })

-- feeds and the bytes of each, one after another, up to the first refusal
abbrev pub checked_feeds : List (List ℕ) → List FeedValue → Result (List CheckedValue) FeedFault
checked_feeds [] feeds = Ok []
checked_feeds (one ∷ bytes) [] = Ok []
checked_feeds (one ∷ bytes) (feed ∷ feeds) = checked one feed >>= λ check. checked_feeds bytes feeds >>= λ checks. Ok (check ∷ checks)

-- ---- counts of groups

-- a row is put that passes the filter
abbrev pub is_passing : Option PutValue → Bool
is_passing None = false
is_passing (Some put) = put.passes

abbrev pub touches_table : ℕ → TouchValue → Bool
touches_table t touch = touch.0.table == t

abbrev pub passes_in_table : ℕ → TouchValue → Bool
passes_in_table t touch = touch.0.table == t && is_passing touch.1

-- how many groups touch a table; how many put a row there that passes the filter
abbrev pub touching : ℕ → List PreparedValue → ℕ
touching t history = count_by (λ group. list_any (touches_table t) group.touches) history

abbrev pub passing_groups : ℕ → List PreparedValue → ℕ
passing_groups t history = count_by (λ group. list_any (passes_in_table t) group.touches) history

-- ---- counts of rows

-- how many rows are of a table
abbrev pub rows_of_table : ℕ → ImageRows → ℕ
rows_of_table t rows = count_by (λ row. row.0.table == t) rows
