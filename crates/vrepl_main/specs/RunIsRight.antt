-- What `run` writes, in bytes alone: the text that a workflow and the bytes of its feeds make, up to the positions that are
-- given (this profile).
use Rattle.std.specs.Prelude.{◌≡◌, ◌↔◌, ℕ, List, length, map, Some, Ok, slice_get}
use Rattle.filter_rule.specs.PlanValue.{PlanValue}
use Rattle.filter_rule.specs.Reading.{plans_of}
use Rattle.pk_copy.specs.KeyOrder.{key_cmp}
use Rattle.pk_copy.specs.KeyValue.{KeyValue}
use Rattle.target_tables.specs.Rising.{IsRising}
use Rattle.source_feed.specs.History.{KeptRow}
use Rattle.source_feed.specs.Planned.{FeedValue, groups_under}
use Rattle.dump.specs.Dump.{dump_of}
use Rattle.dump.specs.DumpRowsValue.{DumpRowsValue, row_with_key}
use Rattle.printing.specs.Printing.{Written, IsWritten}
use Rattle.apply_core.specs.Ended.{AreSound, kept_of_feed}
use Rattle.vrepl_choices.specs.UntilValue.{UntilValue, until_value}
use Rattle.feed_ends.specs.EndedFeeds.{AreEnded}
use Rattle.vrepl_main.specs.HexText.{feed_bytes}
use Rattle.vrepl_main.specs.InputList.{bytes_of}
use Rattle.vrepl_main.specs.declared.named_inputs.RunInputs.{RunInputs}

-- ---- the feeds

-- a feed under a plan: the groups that its bytes say
pub record IsOpened (plan : PlanValue) (bytes : List ℕ) (feed : FeedValue) : Type 0 where
  pub plan_of : feed.plan ≡ plan
  pub groups : groups_under bytes plan ≡ Ok feed.groups

-- as many feeds as plans, each of the bytes of its number under the plan of its number
pub record AreOpened (plans : List PlanValue) (bytes : List (List ℕ)) (feeds : List FeedValue) : Type 0 where
  pub given : length bytes ≡ length plans
  pub count : length feeds ≡ length plans
  pub each : (s : ℕ) (plan : PlanValue) (one : List ℕ) (feed : FeedValue) → slice_get plans s ≡ Some plan → slice_get bytes s ≡ Some one → slice_get feeds s ≡ Some feed → IsOpened plan one feed

-- ---- the rows

-- stream s keeps this row at the key: the groups of its feed leave one there that passes the filter, and these are its kept
-- columns
pub record Keeps (feeds : List FeedValue) (s : ℕ) (key : KeyValue) (row : KeptRow) : Type 0 where
  pub feed : FeedValue
  pub there : slice_get feeds s ≡ Some feed
  pub kept : kept_of_feed feed key ≡ Some row

-- By rising key; a row stands there exactly where some stream keeps it; no two streams keep one at the same key.
pub record AreKeptRows (feeds : List FeedValue) (rows : DumpRowsValue) : Type 0 where
  pub rising : IsRising key_cmp rows
  pub each_key : (key : KeyValue) (row : KeptRow) → (row_with_key rows key ≡ Some row) ↔ ((s : ℕ) × Keeps feeds s key row)
  pub apart : (s t : ℕ) (key : KeyValue) (row other : KeptRow) → Keeps feeds s key row → Keeps feeds t key other → s ≡ t

-- ---- the text

-- The workflow says plans, one a stream; the bytes are their feeds; where a position is given for a feed, just its groups up
-- to the last that lies within the position are there; all groups that are there are sound; and what is written is the dump
-- of the rows that the streams keep, under the tables of the first plan.
pub record RunIsRight (workflow : List ℕ) (feeds : List (List ℕ)) (until : List UntilValue) (written : List ℕ) : Type 0 where
  pub plans : List PlanValue
  pub says : plans_of workflow ≡ Ok plans
  pub whole : List FeedValue
  pub fed : AreOpened plans feeds whole
  pub opened : List FeedValue
  pub ended : AreEnded until whole opened
  pub sound : AreSound opened
  pub rows : DumpRowsValue
  pub kept : AreKeptRows opened rows
  pub first : PlanValue
  pub tables : slice_get plans 0 ≡ Some first
  pub dump : written ≡ dump_of first rows

-- the feeds' bytes, decoded where they are given as hexadecimal text, make a text, and just this was written
abbrev pub WritesRight : RunInputs → Written → Written → Type 0
WritesRight inputs old new =
    (feeds : List (List ℕ)) × (map (feed_bytes inputs.feed_form) (bytes_of inputs.feeds.items) ≡ map Some feeds)
    × (text : List ℕ) × RunIsRight inputs.workflow.items feeds (map until_value inputs.until.now) text × IsWritten old new text
