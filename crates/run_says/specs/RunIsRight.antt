-- What `run` writes: the dump of just the rows that the streams keep behind their feeds' ends, under the workflow's tables in
-- their order (this profile). What is refused stands in the contracts below: here all could be read.
use Rattle.std.specs.Prelude.{◌≡◌, ℕ, List, map, length, Some, slice_get}
use Rattle.vrepl_choices.specs.UntilValue.{UntilValue}
use Rattle.feed_ends.specs.Positions.{text_for}
use Rattle.dump.specs.Dump.{dump_of}
use Rattle.dump.specs.DumpRowsValue.{DumpRowsValue}
use Rattle.run_says.specs.Says.{SaysTouches}
use Rattle.run_says.specs.Workflow.{SaysPlans}
use Rattle.run_says.specs.Rows.{Stream, AreKeptRows}

-- as many feeds as streams, each with what its changes do, up to the position that is given for it, if one is
pub record AreFed (feeds : List (List ℕ)) (until : List UntilValue) (streams : List Stream) : Type 0 where
  pub count : length feeds ≡ length streams
  pub each : (s : ℕ) (feed : List ℕ) (stream : Stream) → slice_get feeds s ≡ Some feed → slice_get streams s ≡ Some stream → SaysTouches stream.plan (text_for s until) feed stream.touches

-- the workflow says a plan for each stream, and its feed what the changes do; the text is the dump of the rows that they keep
pub record RunIsRight (workflow : List ℕ) (feeds : List (List ℕ)) (until : List UntilValue) (written : List ℕ) : Type 0 where
  pub streams : List Stream
  pub plans : SaysPlans workflow (map (λ stream. stream.plan) streams)
  pub fed : AreFed feeds until streams
  pub rows : DumpRowsValue
  pub kept : AreKeptRows streams rows
  pub first : Stream
  pub tables : slice_get streams 0 ≡ Some first
  pub dump : written ≡ dump_of first.plan rows
