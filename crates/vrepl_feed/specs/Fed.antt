-- The feed of a text, and what the command `feed` leaves of it (this profile).
use Rattle.std.specs.Prelude.{◌≡◌, ◌⊎◌, ℕ, List, [], codes, Option, None, Some, option_map, Ok, slice_get}
use Rattle.filter_rule.specs.PlanValue.{PlanValue}
use Rattle.filter_rule.specs.Reading.{plans_of}
use Rattle.source_feed.specs.Planned.{PlannedGroupValue, groups_under}
use Rattle.printing.specs.Printing.{Written, IsWritten, BreaksOff}
use Rattle.vrepl_choices.specs.declared.feed_form.FeedForm.TheVariants.{Bytes}
use Rattle.vrepl_main.specs.Command.{Ends}
use Rattle.vrepl_main.specs.Printing.{PrintsOrBreaks}
use Rattle.vrepl_main.specs.RefusalLine.{line_of}
use Rattle.vrepl_main.specs.Show.{shown_feed, shown_source}
use Rattle.vrepl_feed.specs.Refusals.{unfed_line}
use Rattle.vrepl_feed.specs.declared.inputs.FeedInputs.{FeedInputs}
use Rattle.vrepl_feed.specs.declared.refusal.Unfed.{Unfed}

-- `show` of the bytes, as a feed of the stream's keyspace and shard, prints the text, and under the stream's plan they are a feed
pub record IsFedUnder (workflow : List ℕ) (stream : ℕ) (text feed : List ℕ) : Type 0 where
  pub plans : List PlanValue
  pub said : plans_of workflow ≡ Ok plans
  pub plan : PlanValue
  pub there : slice_get plans stream ≡ Some plan
  pub shows : shown_feed Bytes feed (shown_source plan.keyspace plan.shard) ≡ Ok text
  pub groups : List PlannedGroupValue
  pub opens : groups_under feed plan ≡ Ok groups

-- the same where no workflow is given: of the empty keyspace and shard
abbrev pub IsFedBy : Option (List ℕ) → ℕ → List ℕ → List ℕ → Type 0
IsFedBy None stream text feed = shown_feed Bytes feed (shown_source [] []) ≡ Ok text
IsFedBy (Some workflow) stream text feed = IsFedUnder workflow stream text feed

-- the workflow's bytes, where one is given
abbrev pub workflow_of : FeedInputs → Option (List ℕ)
workflow_of inputs = option_map (λ w. w.items) inputs.workflow

-- the bytes are the feed of the text that is given
abbrev pub IsFed : FeedInputs → List ℕ → Type 0
IsFed inputs feed = IsFedBy (workflow_of inputs) inputs.stream inputs.text.items feed

-- bytes were printed whole, or a beginning of them and the line of a refusal for that
abbrev pub IsPrinted : List ℕ → ℕ → Written → Written → Written → Written → Type 0
IsPrinted bytes status old new err_old err_new =
    ((status ≡ 0) × IsWritten old new bytes) ⊎ ((status ≡ 1) × BreaksOff old new bytes × PrintsOrBreaks err_old err_new (line_of 132 (codes " file -")))

abbrev pub PrintsFed : FeedInputs → Written → Written → Type 0
PrintsFed inputs old new = (feed : List ℕ) × IsFed inputs feed × IsWritten old new feed

-- a beginning of it, and then a write failed
abbrev pub BreaksOffFed : FeedInputs → Written → Written → Type 0
BreaksOffFed inputs old new = (feed : List ℕ) × IsFed inputs feed × BreaksOff old new feed

-- the line of a refusal was printed whole on standard error, unless a write of it failed, and nothing on standard output; or a
-- write on standard output failed, and the line says so
abbrev pub PrintsUnfed : FeedInputs → Written → Written → Written → Written → Type 0
PrintsUnfed inputs old new err_old err_new =
    ((unfed : Unfed) × (new ≡ old) × PrintsOrBreaks err_old err_new (unfed_line unfed))
    ⊎ (BreaksOffFed inputs old new × PrintsOrBreaks err_old err_new (line_of 132 (codes " file -")))

-- how `feed` ends
abbrev pub FeedEnds : FeedInputs → ℕ → Written → Written → Written → Written → Type 0
FeedEnds inputs status old new err_old err_new = Ends status (PrintsFed inputs old new) ⊥ (PrintsUnfed inputs old new err_old err_new)
