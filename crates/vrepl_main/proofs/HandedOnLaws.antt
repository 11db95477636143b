-- The checkpoints that the commands hand on, in bytes alone.
use Rattle.std.proofs.Common.{◌≡◌, ◌∙◌, ℕ, Bool, true, false, List, [], length, map, Option, Some, None, Result, Ok, Err, refl, sym, ap}
use Rattle.std.specs.Prelude.{not, option_map, slice_get}
use Rattle.std.proofs.lemmas.List.{length-map}
use Rattle.std.proofs.lemmas.Option.{same_Some, slice_get-map}
use Rattle.list_laws.specs.Outcome.{◌>>=◌, refused_if}
use Rattle.filter_rule.specs.Faults as faults
use Rattle.filter_rule.specs.PlanValue.{PlanValue}
use Rattle.filter_rule.specs.Reading.{plans_of}
use Rattle.source_feed.specs.Planned.{FeedValue}
use Rattle.printing.specs.Printing.{Written, IsWritten}
use Rattle.board_laws.specs.FedBoards.{IsFedBoard}
use Rattle.board_laws.specs.Meaning.{Meaning, State}
use Rattle.board_laws.specs.Reading.{HasFeed}
use Rattle.board_laws.specs.Sources.{ShowAll}
use Rattle.board_laws.specs.Compatible.{plans_of_board}
use Rattle.checkpoint_laws.specs.Written.{checkpoint_of}
use Rattle.checkpoint_laws.proofs.RestartedLaws.{same_at_places}
use Rattle.checkpoint_laws.proofs.ResumedLaws.{at_same_place}
use Rattle.apply_core.specs.Shown.{all_rows}
use Rattle.step_script.specs.ScriptLines.{script_steps}
use Rattle.step_script.specs.declared.script.ScriptStep.{ScriptStep}
use Rattle.vrepl_choices.specs.UntilValue.{UntilValue, until_value}
use Rattle.vrepl_choices.specs.declared.feed_form.FeedForm.{FeedForm}
use Rattle.feed_ends.specs.EndedFeeds.{AreEnded, IsEndedBy}
use Rattle.feed_ends.specs.Positions.{text_for}
use Rattle.vrepl_main.specs.CheckpointIsRight.{FollowsOnlyRight, FollowsRight, MakesCheckpoint, ShowsAt, WritesCheckpoint}
use Rattle.vrepl_main.specs.Ending.{opened_until}
use Rattle.vrepl_main.specs.Followed.{FollowedValue, IsFollowed, follow_asked, saved_asked}
use Rattle.vrepl_main.specs.Given.{given_value}
use Rattle.vrepl_main.specs.HexText.{feed_bytes}
use Rattle.vrepl_main.specs.InputList.{bytes_of}
use Rattle.vrepl_main.specs.JoinedRun.{IsSavedJoin, PrintsJoin, join_asked}
use Rattle.vrepl_main.specs.OnlyFollowed.{IsOnlyFollowed, have_streams, only_asked, opened_for}
use Rattle.vrepl_main.specs.Opening.{OpenedValue, opened, opened_bytes, opened_with, said_plans}
use Rattle.vrepl_main.specs.Reasons.{Reason, no_stream}
use Rattle.vrepl_main.specs.RunIsRight.{AreOpened, IsOpened}
use Rattle.vrepl_main.specs.SavedBoard.{IsSavedBoard}
use Rattle.vrepl_main.specs.ScriptRun.{given_with, said_steps, script_asked}
use Rattle.vrepl_main.specs.declared.named_inputs.FollowInputs.{FollowInputs}
use Rattle.vrepl_main.specs.declared.named_inputs.Inputs.{Inputs}
use Rattle.vrepl_main.specs.declared.named_inputs.JoinInputs.{JoinInputs}
use Rattle.vrepl_main.specs.declared.saving.Saved.{Saved}
use Rattle.vrepl_main.proofs.RightLaws.{SaysUntil, SaysWhole, never, run_is_right, says_until, says_whole}

-- ---- the plans of a board

-- a feed up to a position is of the same plan
same_plan : (text : Option (List ℕ)) (feed one : FeedValue) → IsEndedBy text feed one → one.plan ≡ feed.plan
same_plan None feed one is = ap (λ (f : FeedValue). f.plan) is
same_plan (Some text) feed one (position, said, ends) = ends.plan

-- a board that reads feeds up to positions has the plans under which these were opened
board_plans : (plans : List PlanValue) (bytes : List (List ℕ)) (untils : List UntilValue) (whole feeds : List FeedValue) (board : Meaning) → AreOpened plans bytes whole → AreEnded untils whole feeds → IsFedBoard feeds board
    → plans_of_board board ≡ plans
board_plans plans bytes untils whole feeds board opened ended fed = same_at_places (plans_of_board board) plans long each
  where
    streams : length (plans_of_board board) ≡ length board.streams
    streams = length-map board.streams (λ (state : State). state.plan)

    long : length (plans_of_board board) ≡ length plans
    long = streams ∙ fed.count ∙ ended.count ∙ opened.count

    each : (s : ℕ) (x y : PlanValue) → slice_get (plans_of_board board) s ≡ Some x → slice_get plans s ≡ Some y → x ≡ y
    each s x y at_x at_y =
        let at : (state : State) × (slice_get board.streams s ≡ Some state) = at_same_place (plans_of_board board) board.streams s x streams at_x in
        let has : HasFeed feeds s at.0 = fed.reads s at.0 at.1 in
        let from : (feed : FeedValue) × (slice_get whole s ≡ Some feed) = at_same_place feeds whole s has.feed ended.count has.fed in
        let of : (one : List ℕ) × (slice_get bytes s ≡ Some one) = at_same_place plans bytes s y (sym opened.given) at_y in
        let under : IsOpened y of.0 from.0 = opened.each s y of.0 from.0 at_y of.1 from.1 in
        let here : x ≡ at.0.plan = same_Some x at.0.plan (sym at_x ∙ slice_get-map (λ (state : State). state.plan) board.streams s ∙ ap (option_map (λ (state : State). state.plan)) at.1) in
        here ∙ has.reads.plan ∙ same_plan (text_for s untils) from.0 has.feed (ended.each s from.0 has.feed from.1 has.fed) ∙ under.plan_of

-- ---- what a board shows

-- a board that reads feeds up to positions
shows_until : (workflow : List ℕ) (given : List (Option (List ℕ))) (untils : List UntilValue) (found : OpenedValue) (says : SaysUntil workflow given untils found) (board : Meaning)
    → IsFedBoard found.feeds board → ShowAll found.feeds board → ShowsAt workflow says.fed.bytes untils found.feeds board
shows_until workflow given untils found says board fed sources = record {
  plans = found.plans;
  says = says.says;
  whole = says.whole;
  fed = says.fed.fed;
  ended = says.ended;
  planned = board_plans found.plans says.fed.bytes untils says.whole found.feeds board says.fed.fed says.ended fed;
  sources = sources;
}

-- where no position is given feeds are whole
all_whole : (feeds : List FeedValue) → AreEnded [] feeds feeds
all_whole feeds = record { count = refl; each = λ s feed one at_f at_g. same_Some one feed (sym at_g ∙ at_f) }

whole_until : (workflow : List ℕ) (given : List (Option (List ℕ))) (found : OpenedValue) → SaysWhole workflow given found → SaysUntil workflow given [] found
whole_until workflow given found says = record { says = says.says; whole = found.feeds; fed = says.fed; ended = all_whole found.feeds }

-- ---- `save` and `join`

-- the checkpoint of a board over whole feeds
makes_checkpoint : (form : FeedForm) (workflow : List ℕ) (given : List (List ℕ)) (found : OpenedValue) (board : Meaning) (bytes : List ℕ) → opened form workflow given ≡ Ok found
    → IsFedBoard found.feeds board → ShowAll found.feeds board → bytes ≡ checkpoint_of board → MakesCheckpoint form workflow given bytes
makes_checkpoint form workflow given found board bytes e fed sources is =
    let all : List (Option (List ℕ)) = map (feed_bytes form) given in
    let says : SaysUntil workflow all [] found = whole_until workflow all found (says_whole workflow all found e) in (
      says.fed.bytes,
      says.fed.are,
      record { opened = found.feeds; board = board; shows = shows_until workflow all [] found says board fed sources; checkpoint = is },
    )

pub makes_saved : (inputs : Inputs) (saved : Saved) → IsSavedBoard (script_asked inputs) saved → MakesCheckpoint inputs.feed_form inputs.workflow.items (bytes_of inputs.feeds.items) saved.checkpoint.items
makes_saved inputs saved is = by (opened inputs.feed_form inputs.workflow.items (bytes_of inputs.feeds.items)) refl is
  where
    of_steps : (found : OpenedValue) → opened inputs.feed_form inputs.workflow.items (bytes_of inputs.feeds.items) ≡ Ok found → (rs : Result (List ScriptStep) Reason)
        → IsSavedBoard (rs >>= λ steps. Ok (record { opened = found; steps = steps })) saved → MakesCheckpoint inputs.feed_form inputs.workflow.items (bytes_of inputs.feeds.items) saved.checkpoint.items
    of_steps found e (Err reason) is = absurd is
    of_steps found e (Ok steps) (is, many) = makes_checkpoint inputs.feed_form inputs.workflow.items (bytes_of inputs.feeds.items) found is.board saved.checkpoint.items e is.fed is.sources is.checkpoint

    by : (r : Result OpenedValue Reason) → opened inputs.feed_form inputs.workflow.items (bytes_of inputs.feeds.items) ≡ r → IsSavedBoard (r >>= given_with inputs.script.items) saved
        → MakesCheckpoint inputs.feed_form inputs.workflow.items (bytes_of inputs.feeds.items) saved.checkpoint.items
    by (Err reason) e is = absurd is
    by (Ok found) e is = of_steps found e (said_steps (script_steps inputs.script.items)) is

pub writes_saved : (inputs : Inputs) (saved : Saved) (old new : Written) → IsSavedBoard (script_asked inputs) saved → IsWritten old new saved.checkpoint.items
    → WritesCheckpoint inputs.feed_form inputs.workflow.items (bytes_of inputs.feeds.items) old new
writes_saved inputs saved old new is written = (saved.checkpoint.items, makes_saved inputs saved is, written)

pub makes_joined : (inputs : JoinInputs) (bytes : List ℕ) → IsSavedJoin (join_asked inputs) inputs.one.items (bytes_of inputs.others.items) bytes
    → MakesCheckpoint inputs.feed_form inputs.workflow.items (bytes_of inputs.feeds.items) bytes
makes_joined inputs bytes is = by (join_asked inputs) refl is
  where
    by : (r : Result OpenedValue Reason) → join_asked inputs ≡ r → IsSavedJoin r inputs.one.items (bytes_of inputs.others.items) bytes → MakesCheckpoint inputs.feed_form inputs.workflow.items (bytes_of inputs.feeds.items) bytes
    by (Err reason) e is = absurd is
    by (Ok found) e (board, join, saved) = makes_checkpoint inputs.feed_form inputs.workflow.items (bytes_of inputs.feeds.items) found board bytes e join.fed join.sources saved

pub writes_joined : (inputs : JoinInputs) (old new : Written) → PrintsJoin inputs old new → WritesCheckpoint inputs.feed_form inputs.workflow.items (bytes_of inputs.feeds.items) old new
writes_joined inputs old new (bytes, is, written) = (bytes, makes_joined inputs bytes is, written)

-- ---- `follow`

module _ (inputs : FollowInputs) (followed : FollowedValue) where
  given : List (Option (List ℕ))
  given = map given_value inputs.feeds.now

  untils : List UntilValue
  untils = map until_value inputs.until.now

  pub follows_right : IsFollowed (follow_asked inputs) (saved_asked inputs) followed → FollowsRight inputs followed
  unfolding given untils
  follows_right is = by (follow_asked inputs) refl is
    where
      by : (r : Result OpenedValue Reason) → follow_asked inputs ≡ r → IsFollowed r (saved_asked inputs) followed → FollowsRight inputs followed
      by (Err reason) e is = absurd is
      by (Ok found) e is =
          let says : SaysUntil inputs.workflow.now given untils found = says_until inputs.workflow.now given untils found e in (
            says.fed.bytes,
            says.fed.are,
            record {
              opened = found.feeds;
              shows = shows_until inputs.workflow.now given untils found says followed.board is.ends.fed is.ends.sources;
              ended = is.ends.ended;
              checkpoint = is.is_checkpoint;
              dump = run_is_right inputs.workflow.now given untils found says (all_rows followed.board.rows) followed.plan is.ends.sound is.ends.union is.first;
            },
          )

  -- a workflow that has the streams that are named
  for_all : (only workflow : List ℕ) (bytes : List (Option (List ℕ))) (found : OpenedValue) → opened_until untils (opened_for only workflow bytes) ≡ Ok found → opened_until untils (opened_bytes workflow bytes) ≡ Ok found
  for_all only workflow bytes found e = by (plans_of workflow) e
    where
      there : (plans : List PlanValue) (b : Bool) → opened_until untils ((refused_if b no_stream >>= λ _. Ok plans) >>= opened_with bytes) ≡ Ok found → opened_until untils (opened_with bytes plans) ≡ Ok found
      there plans true e = absurd (never no_stream found e)
      there plans false e = e

      by : (r : Result (List PlanValue) faults.Fault)
          → opened_until untils ((said_plans r >>= λ plans. refused_if (not (have_streams only plans)) no_stream >>= λ _. Ok plans) >>= opened_with bytes) ≡ Ok found
          → opened_until untils (said_plans r >>= opened_with bytes) ≡ Ok found
      by (Err fault) e = e
      by (Ok plans) e = there plans (not (have_streams only plans)) e

  pub follows_only_right : (only : List ℕ) → IsOnlyFollowed (only_asked only inputs) only (saved_asked inputs) followed → FollowsOnlyRight inputs only followed
  unfolding given untils shows_until
  follows_only_right only is = by (only_asked only inputs) refl is
    where
      by : (r : Result OpenedValue Reason) → only_asked only inputs ≡ r → IsOnlyFollowed r only (saved_asked inputs) followed → FollowsOnlyRight inputs only followed
      by (Err reason) e is = absurd is
      by (Ok found) e is =
          let says : SaysUntil inputs.workflow.now given untils found = says_until inputs.workflow.now given untils found (for_all only inputs.workflow.now given found e) in (
            says.fed.bytes,
            says.fed.are,
            record {
              opened = found.feeds;
              shows = shows_until inputs.workflow.now given untils found says followed.board is.moved.fed is.moved.sources;
              ended = is.moved.ended;
              start = is.start;
              starts = is.starts;
              others = is.moved.others;
              checkpoint = is.is_checkpoint;
              tables = is.first;
            },
          )
