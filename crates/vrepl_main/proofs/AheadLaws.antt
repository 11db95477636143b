-- Steps of some streams, by which the others stay as they stand.
use Rattle.std.proofs.Common.{◌≡◌, ◌≢◌, ◌∙◌, ap, sym, subst, ℕ, List, Option, None, Some, Result, Ok, Err, slice_get}
use Rattle.std.specs.Prelude.{MatchOption, OnOk}
use Rattle.list_laws.proofs.Places.{slice_get-set_other}
use Rattle.stream_core.specs.declared.step.Step.{Step}
use Rattle.source_feed.specs.Planned.{FeedValue}
use Rattle.board_laws.specs.declared.refusal.Refusal.{Refusal}
use Rattle.board_laws.specs.declared.refusal.Refusal.TheVariants.{NoStream, WrongPlan, Diverged, Core, OwnedByOther, FeedCount, Memory}
use Rattle.board_laws.specs.declared.step_refusal.StepRefusal.TheVariants.{Unprepared, Refused}
use Rattle.board_laws.specs.Meaning.{State, Meaning}
use Rattle.board_laws.specs.StateAfter.{state_after}
use Rattle.board_laws.specs.Schedule.{Reply, IsReply, IsReplyBy, feed_of, unfed}
use Rattle.apply_core.specs.Ended.{AreAsBefore, IsNamedStream, OthersStay}

module _ (feeds : List FeedValue) (old new : Meaning) (s : ℕ) (step : Step) where
  as_it_was : new ≡ old → OthersStay s old new
  as_it_was same = λ t ne. ap (λ (board : Meaning). slice_get board.streams t) same

  by_feed : (feed : FeedValue) (reply : Reply) → IsReplyBy feed old s step reply new → OthersStay s old new
  by_feed feed (Ok answer) h = λ t ne. ap (λ (xs : List State). slice_get xs t) h.stepped.streams ∙ slice_get-set_other old.streams s (state_after h.stepped.state h.event) t ne
  by_feed feed (Err (Unprepared fault)) h = as_it_was h.1
  by_feed feed (Err (Refused Memory)) h = as_it_was h.1
  by_feed feed (Err (Refused NoStream)) h = as_it_was h.stepped.1
  by_feed feed (Err (Refused WrongPlan)) h = as_it_was h.stepped.1
  by_feed feed (Err (Refused Diverged)) h = as_it_was h.stepped.1
  by_feed feed (Err (Refused (Core refusal))) h = as_it_was h.stepped.1
  by_feed feed (Err (Refused (OwnedByOther key owner))) h = as_it_was h.stepped.1
  by_feed feed (Err (Refused FeedCount)) h = as_it_was h.stepped.1

  -- a step of a stream leaves the others as they were, whatever it replies
  pub others_stay : (reply : Reply) → IsReply feeds old (s, step) reply new → OthersStay s old new
  others_stay reply h = by (feed_of feeds old s) h
    where
      by : (o : Option FeedValue) → MatchOption o ((reply ≡ Err (Refused (unfed old s))) × (new ≡ old)) (λ feed. IsReplyBy feed old s step reply new) → OthersStay s old new
      by None h = as_it_was h.1
      by (Some feed) h = by_feed feed reply h

-- one behind the other
pub others_then : (s : ℕ) (old now new : Meaning) → OthersStay s old now → OthersStay s now new → OthersStay s old new
others_then s old now new first second = λ t ne. second t ne ∙ first t ne

pub before_then : (streams : List ℕ) (old now new : Meaning) → AreAsBefore streams old now → AreAsBefore streams now new → AreAsBefore streams old new
before_then streams old now new first second = λ t unnamed. second t unnamed ∙ first t unnamed

-- the same behind an answer
pub before_behind : {A E : Type 0} (result : Result A E) (streams : List ℕ) (old now new : Meaning) → AreAsBefore streams old now → OnOk result (AreAsBefore streams now new) → OnOk result (AreAsBefore streams old new)
before_behind (Ok x) streams old now new first second = before_then streams old now new first second
before_behind (Err e) streams old now new first second = tt

-- steps of one that is named
pub named_stay : (streams : List ℕ) (s : ℕ) (old new : Meaning) → IsNamedStream streams s → OthersStay s old new → AreAsBefore streams old new
named_stay streams s old new named others = λ t unnamed. others t (λ same. unnamed (subst (IsNamedStream streams) (sym same) named))
