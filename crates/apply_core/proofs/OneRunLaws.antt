-- A list of steps that was taken, and others.
use Rattle.std.proofs.Common.{◌≡◌, ◌==◌, ◌&&◌, ℕ, ◌≤◌, Bool, true, false, not, cond, List, [], ◌∷◌, length, Option, slice_get, refl, sym, ap, subst, ◌∙◌}
use borrow.Author.Tests.{eqb-true}
use Rattle.std.specs.Prelude.{MatchOption}
use Rattle.std.specs.List.{AllByRecursion}
use Rattle.std.specs.Option.{option_and_then}
use Rattle.filter_rule.specs.PlanValue.{PlanValue}
use Rattle.stream_core.specs.declared.step.Step.{Step}
use Rattle.source_feed.specs.Planned.{FeedValue}
use Rattle.board_laws.specs.declared.step_refusal.StepRefusal.TheVariants.{Refused}
use Rattle.board_laws.specs.Agreement.{SameStepsSameBoard, LoneRunsShowAlike}
use Rattle.board_laws.specs.Lawful.{IsLawful}
use Rattle.board_laws.specs.Lone.{is_hindered, is_lone, lone_steps, lone_replies, IsAloneAs}
use Rattle.board_laws.specs.Meaning.{State, Meaning}
use Rattle.board_laws.specs.Reading.{AllReadTheirFeeds}
use Rattle.board_laws.specs.RunLaws.{RunsStayLawful, RunsAreDetermined, StreamsAreIsolated, AloneWithTheSameRows, DisjointFeedsNeverClash}
use Rattle.board_laws.specs.Schedule.{Reply, IsReplyBy, unfed, IsRun}
use Rattle.board_laws.proofs.Chunks.{and-left}
use Rattle.board_laws.proofs.Following.{refused_by}
use Rattle.apply_core.specs.Fresh.{fresh_board}
use Rattle.apply_core.specs.OneRun.{IsDetermined, IsOfAnyOrder, DoesntClash, AllRunAlone, AllRunAloneOn, AllAreIsolated}

-- ---- the steps of one stream

abbrev AllOn : ℕ → List (ℕ × Step) → Type 0
AllOn s steps = AllByRecursion (λ (step : ℕ × Step). step.0 ≡ s) steps

lone-on : (s : ℕ) (steps : List (ℕ × Step)) (replies : List Reply) → AllOn s (lone_steps s steps replies)
lone-on s [] replies = tt
lone-on s (step ∷ steps) [] = tt
lone-on s (step ∷ steps) (reply ∷ replies) = by (lone-on s steps replies) (is_lone s step reply) refl
  where
    by : AllOn s (lone_steps s steps replies) → (b : Bool) → is_lone s step reply ≡ b → AllOn s (cond b (step ∷ lone_steps s steps replies) (lone_steps s steps replies))
    by rest true e = (eqb-true step.0 s (and-left (step.0 == s) (not (is_hindered reply)) e), rest)
    by rest false e = rest

-- are of its feed alone
refed : (feeds others : List FeedValue) (s : ℕ) → slice_get feeds s ≡ slice_get others s → (old new : Meaning) (steps : List (ℕ × Step)) (replies : List Reply) → AllOn s steps
    → IsRun others old steps replies new → IsRun feeds old steps replies new
refed feeds others s same old new [] [] all run = run
refed feeds others s same old new [] (reply ∷ replies) all run = elim run [ ]
refed feeds others s same old new (step ∷ steps) [] all run = elim run [ ]
refed feeds others s same old new (step ∷ steps) (reply ∷ replies) all run = (
  run.0,
  subst (λ (o : Option FeedValue). MatchOption o ((reply ≡ refused_by (Refused (unfed old step.0))) × (run.0 ≡ old)) (λ feed. IsReplyBy feed old step.0 step.1 reply run.0))
      (ap (λ (f : Option FeedValue). option_and_then (λ (x : State). f) (slice_get old.streams step.0)) (ap (slice_get others) all.0 ∙ sym same ∙ ap (slice_get feeds) (sym all.0))) run.1,
  refed feeds others s same run.0 new steps replies all.1 run.2,
)

-- ---- a run

module _ (feeds : List FeedValue) (old new : Meaning) (steps : List (ℕ × Step)) (replies : List Reply) (run : IsRun feeds old steps replies new) (lawful : IsLawful old) where
  pub is-determined : RunsAreDetermined → IsDetermined feeds old steps replies new
  is-determined law others other again wants want =
      let both : (replies ≡ others) × (new ≡ other) = law feeds old new other steps replies others lawful run again wants want in
      (sym both.0, sym both.1)

  pub of-any_order : SameStepsSameBoard → length old.streams ≤ length feeds → IsOfAnyOrder feeds old steps replies new
  of-any_order law few others answers other again took = sym (law feeds old new other steps others replies answers lawful few run again took)

  pub doesnt-clash : DisjointFeedsNeverClash → AllReadTheirFeeds feeds old → DoesntClash feeds replies
  doesnt-clash law reads disjoint = law feeds old new steps replies run lawful reads disjoint

  pub all-run_alone_on : StreamsAreIsolated → AloneWithTheSameRows → RunsStayLawful → AllRunAloneOn feeds old steps replies new
  all-run_alone_on isolated rows stays s alone is =
      let one : (left : Meaning) × IsRun feeds alone (lone_steps s steps replies) (lone_replies s steps replies) left × IsAloneAs s new left
      = isolated feeds old new steps replies run s alone is in
      record {
        left = one.0;
        run = one.1;
        alone = one.2;
        alike = record { state = sym one.2.state; rows = λ key. sym (rows s new one.0 (stays feeds old new steps replies run lawful) one.2 key) };
      }

  pub all-run_alone : StreamsAreIsolated → AloneWithTheSameRows → RunsStayLawful → ((s : ℕ) → IsAloneAs s old old) → AllRunAlone feeds old steps replies new
  all-run_alone isolated rows stays alone s = all-run_alone_on isolated rows stays s old (alone s)

  pub all-isolated : LoneRunsShowAlike → AllAreIsolated feeds old steps replies new
  all-isolated law s others alone left answers same is again want =
      law feeds old new alone left steps replies answers lawful run s is (refed feeds others s same alone left (lone_steps s steps replies) answers (lone-on s steps replies) again) want

-- no stream has a row on a board of which nothing is read
pub fresh-alone : (plans : List PlanValue) → IsLawful (fresh_board plans) → (s : ℕ) → IsAloneAs s (fresh_board plans) (fresh_board plans)
fresh-alone plans lawful s = record { lawful = lawful; state = refl; none = λ t key other. refl }
