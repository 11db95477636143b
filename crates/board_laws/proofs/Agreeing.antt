-- Two runs that agree: in what each stream took, or in all steps of one stream.
use Rattle.std.proofs.Common.{◌≡◌, ◌≢◌, ◌==◌, ◌&&◌, ℕ, suc, ◌≤◌, inl, inr, Bool, true, false, not, cond, List, [], ◌∷◌, length, Option, Some, Ok, Err, slice_get, refl, sym, ap, subst, ◌∙◌, arith}
use Rattle.std.proofs.lemmas.Bool.{true≢false}
use Rattle.std.proofs.lemmas.List.{length-set}
use Rattle.std.proofs.lemmas.Option.{same_Some, none-some, slice_get_past, slice_get_cases}
use borrow.Author.Tests.{eqb-true}
use Rattle.std.specs.Prelude.{MatchOption}
use Rattle.std.specs.Option.{option_and_then}
use Rattle.std.specs.List.{AllByRecursion}
use Rattle.pk_copy.specs.KeyOrder.{key_cmp}
use Rattle.stream_core.specs.declared.step.Step.{Step}
use Rattle.target_tables.specs.Contents.{value_at}
use Rattle.source_feed.specs.Planned.{FeedValue}
use Rattle.board_laws.specs.declared.refusal.Refusal.TheVariants.{NoStream, WrongPlan, Diverged, Core, OwnedByOther, FeedCount, Memory}
use Rattle.board_laws.specs.declared.step_refusal.StepRefusal.TheVariants.{Unprepared, Refused}
use Rattle.board_laws.specs.Meaning.{State, Meaning}
use Rattle.board_laws.specs.Cut.{own_row}
use Rattle.board_laws.specs.Lawful.{IsLawful}
use Rattle.board_laws.specs.StateAfter.{state_after}
use Rattle.board_laws.specs.Runs.{taken}
use Rattle.board_laws.specs.Schedule.{Reply, IsEventStep, IsReplyBy, unfed, IsReply, IsRun}
use Rattle.board_laws.specs.Lone.{is_hindered, is_lone, lone_steps, lone_replies, IsAloneAs}
use Rattle.board_laws.specs.RunLaws.{NoneWantsMemory, IsClashReply, NoneClashes}
use Rattle.board_laws.specs.Agreement.{TookTheSame, steps_on, replies_on, DisjointRunsShowAlike, LoneRunsShowAlike}
use Rattle.board_laws.proofs.Lookups.{Ties}
use Rattle.board_laws.proofs.Following.{refused_by, unchanged, answered_by, follows, run-lawful, same-board}
use Rattle.board_laws.proofs.Isolated.{isolated, same-rows_alone}
use Rattle.board_laws.proofs.Determined.{one_run}
use Rattle.board_laws.proofs.FeedLaws.{none_clashes}
use Rattle.board_laws.proofs.Replays.{alone-is}

-- ---- the same steps taken

-- a list with another's element at every place
same-list : {A : Type 0} (xs ys : List A) → ((i : ℕ) → slice_get xs i ≡ slice_get ys i) → xs ≡ ys
same-list [] [] h = refl
same-list [] (y ∷ ys) h = absurd (none-some y (h 0))
same-list (x ∷ xs) [] h = absurd (none-some x (sym (h 0)))
same-list {A} (x ∷ xs) (y ∷ ys) h =
    let rest : xs ≡ ys = same-list xs ys (λ i. h (suc i)) in
    ap (λ (z : A). z ∷ xs) (same_Some x y (h 0)) ∙ ap (λ (zs : List A). y ∷ zs) rest

-- steps make no stream and take none away
one-length : (feeds : List FeedValue) (old : Meaning) (step : ℕ × Step) (reply : Reply) (new : Meaning) → IsReply feeds old step reply new → length new.streams ≡ length old.streams
one-length feeds old step (Ok answer) new h =
    let one : (feed : FeedValue) × (slice_get feeds step.0 ≡ Some feed) × IsEventStep feed old step.0 step.1 (Ok answer) new = answered_by feeds old step answer new h in
    ap (λ (xs : List State). length xs) one.2.stepped.streams ∙ length-set old.streams step.0 (state_after one.2.stepped.state one.2.event)
one-length feeds old step (Err refusal) new h = ap (λ (b : Meaning). length b.streams) (unchanged feeds old step refusal new h)

pub run-length : (feeds : List FeedValue) (old new : Meaning) (steps : List (ℕ × Step)) (replies : List Reply) → IsRun feeds old steps replies new → length new.streams ≡ length old.streams
run-length feeds old new [] [] run = ap (λ (b : Meaning). length b.streams) run
run-length feeds old new [] (reply ∷ replies) run = elim run [ ]
run-length feeds old new (step ∷ steps) [] run = elim run [ ]
run-length feeds old new (step ∷ steps) (reply ∷ replies) run = run-length feeds run.0 new steps replies run.2 ∙ one-length feeds old step reply run.0 run.1

module _ (feeds : List FeedValue) (old one other : Meaning) (steps others : List (ℕ × Step)) (replies answers : List Reply) (few : length old.streams ≤ length feeds)
    (run : IsRun feeds old steps replies one) (also : IsRun feeds old others answers other) (took : TookTheSame steps replies others answers) where
  same-state : (s : ℕ) → slice_get one.streams s ≡ slice_get other.streams s
  same-state s =
      elim (slice_get_cases old.streams s).1 [
        | inl there ↦ fed there.0 there.2 (omega (arith, there.1, few))
        | inr past ↦
            let m : length one.streams ≤ s = subst (λ n. n ≤ s) (sym (run-length feeds old one steps replies run)) past.0 in
            let n : length other.streams ≤ s = subst (λ n. n ≤ s) (sym (run-length feeds old other others answers also)) past.0 in
            slice_get_past one.streams s m ∙ sym (slice_get_past other.streams s n)
      ]
    where
      fed : (state : State) → slice_get old.streams s ≡ Some state → suc s ≤ length feeds → slice_get one.streams s ≡ slice_get other.streams s
      fed state here inside =
          elim (slice_get_cases feeds s).1 [
            | inl feed ↦
                follows feeds old one steps replies run s feed.0 state feed.2 here
                ∙ ap (λ mine. Some (taken feed.0 mine state)) (took s)
                ∙ sym (follows feeds old other others answers also s feed.0 state feed.2 here)
            | inr past ↦ absurd (omega (arith, past.0, inside))
          ]

pub same-end : (ties : Ties) (feeds : List FeedValue) (old one other : Meaning) (steps others : List (ℕ × Step)) (replies answers : List Reply) → IsLawful old → length old.streams ≤ length feeds
    → IsRun feeds old steps replies one → IsRun feeds old others answers other → TookTheSame steps replies others answers → one ≡ other
same-end ties feeds old one other steps others replies answers lawful few run also took =
    same-board ties one other (run-lawful feeds old one steps replies run lawful) (run-lawful feeds old other others answers also lawful)
    (same-list one.streams other.streams (same-state feeds old one other steps others replies answers few run also took))

-- ---- one stream in two runs

-- a reply that is neither a clash nor want of memory wasn't hindered
free : (reply : Reply) → ¬ IsClashReply reply → reply ≢ refused_by (Refused Memory) → is_hindered reply ≡ false
free (Ok answer) clash memory = refl
free (Err (Unprepared fault)) clash memory = refl
free (Err (Refused NoStream)) clash memory = refl
free (Err (Refused WrongPlan)) clash memory = refl
free (Err (Refused Diverged)) clash memory = refl
free (Err (Refused (Core refusal))) clash memory = refl
free (Err (Refused (OwnedByOther key owner))) clash memory = absurd (clash tt)
free (Err (Refused FeedCount)) clash memory = refl
free (Err (Refused Memory)) clash memory = absurd (memory refl)

-- where nothing hindered the stream's steps, all of them stand among those that count alone
lone-all : (feeds : List FeedValue) (old new : Meaning) (steps : List (ℕ × Step)) (replies : List Reply) → IsRun feeds old steps replies new
    → (s : ℕ) → NoneClashes replies → NoneWantsMemory (replies_on s steps replies)
    → (lone_steps s steps replies ≡ steps_on s steps) × (lone_replies s steps replies ≡ replies_on s steps replies)
lone-all feeds old new [] [] run s clash memory = (refl, refl)
lone-all feeds old new [] (reply ∷ replies) run s clash memory = elim run [ ]
lone-all feeds old new (step ∷ steps) [] run s clash memory = elim run [ ]
lone-all feeds old new (step ∷ steps) (reply ∷ replies) run s clash memory =
    by (lone-all feeds run.0 new steps replies run.2 s clash.1) (step.0 == s) memory
  where
    by : (NoneWantsMemory (replies_on s steps replies) → (lone_steps s steps replies ≡ steps_on s steps) × (lone_replies s steps replies ≡ replies_on s steps replies))
        → (b : Bool) → NoneWantsMemory (cond b (reply ∷ replies_on s steps replies) (replies_on s steps replies))
        → (cond (b && not (is_hindered reply)) (step ∷ lone_steps s steps replies) (lone_steps s steps replies) ≡ cond b (step ∷ steps_on s steps) (steps_on s steps))
        × (cond (b && not (is_hindered reply)) (reply ∷ lone_replies s steps replies) (lone_replies s steps replies) ≡ cond b (reply ∷ replies_on s steps replies) (replies_on s steps replies))
    by rest true m = (
      ap (λ b. cond (true && not b) (step ∷ lone_steps s steps replies) (lone_steps s steps replies)) (free reply clash.0 m.0) ∙ ap (λ (xs : List (ℕ × Step)). step ∷ xs) (rest m.1).0,
      ap (λ b. cond (true && not b) (reply ∷ lone_replies s steps replies) (lone_replies s steps replies)) (free reply clash.0 m.0) ∙ ap (λ (xs : List Reply). reply ∷ xs) (rest m.1).1,
    )
    by rest false m = rest m

abbrev AllOn : ℕ → List (ℕ × Step) → Type 0
AllOn s steps = AllByRecursion (λ (step : ℕ × Step). step.0 ≡ s) steps

all-on : (s : ℕ) (steps : List (ℕ × Step)) → AllOn s (steps_on s steps)
all-on s [] = tt
all-on s (step ∷ steps) = by (all-on s steps) (step.0 == s) refl
  where
    by : AllOn s (steps_on s steps) → (b : Bool) → (step.0 == s) ≡ b → AllOn s (cond b (step ∷ steps_on s steps) (steps_on s steps))
    by rest true e = (eqb-true step.0 s e, rest)
    by rest false e = rest

-- the steps of one stream are of its feed alone
refed : (feeds others : List FeedValue) (s : ℕ) → slice_get feeds s ≡ slice_get others s → (old new : Meaning) (steps : List (ℕ × Step)) (replies : List Reply) → AllOn s steps
    → IsRun others old steps replies new → IsRun feeds old steps replies new
refed feeds others s same old new [] [] all run = run
refed feeds others s same old new [] (reply ∷ replies) all run = elim run [ ]
refed feeds others s same old new (step ∷ steps) [] all run = elim run [ ]
refed feeds others s same old new (step ∷ steps) (reply ∷ replies) all run = (
  run.0,
  subst (λ (o : Option FeedValue). MatchOption o ((reply ≡ refused_by (Refused (unfed old step.0))) × (run.0 ≡ old)) (λ feed. IsReplyBy feed old step.0 step.1 reply run.0))
      (ap (λ (f : Option FeedValue). option_and_then (λ (x : State). f) (slice_get old.streams step.0)) (ap (slice_get others) all.0 ∙ sym same ∙ ap (slice_get feeds) (sym all.0))) run.1,
  refed feeds others s same run.0 new steps replies all.1 run.2,
)

pub disjoint-alike : Ties → DisjointRunsShowAlike
disjoint-alike ties feeds others old new start end steps later replies answers one other s state fed here there same memory wants =
    let alone : (b : Meaning) × IsAloneAs s old b = alone-is old one.lawful s state here in
    let also : IsAloneAs s start alone.0 = record { lawful = alone.1.lawful; state = alone.1.state ∙ here ∙ sym there; none = alone.1.none } in
    let first : (left : Meaning) × IsRun feeds alone.0 (lone_steps s steps replies) (lone_replies s steps replies) left × IsAloneAs s new left
    = isolated feeds old new steps replies one.run s alone.0 alone.1 in
    let second : (left : Meaning) × IsRun others alone.0 (lone_steps s later answers) (lone_replies s later answers) left × IsAloneAs s end left
    = isolated others start end later answers other.run s alone.0 also in
    let all : (lone_steps s steps replies ≡ steps_on s steps) × (lone_replies s steps replies ≡ replies_on s steps replies)
    = lone-all feeds old new steps replies one.run s (none_clashes feeds old new steps replies one.run one.lawful one.reads one.disjoint) memory in
    let every : (lone_steps s later answers ≡ steps_on s later) × (lone_replies s later answers ≡ replies_on s later answers)
    = lone-all others start end later answers other.run s (none_clashes others start end later answers other.run other.lawful other.reads other.disjoint) wants in
    let run : IsRun feeds alone.0 (steps_on s steps) (replies_on s steps replies) first.0
    = subst (λ (xs : List (ℕ × Step)). IsRun feeds alone.0 xs (replies_on s steps replies) first.0) all.0
    (subst (λ (rs : List Reply). IsRun feeds alone.0 (lone_steps s steps replies) rs first.0) all.1 first.1) in
    let again : IsRun others alone.0 (steps_on s later) (replies_on s later answers) second.0
    = subst (λ (xs : List (ℕ × Step)). IsRun others alone.0 xs (replies_on s later answers) second.0) every.0
    (subst (λ (rs : List Reply). IsRun others alone.0 (lone_steps s later answers) rs second.0) every.1 second.1) in
    let here_too : IsRun feeds alone.0 (steps_on s steps) (replies_on s later answers) second.0
    = subst (λ (xs : List (ℕ × Step)). IsRun feeds alone.0 xs (replies_on s later answers) second.0) (sym same)
    (refed feeds others s fed alone.0 second.0 (steps_on s later) (replies_on s later answers) (all-on s later) again) in
    let done : (replies_on s steps replies ≡ replies_on s later answers) × (first.0 ≡ second.0)
    = one_run ties feeds alone.0 first.0 second.0 (steps_on s steps) (replies_on s steps replies) (replies_on s later answers) alone.1.lawful run here_too memory wants in (
      done.0,
      record {
        state = sym first.2.state ∙ ap (λ (b : Meaning). slice_get b.streams s) done.1 ∙ second.2.state;
        rows = λ key.
            sym (same-rows_alone s new first.0 (run-lawful feeds old new steps replies one.run one.lawful) first.2 key)
            ∙ ap (λ (b : Meaning). own_row s (value_at key_cmp b.rows key)) done.1
            ∙ same-rows_alone s end second.0 (run-lawful others start end later answers other.run other.lawful) second.2 key;
      },
    )

-- ---- a stream by itself

unhindered : (b h : Bool) → (b && not h) ≡ true → h ≡ false
unhindered true true e = absurd (true≢false (sym e))
unhindered true false e = refl
unhindered false h e = absurd (true≢false (sym e))

not_memory : (reply : Reply) → is_hindered reply ≡ false → reply ≢ refused_by (Refused Memory)
not_memory reply free is = true≢false (sym (ap is_hindered is) ∙ free)

-- among the replies that count alone none is want of memory
lone-wants_none : (s : ℕ) (steps : List (ℕ × Step)) (replies : List Reply) → NoneWantsMemory (lone_replies s steps replies)
lone-wants_none s [] replies = tt
lone-wants_none s (step ∷ steps) [] = tt
lone-wants_none s (step ∷ steps) (reply ∷ replies) = by (lone-wants_none s steps replies) (is_lone s step reply) refl
  where
    by : NoneWantsMemory (lone_replies s steps replies) → (b : Bool) → is_lone s step reply ≡ b → NoneWantsMemory (cond b (reply ∷ lone_replies s steps replies) (lone_replies s steps replies))
    by rest true e = (not_memory reply (unhindered (step.0 == s) (is_hindered reply) e), rest)
    by rest false e = rest

pub lone-alike : Ties → LoneRunsShowAlike
lone-alike ties feeds old new alone left steps replies others lawful run s is again wants =
    let first : (then : Meaning) × IsRun feeds alone (lone_steps s steps replies) (lone_replies s steps replies) then × IsAloneAs s new then
    = isolated feeds old new steps replies run s alone is in
    let done : (others ≡ lone_replies s steps replies) × (left ≡ first.0)
    = one_run ties feeds alone left first.0 (lone_steps s steps replies) others (lone_replies s steps replies) is.lawful again first.1 wants (lone-wants_none s steps replies) in (
      done.0,
      record {
        state = sym first.2.state ∙ ap (λ (b : Meaning). slice_get b.streams s) (sym done.1);
        rows = λ key.
            sym (same-rows_alone s new first.0 (run-lawful feeds old new steps replies run lawful) first.2 key)
            ∙ ap (λ (b : Meaning). own_row s (value_at key_cmp b.rows key)) (sym done.1);
      },
    )
