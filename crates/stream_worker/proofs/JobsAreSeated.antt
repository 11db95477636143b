-- What the thread of a stream works with, and what each leaves.
use Rattle.std.proofs.Common.{◌≡◌, ℕ, ◌<◌, List, [], ◌∷◌, ◌++◌, length, map, slice_get, slice_index_or, Option, Some, Result, Ok, Err, refl, sym, ap, subst, ◌∙◌}
use Rattle.std.proofs.lemmas.List.{map-append}
use Rattle.std.proofs.lemmas.Option.{slice_get_read, slice_get-map}
use Rattle.std.specs.Prelude.{IfOk}
use Rattle.std.specs.Option.{option_map}
use Rattle.source_feed.specs.Planned.{FeedValue}
use Rattle.stream_worker.specs.declared.seat.Seat.{Seat}
use Rattle.stream_worker.specs.declared.seat_run.Job.{Job}
use Rattle.stream_worker.specs.declared.seat_run.Ran.{Ran}
use Rattle.stream_worker.specs.declared.shared.Shared.{Shared}
use Rattle.stream_worker.specs.Private.SeatRuns.{IsSeated, AreSeated, IsRan, AreJobs}
use Rattle.stream_worker.proofs.SeatsAreClaimed.{each_pushed}

module _ {R G : Type 0} (shared : Shared) (feeds : List FeedValue) where
  pub jobs_pushed : (jobs more : List (Job R G)) (job : Job R G) → more ≡ jobs ++ job ∷ [] → AreJobs shared feeds jobs → (job.run.shared.now ≡ shared) × (job.run.feeds.now ≡ feeds) → AreJobs shared feeds more
  jobs_pushed jobs more job is each one =
      subst (λ (l : List (Job R G)). AreJobs shared feeds l) (sym is)
      (each_pushed (λ i other. (other.run.shared.now ≡ shared) × (other.run.feeds.now ≡ feeds)) jobs job each one)

  pub seats_more : (jobs more : List (Job R G)) (job : Job R G) (seats : List Seat) → more ≡ jobs ++ job ∷ [] → map (λ (j : Job R G). j.seat) jobs ≡ seats → map (λ (j : Job R G). j.seat) more ≡ seats ++ job.seat ∷ []
  seats_more jobs more job seats is before =
      ap (λ (l : List (Job R G)). map (λ (j : Job R G). j.seat) l) is ∙ map-append (λ (j : Job R G). j.seat) jobs (job ∷ []) ∙ ap (λ (l : List Seat). l ++ job.seat ∷ []) before

  module _ (seats : List Seat) (seated : AreSeated shared feeds seats) (jobs : List (Job R G)) (theirs : map (λ (j : Job R G). j.seat) jobs ≡ seats) (each : AreJobs shared feeds jobs)
      (k : ℕ) (job : Job R G) (within : k < length jobs) (is : job ≡ slice_index_or jobs k job) where
    at_place : slice_get jobs k ≡ Some job
    at_place = slice_get_read jobs (length jobs) k job refl within is

    of_seat : IsSeated shared feeds job.seat × (job.seat.stream ≡ k)
    of_seat =
        seated k job.seat
        (ap (λ (l : List Seat). slice_get l k) (sym theirs) ∙ slice_get-map (λ (j : Job R G). j.seat) jobs k ∙ ap (λ (o : Option (Job R G)). option_map (λ (j : Job R G). j.seat) o) at_place)

    pub job_ready : IsSeated job.run.shared.now job.run.feeds.now job.seat
    job_ready =
        subst (λ (s : Shared). IsSeated s job.run.feeds.now job.seat) (sym (each k job at_place).0)
        (subst (λ (f : List FeedValue). IsSeated shared f job.seat) (sym (each k job at_place).1) of_seat.0)

    pub job_ran : (ran : Ran) → IsRan job.run.shared.now job.run.feeds.now job.seat.stream ran → IsRan shared feeds k ran
    job_ran ran h =
        subst (λ (s : ℕ). IsRan shared feeds s ran) of_seat.1
        (subst (λ (f : List FeedValue). IsRan shared f job.seat.stream ran) (each k job at_place).1
        (subst (λ (s : Shared). IsRan s job.run.feeds.now job.seat.stream ran) (each k job at_place).0 h))

-- two facts of an answer, and what follows from both
pub if_both : {V E : Type 0} (r : Result V E) (A P Q : V → Type 0) → ((v : V) → A v → P v → Q v) → IfOk r A → IfOk r P → IfOk r Q
if_both (Ok v) A P Q both a p = both v a p
if_both (Err e) A P Q both a p = tt
