use Rattle.std.proofs.Common.{List, [], ◌∷◌, ◌++◌, Option, sym, ap, ◌∙◌}
use Rattle.std.proofs.lemmas.List.{map-append}
use Rattle.std.specs.Option.{option_or}
use Rattle.apply_core.specs.declared.run_refusal.RunRefusal.{RunRefusal}
use Rattle.stream_worker.specs.declared.seat.Seat.{Seat}
use Rattle.stream_worker.specs.declared.seat_run.Ran.{Ran}
use Rattle.stream_worker.proofs.RunsLeaveSeats.{first_refusal-more}
use Rattle.stream_worker.proofs.parallel.gathered.Goals as goal

pub loop-ran-preserved : goal.loop-ran-preserved
loop-ran-preserved c = (
  c.in_ok-push.ensures.items ∙ ap (λ (seats : List Seat). seats ++ c.in-Some.ran.seat ∷ []) c.loop-ran.invariant.0 ∙ sym (map-append (λ (ran : Ran). ran.seat) c.loop-ran.yielded (c.in-Some.ran ∷ [])),
  c.or-lowest.ensures ∙ ap (λ (lowest : Option RunRefusal). option_or lowest c.in-Some.ran.refusal) c.loop-ran.invariant.1 ∙ sym (first_refusal-more c.loop-ran.yielded c.in-Some.ran),
)
