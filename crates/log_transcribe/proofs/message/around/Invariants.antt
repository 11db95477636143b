use Rattle.std.proofs.Common.{◌≡◌, ◌∷◌, map, take}
use Rattle.log_transcribe.proofs.message.around.Given as goal

-- the events so far stand behind the first
abbrev pub invariant-loop-event : goal.invariant-loop-event
invariant-loop-event l = map (λ e. e.now) l.all.items ≡ l.begin ∷ map (λ e. e.items) (take l.event-index l.events)
