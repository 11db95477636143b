-- Worked rows: where a log is cut.
use Rattle.std.proofs.Common.{◌≡◌, ℕ, false, List, [], ◌∷◌, None, refl, ap}
use Rattle.log_events.specs.Event.{LogEvent}
use Rattle.log_events.specs.Log.{LogValue}
use Rattle.log_events.specs.Cuts.{byte_behind, cut_behind}

abbrev event_of : ℕ → LogEvent
event_of size = record { time = 0; kind = 27; server = 1; size = size; flags = 0; body = [] }

-- six bytes, of which two stand behind the format description
abbrev few : LogValue
few = record { in_use = false; events = record { items = event_of 2 ∷ []; fault = None }; left = 2 }

-- none of its events, and its only one
behind_none : byte_behind (1 ∷ 2 ∷ 3 ∷ 4 ∷ 5 ∷ 6 ∷ []) few 0 ≡ 4
behind_none = refl

behind_one : byte_behind (1 ∷ 2 ∷ 3 ∷ 4 ∷ 5 ∷ 6 ∷ []) few 1 ≡ 6
behind_one = refl

-- a cut isn't the whole
no_event : cut_behind few 0 ≡ few → ⊥
no_event e = let same : ◌≡◌ {A = List LogEvent} [] (event_of 2 ∷ []) = ap (λ (log : LogValue). log.events.items) e in cc
