-- What is kept of checkpoints (this profile).
use Rattle.std.specs.Prelude.{ℕ, ◌++◌, List, [], ◌∷◌, Option, option_map, Result, Ok, Err}
use Rattle.live_session.specs.declared.arrivals.SaveFault.{SaveFault}

-- a checkpoint, where it was kept
abbrev pub kept_by : List ℕ → Result (Unit {0}) SaveFault → List (List ℕ)
kept_by checkpoint (Ok done) = checkpoint ∷ []
kept_by checkpoint (Err fault) = []

-- the checkpoints that were kept, the last first, where they are known: behind one that was answered so
abbrev pub saved_then : List ℕ → Result (Unit {0}) SaveFault → Option (List (List ℕ)) → Option (List (List ℕ))
saved_then checkpoint answer saved = option_map (λ (all : List (List ℕ)). kept_by checkpoint answer ++ all) saved
