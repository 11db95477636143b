-- Turns, one after another.
use Rattle.std.proofs.Common.{◌≡◌, List, [], ◌∷◌, ◌++◌, Bool, true, false, Option, refl, subst}
use Rattle.live_requests.specs.Requests.{Asked}
use Rattle.live_session.specs.Turns.{AreTurns, IsTurn, IsTurned, Stand}

-- one more behind turns
turns-more : (requests : List (Option Asked)) (asked : Option Asked) (old between new : Stand) → AreTurns requests old between → IsTurn asked between new → AreTurns (requests ++ asked ∷ []) old new
turns-more [] asked old between new none turn = (new, subst (λ (s : Stand). IsTurn asked s new) none turn, refl)
turns-more (first ∷ others) asked old between new turns turn = (turns.0, turns.1, turns-more others asked turns.0 between new turns.2 turn)

-- there are such turns
abbrev pub HaveGone : Stand → Stand → Type 0
HaveGone old new = (requests : List (Option Asked)) × AreTurns requests old new

pub gone-more : (old between new : Stand) (goes_on : Bool) → HaveGone old between → IsTurned between new goes_on → goes_on ≡ true → HaveGone old new
gone-more old between new true gone turned is = (gone.0 ++ turned.0 ∷ [], turns-more gone.0 turned.0 old between new gone.1 turned.1)
gone-more old between new false gone turned is = cc
