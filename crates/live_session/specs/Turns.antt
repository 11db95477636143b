-- The turns of a session: a line is taken off the input, and answered on the output (this profile).
use Rattle.std.specs.Prelude.{◌≡◌, ◌≢◌, ◌⊎◌, ℕ, List, [], ◌∷◌, Bool, true, false, Option, None, Some}
use Rattle.printing.specs.Printing.{BreaksOff, IsWritten, Written}
use Rattle.board_laws.specs.FedBoards.{IsFedBoard}
use Rattle.live_core.specs.Live.{IsLive}
use Rattle.live_requests.specs.Lines.{IsFound}
use Rattle.live_requests.specs.Requests as ask
use Rattle.live_requests.specs.Requests.{Asked, request_in}
use Rattle.live_requests.specs.declared.lines.Found.{Found}
use Rattle.live_requests.specs.declared.lines.Found.TheVariants.{Line, Long, End}
use Rattle.live_session.specs.Answered.{IsAnswer}
use Rattle.live_session.specs.Sessions.{KeptSession}
use Rattle.live_session.specs.declared.serve.ServeFault.{ServeFault}
use Rattle.live_session.specs.declared.serve.ServeFault.TheVariants as serve

-- why a session is broken off
abbrev pub number_of_serve : ServeFault → ℕ
number_of_serve serve.CannotRead = 131
number_of_serve serve.CannotWrite = 132
number_of_serve serve.Memory = 72

-- what is left of the input, as far as it is known; the session, with what was kept of it; and what the output has taken
pub record Stand : Type 0 where
  pub input : Option (List ℕ)
  pub kept : KeptSession
  pub output : Written

abbrev pub stand_of : Option (List ℕ) → KeptSession → Written → Stand
stand_of input kept output = record { input = input; kept = kept; output = output }

-- what a line that was found asks for: a longer one nothing
abbrev pub asked_by : Found → List ℕ → Option Asked
asked_by Line line = request_in line
asked_by Long line = None
asked_by End line = None

-- a line is taken off the input, and asks for this or for nothing
pub record IsLineTaken (old new : Option (List ℕ)) (asked : Option Asked) : Type 0 where
  pub found : Found
  pub line : List ℕ
  pub taken : IsFound old new found line
  pub more : found ≢ End
  pub request : asked ≡ asked_by found line

-- what comes next in the input: a line, or its end
abbrev pub IsNext : Option (List ℕ) → Option (List ℕ) → Option (Option Asked) → Type 0
IsNext old new None = (line : List ℕ) × IsFound old new End line
IsNext old new (Some asked) = IsLineTaken old new asked

-- A line is taken off the input, and its answer is written. Behind it the board is lawful, and its streams show their sources
-- at the positions at which they stand.
pub record IsTurn (asked : Option Asked) (old new : Stand) : Type 0 where
  pub taken : IsLineTaken old.input new.input asked
  pub text : List ℕ
  pub answer : IsAnswer asked old.kept text new.kept
  pub written : IsWritten old.output new.output text
  pub live : IsLive new.kept.session.live
  pub fed : IsFedBoard new.kept.session.live.fed.feeds new.kept.session.live.fed.board

-- these requests are taken off the input one after another, and each is answered before the next is taken
abbrev pub AreTurns : List (Option Asked) → Stand → Stand → Type 0
AreTurns [] old new = new ≡ old
AreTurns (asked ∷ others) old new = (between : Stand) × IsTurn asked old between × AreTurns others between new

-- a request that ends the session
abbrev pub is_last : Option Asked → Bool
is_last (Some ask.last) = true
is_last asked = false

-- the input has ended, and nothing else has happened
pub record HasEnded (old new : Stand) : Type 0 where
  pub at_end : IsNext old.input new.input None
  pub kept : new.kept ≡ old.kept
  pub output : new.output ≡ old.output

-- the input has ended, or `end` was asked and answered
abbrev pub HasFinished : Stand → Stand → Type 0
HasFinished old new = HasEnded old new ⊎ ((asked : Option Asked) × IsTurn asked old new × (is_last asked ≡ true))

-- one turn was taken, and the session goes on; or it has finished
abbrev pub IsTurned : Stand → Stand → Bool → Type 0
IsTurned old new true = (asked : Option Asked) × IsTurn asked old new
IsTurned old new false = HasFinished old new

-- A session has been served: its requests were answered in order, and then the input ended, or the last one was `end`.
pub record IsServed (old new : Stand) : Type 0 where
  pub requests : List (Option Asked)
  pub between : Stand
  pub turns : AreTurns requests old between
  pub ends : HasFinished between new

-- Why a turn isn't taken, and what it leaves: the next line can't be read, and nothing else has happened; or a line was taken,
-- and a beginning of its answer was written. None wants memory.
abbrev pub BreaksTurn : ServeFault → Stand → Stand → Type 0
BreaksTurn serve.CannotRead old new = (new.kept ≡ old.kept) × (new.output ≡ old.output)
BreaksTurn serve.CannotWrite old new =
    (asked : Option Asked) × IsLineTaken old.input new.input asked × (text : List ℕ) × IsAnswer asked old.kept text new.kept × BreaksOff old.output new.output text
BreaksTurn serve.Memory old new = ⊥

-- requests were answered in order, up to a turn that wasn't taken
pub record BreaksBehind (fault : ServeFault) (old new : Stand) : Type 0 where
  pub requests : List (Option Asked)
  pub between : Stand
  pub turns : AreTurns requests old between
  pub breaks : BreaksTurn fault between new

-- A session was broken off: behind answers, or for want of memory before a line was read.
abbrev pub IsBroken : ServeFault → Stand → Stand → Type 0
IsBroken serve.Memory old new = new ≡ old
IsBroken fault old new = BreaksBehind fault old new
