-- What a call leaves that reads files one at a time and writes what they tell as it goes (this profile).
use Rattle.std.specs.Prelude.{◌≡◌, ℕ, ◌+◌, ◌<◌, List, ◌++◌, length, Option, Result, Ok, Err}
use Rattle.printing.specs.Printing.{Written, IsWritten, BreaksOff}
use Rattle.log_transcribe.specs.declared.fault.BehindFault.{BehindFault}
use Rattle.log_transcribe.specs.declared.fault.BehindFault.TheVariants.{Feed, Logs}
use Rattle.log_transcribe.specs.declared.fault.StreamError.{StreamError}
use Rattle.log_transcribe.specs.declared.fault.StreamError.TheVariants as stop
use Rattle.log_transcribe.specs.declared.fault.LogsFault.{LogsFault}
use Rattle.log_transcribe.specs.Files.{GaveFrom}

-- All so many files gave bytes, and just the feed that a definition makes of these was written.
pub record IsTold (of_logs : List (List ℕ) → Result (List ℕ) BehindFault) (IsRight : List (List ℕ) → List ℕ → Type 0) (Gives : ℕ → List ℕ → Type 0) (many : ℕ) (old new : Written) : Type 0 where
  pub logs : List (List ℕ)
  pub gave : GaveFrom Gives 0 logs
  pub all : length logs ≡ many
  pub feed : List ℕ
  pub is : of_logs logs ≡ Ok feed
  pub right : IsRight logs feed
  pub written : IsWritten old new feed

-- By the bytes that the first of so many files gave the definition has this fault, whatever the others have.
pub record IsRefused (of_logs : List (List ℕ) → Result (List ℕ) BehindFault) (Gives : ℕ → List ℕ → Type 0) (many : ℕ) (fault : BehindFault) : Type 0 where
  pub logs : List (List ℕ)
  pub gave : GaveFrom Gives 0 logs
  pub is : (others : List (List ℕ)) → length logs + length others ≡ many → of_logs (logs ++ others) ≡ Err fault

-- The first fault, and where it stands in these bytes: the byte, or none where it stands at none.
pub record IsRefusedAt (of_logs : List (List ℕ) → Result (List ℕ) BehindFault) (IsByte : List (List ℕ) → LogsFault → Option ℕ → Type 0) (Gives : ℕ → List ℕ → Type 0) (many : ℕ) (fault : LogsFault) (byte : Option ℕ) : Type 0 where
  pub refused : IsRefused of_logs Gives many (Logs fault)
  pub there : IsByte refused.logs fault byte

-- the files before this one of so many gave bytes
pub record IsUnreadAt (Gives : ℕ → List ℕ → Type 0) (many file : ℕ) : Type 0 where
  pub within : file < many
  pub logs : List (List ℕ)
  pub gave : GaveFrom Gives 0 logs
  pub before : length logs ≡ file

-- All was told; or it says why not: the first fault of the definition, and at which byte of its file it stands, or that it does
-- at none; a file that can't be read; a write that failed; or want of memory.
abbrev pub EndsSo : (List (List ℕ) → Result (List ℕ) BehindFault) → (List (List ℕ) → LogsFault → Option ℕ → Type 0) → (List (List ℕ) → List ℕ → Type 0) → (ℕ → List ℕ → Type 0) → ℕ → Result (Unit {0}) StreamError → Written → Written → Type 0
EndsSo of_logs IsByte IsRight Gives many (Ok x) old new = IsTold of_logs IsRight Gives many old new
EndsSo of_logs IsByte IsRight Gives many (Err stop.Memory) old new = Unit {0}
EndsSo of_logs IsByte IsRight Gives many (Err stop.Unwritten) old new = (text : List ℕ) × BreaksOff old new text
EndsSo of_logs IsByte IsRight Gives many (Err (stop.Unread file)) old new = IsUnreadAt Gives many file
EndsSo of_logs IsByte IsRight Gives many (Err (stop.Feed fault)) old new = IsRefused of_logs Gives many (Feed fault)
EndsSo of_logs IsByte IsRight Gives many (Err (stop.Fault fault byte)) old new = IsRefusedAt of_logs IsByte Gives many fault byte
