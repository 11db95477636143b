-- Files behind a feed, of which the first is read before it is gone through.
use Rattle.std.specs.Prelude.{◌≡◌, ℕ, ◌≤◌, ◌<◌, List, [], ◌∷◌, Option, None, Some, Result, Ok, Err}
use Rattle.gtid_set.specs.declared.interval.Interval.{Interval}
use Rattle.gtid_set.specs.Position.{IsCanonical}
use Rattle.source_feed.specs.declared.fault.FeedFault.{FeedFault}
use Rattle.source_feed.specs.declared.fault.FeedFault.TheVariants as feed_fault
use Rattle.log_feed.specs.declared.table.Stage.{Stage}
use Rattle.log_laws.specs.Source.{SourceTables}
use Rattle.log_transcribe.specs.declared.fault.BehindFault.TheVariants.{Feed, Logs}
use Rattle.log_transcribe.specs.declared.fault.StreamError.{StreamError}
use Rattle.log_transcribe.specs.declared.fault.StreamError.TheVariants as stop
use Rattle.log_transcribe.specs.declared.files.LogBytes.{LogBytes}
use Rattle.log_transcribe.specs.Behind.{begun, unsaid, along_of, behind_of_logs}
use Rattle.log_transcribe.specs.Files.{log_bytes}
use Rattle.log_transcribe.specs.Said.{feed_end, feed_said}
use Rattle.log_transcribe.specs.Private.Goes.{SequelValue}
use Rattle.log_transcribe.specs.Standing.{IsByteInBehind}
use Rattle.log_transcribe.specs.Private.Sends.{StopsAt, StopsNowhere}

-- the first log, if there is one, and others behind it; without a first one there are no others
abbrev pub logs_from : Option LogBytes → List (List ℕ) → List (List ℕ)
logs_from None others = []
logs_from (Some log) others = log_bytes log ∷ others

-- the place behind it
abbrev pub place_behind : Option LogBytes → ℕ
place_behind None = 0
place_behind (Some log) = 1

-- there is one just where there are files
abbrev pub HasFirst : ℕ → Option LogBytes → Type 0
HasFirst many None = many ≡ 0
HasFirst many (Some log) = 1 ≤ many

-- what the first of so many files gave
abbrev pub Gave : (ℕ → List ℕ → Type 0) → Option LogBytes → Type 0
Gave Gives None = Unit {0}
Gave Gives (Some log) = Gives 0 (log_bytes log)

abbrev pub IsFirst : (ℕ → List ℕ → Type 0) → ℕ → Result (Option LogBytes) StreamError → Type 0
IsFirst Gives many (Ok log) = HasFirst many log × Gave Gives log
IsFirst Gives many (Err stop.Memory) = Unit {0}
IsFirst Gives many (Err (stop.Unread at)) = (at ≡ 0) × (0 < many)
IsFirst Gives many (Err error) = ⊥

-- the byte of what is wrong where the first log begins, if there is one
abbrev pub StopsFirst : Option LogBytes → StreamError → Type 0
StopsFirst None error = StopsNowhere error
StopsFirst (Some log) error = StopsAt (log_bytes log) None error

-- what is wrong with the feed
abbrev pub stop_of : FeedFault → StreamError
stop_of feed_fault.Memory = stop.Memory
stop_of fault = stop.Feed fault

-- all is there to go on behind the feed
pub record IsOpened (s : SourceTables) (feed : List ℕ) (log : Option LogBytes) (q : SequelValue) : Type 0 where
  pub reached : List Interval
  pub end : feed_end s feed ≡ Ok reached
  pub canonical : IsCanonical reached
  pub first : List Interval
  pub begins : (others : List (List ℕ)) → begun reached (logs_from log others) ≡ Ok first
  pub first_canonical : IsCanonical first
  pub had : List Stage
  pub said : feed_said s (unsaid first) feed ≡ Ok had
  pub is : q ≡ record { source = s; had = had; along = along_of reached first had }

-- or it says why not
abbrev pub OpensBehind : SourceTables → List ℕ → Option LogBytes → Result SequelValue StreamError → Type 0
OpensBehind s feed log (Ok q) = IsOpened s feed log q
OpensBehind s feed log (Err stop.Memory) = Unit {0}
OpensBehind s feed log (Err (stop.Feed fault)) = (others : List (List ℕ)) → behind_of_logs s feed (logs_from log others) ≡ Err (Feed fault)
OpensBehind s feed log (Err (stop.Fault fault byte)) = ((others : List (List ℕ)) → behind_of_logs s feed (logs_from log others) ≡ Err (Logs fault)) × IsByteInBehind s feed (logs_from log []) fault byte
OpensBehind s feed log (Err error) = ⊥
