-- A file's first bytes, as the program counts what they have.
use Rattle.std.specs.Prelude.{◌≡◌, ℕ, ◌+◌, ◌<◌, ◌≤◌, List, length, drop, Option, None, Some}
use Rattle.log_events.specs.Number.{number}
use Rattle.log_events.specs.declared.fault.EventFault.{EventFault}
use Rattle.log_groups.specs.Cuts.{MayGoOn}
use Rattle.log_groups.specs.declared.fault.GroupFault.{GroupFault}
use Rattle.log_groups.specs.declared.fault.GroupFault.TheVariants.{Unended}
use Rattle.log_transcribe.specs.declared.fault.LogsFault.{LogsFault}
use Rattle.log_transcribe.specs.declared.byte.Cut.{Cut}
use Rattle.log_transcribe.specs.Byte.{IsCut, BeginsAt, EndsAt, StandsAt}

-- so many of them are this
abbrev pub IsCutAt : List ℕ → ℕ → Cut → Type 0
IsCutAt bytes byte c = IsCut bytes byte c.events c.transactions c.end

-- or they are nothing of that kind
abbrev pub CutIs : List ℕ → ℕ → Option Cut → Type 0
CutIs bytes byte None = (events transactions : ℕ) (end : Option GroupFault) → IsCut bytes byte events transactions end → ⊥
CutIs bytes byte (Some c) = IsCutAt bytes byte c

-- the byte behind the event that stands at one, if that is within them
abbrev pub next_byte : List ℕ → ℕ → ℕ
next_byte bytes byte = byte + number 9 4 (drop byte bytes)

abbrev pub NextIs : List ℕ → ℕ → Option ℕ → Type 0
NextIs bytes byte None = byte ≤ length bytes → length bytes < next_byte bytes byte
NextIs bytes byte (Some next) = next ≡ next_byte bytes byte

-- those up to a byte, and those with the event that stands there; or there are no such two
abbrev pub CutsAre : List ℕ → ℕ → Option (Cut × Cut) → Type 0
CutsAre bytes byte None = (events one other next : ℕ) (end last : Option GroupFault) → IsCut bytes byte events one end → IsCut bytes next (events + 1) other last → ⊥
CutsAre bytes byte (Some cuts) = IsCutAt bytes byte cuts.0 × IsCutAt bytes (next_byte bytes byte) cuts.1

-- the other one has an event more, and as many transactions
abbrev pub Follows : Cut → Cut → Type 0
Follows before behind = (behind.events ≡ before.events + 1) × (behind.transactions ≡ before.transactions)

-- with it a transaction begins, or is at this fault
abbrev pub Begins : Cut → Cut → Type 0
Begins before behind = (before.end ≡ None) × (behind.end ≡ Some Unended) × Follows before behind

abbrev pub Fails : Cut → Cut → GroupFault → Type 0
Fails before behind fault = MayGoOn before.end × (behind.end ≡ Some fault) × Follows before behind

-- behind how many transactions one begins at a byte, if one does
abbrev pub BeginningIs : List ℕ → ℕ → Option ℕ → Type 0
BeginningIs bytes byte None = (many : ℕ) → BeginsAt bytes byte many → ⊥
BeginningIs bytes byte (Some many) = BeginsAt bytes byte many

-- what stands behind all events, if they end at a byte
abbrev pub EndIs : List ℕ → ℕ → Option (Option EventFault) → Type 0
EndIs bytes byte None = (fault : Option EventFault) → EndsAt bytes byte fault → ⊥
EndIs bytes byte (Some fault) = EndsAt bytes byte fault

-- a fault that stands nowhere up to a byte
abbrev pub StandsNotBefore : List ℕ → Option ℕ → LogsFault → ℕ → Type 0
StandsNotBefore bytes told fault end = (byte : ℕ) → byte < end → StandsAt bytes told fault byte → ⊥
