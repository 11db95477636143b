-- Faults that stand at no byte of logs: a position that is too long, and a feed.
use Rattle.std.proofs.Common.{◌≡◌, inl, inr, ℕ, ◌+◌, Bool, true, false, List, [], ◌∷◌, Option, None, Ok, Err, refl, sym, subst, if◌then◌else◌}
use Rattle.list_laws.specs.Outcome.{◌>>=◌}
use Rattle.gtid_set.specs.declared.interval.Interval.{Interval}
use Rattle.gtid_set.specs.Printed.{printed_position}
use Rattle.vevent.specs.EventValue.{EventValue}
use Rattle.log_groups.specs.Group.{WaitingValue}
use Rattle.log_laws.specs.declared.fault.TellFault.TheVariants.{Position}
use Rattle.log_laws.specs.Source.{SourceTables}
use Rattle.log_feed.specs.Group.{place_event}
use Rattle.log_laws.specs.Transcript.{Far, last_by, last_told}
use Rattle.log_transcribe.specs.declared.fault.LogsFault.{LogsFault}
use Rattle.log_transcribe.specs.declared.fault.LogsFault.TheVariants.{Tell, TooLong}
use Rattle.log_transcribe.specs.Byte.{StandsAt}
use Rattle.log_transcribe.specs.Fault.{of_tell}
use Rattle.log_transcribe.specs.Standing.{Counts, IsByteFrom, OfAll, StandsFrom, TellsFile}

abbrev pub Nowhere : LogsFault → Type 0
Nowhere fault = (bytes : List ℕ) (told : Option ℕ) (byte : ℕ) → StandsAt bytes told fault byte → ⊥

pub too_long_nowhere : (file : ℕ) → Nowhere (TooLong file)
too_long_nowhere file bytes told byte at = at

-- ---- the position behind all

position_is : (b : Bool) (event : EventValue) (file : ℕ) (fault : LogsFault) → of_tell file ((if b then Ok event else Err Position) >>= λ place. Ok ((place ∷ []) ∷ [])) ≡ Err fault → Tell file Position ≡ fault
position_is true event file fault e = cc
position_is false event file fault e = cc

last_is : (s : SourceTables) (reached : List Interval) (said : Bool) (file : ℕ) (fault : LogsFault) → of_tell file (last_by s reached said) ≡ Err fault → Tell file Position ≡ fault
last_is s reached true file fault e = cc
last_is s reached false file fault e = position_is _ (place_event s.keyspace s.shard (printed_position reached)) file fault e

pub last_nowhere : (s : SourceTables) (far : Far) (file : ℕ) (fault : LogsFault) → of_tell file (last_told s far) ≡ Err fault → Nowhere fault
last_nowhere s far file fault e bytes told byte at = subst (λ (f : LogsFault). StandsAt bytes told f byte) (sym (last_is s far.reached far.said file fault e)) at

-- ---- in all files

module _ {A : Type 0} (tell : TellsFile A) (told : Counts A) where
  nowhere_from : (fault : LogsFault) → Nowhere fault → (file : ℕ) (waiting : List WaitingValue) (logs : List (List ℕ)) (far : A) (byte : ℕ) → StandsFrom tell told file waiting logs far fault byte → ⊥
  nowhere_from fault none file waiting [] far byte at = at
  nowhere_from fault none file waiting (bytes ∷ logs) far byte (inl at) = none bytes (told file waiting bytes far) byte at.1
  nowhere_from fault none file waiting (bytes ∷ logs) far byte (inr rest) = nowhere_from fault none (file + 1) rest.0.1 logs rest.0.0.1 byte rest.2

  pub nowhere_in : (logs : List (List ℕ)) (far : A) (fault : LogsFault) → Nowhere fault → OfAll (λ logs fault byte. IsByteFrom tell told 0 [] logs far fault byte) logs fault None
  nowhere_in [] far fault none = refl
  nowhere_in (bytes ∷ logs) far fault none = λ byte at. nowhere_from fault none 0 [] (bytes ∷ logs) far byte at

  -- a fault of files is one of all
  pub among_all : (logs : List (List ℕ)) (far : A) (fault : LogsFault) (byte : Option ℕ) → IsByteFrom tell told 0 [] logs far fault byte → OfAll (λ logs fault byte. IsByteFrom tell told 0 [] logs far fault byte) logs fault byte
  among_all [] far fault byte is = absurd is
  among_all (bytes ∷ logs) far fault byte is = is
