-- In which of the files of logs their first fault stands, and where in it (this profile).
use Rattle.std.specs.Prelude.{◌≡◌, ◌⊎◌, ℕ, ◌+◌, List, [], ◌∷◌, Option, None, Some, Result, Ok, Err}
use Rattle.gtid_set.specs.declared.interval.Interval.{Interval}
use Rattle.vevent.specs.EventValue.{EventValue}
use Rattle.log_groups.specs.Group.{WaitingValue}
use Rattle.log_course.specs.declared.fault.CourseFault.{CourseFault}
use Rattle.log_course.specs.Course.{PlacedValue, CourseRead, course_at}
use Rattle.log_feed.specs.declared.table.Stage.{Stage}
use Rattle.log_laws.specs.Source.{SourceTables}
use Rattle.log_laws.specs.Transcript.{Far, group_told}
use Rattle.log_transcribe.specs.declared.fault.LogsFault.{LogsFault}
use Rattle.log_transcribe.specs.Transcript.{log_told, nothing_told}
use Rattle.log_transcribe.specs.Behind.{Along, group_behind, log_behind, begun, unsaid, along_of}
use Rattle.log_transcribe.specs.Said.{feed_end, feed_said}
use Rattle.log_transcribe.specs.Byte.{StandsAt, StandsNowhere}

-- ---- how many transactions of a file are told

-- messages, and how far they go
abbrev pub Told : Type 0 → Type 0
Told A = List (List EventValue) × A

abbrev pub many_by : {X F : Type 0} → Result X F → (X → ℕ) → ℕ
many_by (Ok x) others = others x
many_by (Err fault) others = 0

-- so many transactions are told one behind another, up to the first that isn't
unfoldable pub many_told : {A F : Type 0} → (PlacedValue → A → Result (Told A) F) → List PlacedValue → A → ℕ
many_told tell [] far = 0
many_told tell (g ∷ groups) far = many_by (tell g far) (λ x. many_told tell groups x.1 + 1)

-- of a file's; none where it isn't begun with
abbrev pub told_of_course : {A F : Type 0} → (PlacedValue → A → Result (Told A) F) → Result CourseRead CourseFault → A → Option ℕ
told_of_course tell (Ok r) far = Some (many_told tell r.groups.items far)
told_of_course tell (Err fault) far = None

-- of the file at a place, and of one behind a feed
abbrev pub told_in : ℕ → SourceTables → List WaitingValue → List ℕ → Far → Option ℕ
told_in file s waiting bytes far = told_of_course (λ g f. group_told s g f) (course_at far.reached waiting bytes) far

abbrev pub told_behind : ℕ → SourceTables → List Stage → List WaitingValue → List ℕ → Along → Option ℕ
told_behind file s had waiting bytes a = told_of_course (λ g a. group_behind file s had g a) (course_at a.logs waiting bytes) a

-- ---- in which file

-- how the file at a place is told, and how many of its transactions are
abbrev pub TellsFile : Type 0 → Type 0
TellsFile A = ℕ → List WaitingValue → List ℕ → A → Result (Told A × List WaitingValue) LogsFault

abbrev pub Counts : Type 0 → Type 0
Counts A = ℕ → List WaitingValue → List ℕ → A → Option ℕ

-- no file is told behind this one: it isn't told itself, or it is the last
abbrev pub IsLast : {X : Type 0} → Result X LogsFault → List (List ℕ) → Type 0
IsLast (Ok x) logs = logs ≡ []
IsLast (Err fault) logs = Unit {0}

-- from one file on: the fault stands at this byte of the first that isn't told, or else of the last
abbrev pub StandsFrom : {A : Type 0} → TellsFile A → Counts A → ℕ → List WaitingValue → List (List ℕ) → A → LogsFault → ℕ → Type 0
StandsFrom tell told file waiting [] far fault byte = ⊥
StandsFrom {A} tell told file waiting (bytes ∷ logs) far fault byte =
    (IsLast (tell file waiting bytes far) logs × StandsAt bytes (told file waiting bytes far) fault byte)
    ⊎ ((x : Told A × List WaitingValue) × (tell file waiting bytes far ≡ Ok x) × StandsFrom tell told (file + 1) x.1 logs x.0.1 fault byte)

-- where a byte is told; none is where the fault stands at none. It is one of these files.
abbrev pub IsByteFrom : {A : Type 0} → TellsFile A → Counts A → ℕ → List WaitingValue → List (List ℕ) → A → LogsFault → Option ℕ → Type 0
IsByteFrom tell told file waiting [] far fault byte = ⊥
IsByteFrom tell told file waiting (bytes ∷ logs) far fault None = (byte : ℕ) → StandsFrom tell told file waiting (bytes ∷ logs) far fault byte → ⊥
IsByteFrom tell told file waiting (bytes ∷ logs) far fault (Some byte) = StandsFrom tell told file waiting (bytes ∷ logs) far fault byte

-- of logs, and of logs behind a feed
abbrev pub IsByteOfLogs : ℕ → SourceTables → List WaitingValue → List (List ℕ) → Far → LogsFault → Option ℕ → Type 0
IsByteOfLogs file s waiting logs far fault byte = IsByteFrom (λ at left bytes f. log_told at s left bytes f) (λ at left bytes f. told_in at s left bytes f) file waiting logs far fault byte

abbrev pub IsByteBehind : ℕ → SourceTables → List Stage → List WaitingValue → List (List ℕ) → Along → LogsFault → Option ℕ → Type 0
IsByteBehind file s had waiting logs a fault byte = IsByteFrom (λ at left bytes b. log_behind at s had left bytes b) (λ at left bytes b. told_behind at s had left bytes b) file waiting logs a fault byte

-- ---- the whole

-- of all files; without any there is none
abbrev pub OfAll : (List (List ℕ) → LogsFault → Option ℕ → Type 0) → List (List ℕ) → LogsFault → Option ℕ → Type 0
OfAll IsByte [] fault byte = byte ≡ None
OfAll IsByte (bytes ∷ logs) fault byte = IsByte (bytes ∷ logs) fault byte

-- the byte of the first fault of logs
abbrev pub IsByteIn : SourceTables → List (List ℕ) → LogsFault → Option ℕ → Type 0
IsByteIn s logs fault byte = OfAll (λ logs fault byte. IsByteOfLogs 0 s [] logs (nothing_told s) fault byte) logs fault byte

-- of logs behind a feed
abbrev pub IsByteBeyond : SourceTables → List Stage → List (List ℕ) → Along → LogsFault → Option ℕ → Type 0
IsByteBeyond s had logs a fault byte = OfAll (λ logs fault byte. IsByteBehind 0 s had [] logs a fault byte) logs fault byte

-- where the first log isn't begun with, or is behind the feed's position
abbrev pub IsByteOfFirst : List (List ℕ) → LogsFault → Option ℕ → Type 0
IsByteOfFirst [] fault byte = byte ≡ None
IsByteOfFirst (bytes ∷ logs) fault None = StandsNowhere bytes None fault
IsByteOfFirst (bytes ∷ logs) fault (Some byte) = StandsAt bytes None fault byte

-- what a feed says, behind which the logs are told
pub record IsGoneBehind (s : SourceTables) (feed : List ℕ) (logs : List (List ℕ)) (fault : LogsFault) (byte : Option ℕ) : Type 0 where
  pub reached : List Interval
  pub end : feed_end s feed ≡ Ok reached
  pub first : List Interval
  pub begins : begun reached logs ≡ Ok first
  pub had : List Stage
  pub said : feed_said s (unsaid first) feed ≡ Ok had
  pub byte_there : IsByteBeyond s had logs (along_of reached first had) fault byte

-- the byte of the first fault of logs behind a feed
abbrev pub IsByteInBehind : SourceTables → List ℕ → List (List ℕ) → LogsFault → Option ℕ → Type 0
IsByteInBehind s feed logs fault byte =
    ((reached : List Interval) × (feed_end s feed ≡ Ok reached) × (begun reached logs ≡ Err fault) × IsByteOfFirst logs fault byte) ⊎ IsGoneBehind s feed logs fault byte
