-- Further messages as they are put behind bytes that are written.
use Rattle.std.specs.Prelude.{◌≡◌, ◌<◌, ℕ, Bool, true, false, List, length, Result, Ok, Err}
use Rattle.list_laws.specs.Outcome.{Refuses}
use Rattle.item_readers.specs.Reading.{Reading}
use Rattle.log_course.specs.declared.fault.CourseFault.{CourseFault}
use Rattle.log_course.specs.Course.{PlacedValue}
use Rattle.log_feed.specs.declared.table.Stage.{Stage}
use Rattle.log_laws.specs.Source.{SourceTables}
use Rattle.log_transcribe.specs.declared.fault.LogsError.{LogsError}
use Rattle.log_transcribe.specs.declared.fault.LogsFault.{LogsFault}
use Rattle.log_transcribe.specs.Fault.{meant}
use Rattle.log_transcribe.specs.Behind.{Along, Going, groups_behind}
use Rattle.log_transcribe.specs.Private.Bytes.{with_messages}

-- a sequel of the program: whose it is, and how far it goes
pub record SequelValue : Type 0 where
  pub source : SourceTables
  pub had : List Stage
  pub along : Along

-- messages behind other bytes, and how far they go
abbrev pub with_going : {F : Type 0} → Result Going F → List ℕ → Result (List ℕ × Along) F
with_going r out = with_messages r out

-- what is told of the transactions of a file that are still to come
abbrev pub reading_behind : ℕ → SourceTables → List Stage → Reading PlacedValue CourseFault → Along → Result Going LogsFault
reading_behind file s had r a = groups_behind file s had r.items r.fault a

-- and put behind other bytes
abbrev pub rest_told : ℕ → SourceTables → List Stage → Reading PlacedValue CourseFault → Along → List ℕ → Result (List ℕ × Along) LogsFault
rest_told file s had r a out = with_going (reading_behind file s had r a) out

-- what a call that puts the next transaction of the file at a place answers and leaves, and whether there was one
abbrev pub GoesNext : ℕ → SourceTables → List Stage → Reading PlacedValue CourseFault → Result Bool LogsError → Reading PlacedValue CourseFault → Along → Along → List ℕ → List ℕ → Type 0
GoesNext file s had old (Ok true) new a next_a out next = (rest_told file s had old a out ≡ rest_told file s had new next_a next) × (length new.items < length old.items)
GoesNext file s had old (Ok false) new a next_a out next = rest_told file s had old a out ≡ Ok (next, next_a)
GoesNext file s had old (Err error) new a next_a out next = Refuses meant error (rest_told file s had old a out)
