-- The numbers by which logs are refused, and in which file (this profile).
use Rattle.std.specs.Prelude.{ℕ, Option, None, Some, Result, Ok, Err}
use Rattle.log_course.specs.declared.fault.CourseFault.{CourseFault}
use Rattle.log_course.specs.Fault as course
use Rattle.log_laws.specs.declared.fault.TellFault.{TellFault}
use Rattle.log_laws.specs.Fault as telling
use Rattle.log_transcribe.specs.declared.fault.LogsFault.{LogsFault}
use Rattle.log_transcribe.specs.declared.fault.LogsFault.TheVariants.{Course, Tell, TooLong}
use Rattle.log_transcribe.specs.declared.fault.LogsError.{LogsError}
use Rattle.log_transcribe.specs.declared.fault.LogsError.TheVariants.{Memory, Fault}
use Rattle.log_transcribe.specs.declared.fault.BehindFault.{BehindFault}
use Rattle.log_transcribe.specs.declared.fault.BehindFault.TheVariants.{Feed, Logs}
use Rattle.log_transcribe.specs.declared.fault.BehindError.{BehindError}
use Rattle.log_transcribe.specs.declared.fault.BehindError.TheVariants as behind_error
use Rattle.source_feed.specs.declared.fault.FeedFault.{FeedFault}
use Rattle.source_feed.specs.declared.fault.FeedFault.TheVariants as feed_fault
use Rattle.source_feed.specs.FaultNumber as feed

-- the number of each
abbrev pub number_of : LogsFault → ℕ
number_of (Course file fault) = course.number_of fault
number_of (Tell file fault) = telling.number_of fault
number_of (TooLong file) = 95

-- the place of its file
abbrev pub file_of : LogsFault → ℕ
file_of (Course file fault) = file
file_of (Tell file fault) = file
file_of (TooLong file) = file

-- which fault of the definition an error is: want of memory is none
abbrev pub meant : LogsError → Option LogsFault
meant Memory = None
meant (Fault fault) = Some fault

-- what is read of the file at a place
abbrev pub of_course : {A : Type 0} → ℕ → Result A CourseFault → Result A LogsFault
of_course file (Ok x) = Ok x
of_course file (Err fault) = Err (Course file fault)

-- what is told of it
abbrev pub of_tell : {A : Type 0} → ℕ → Result A TellFault → Result A LogsFault
of_tell file (Ok x) = Ok x
of_tell file (Err fault) = Err (Tell file fault)

-- ---- behind a feed

abbrev pub behind_number : BehindFault → ℕ
behind_number (Feed fault) = feed.number_of fault
behind_number (Logs fault) = number_of fault

abbrev pub behind_meant : BehindError → Option BehindFault
behind_meant behind_error.Memory = None
behind_meant (behind_error.Fault fault) = Some fault

-- what the feed says
abbrev pub of_feed : {A : Type 0} → Result A FeedFault → Result A BehindFault
of_feed (Ok x) = Ok x
of_feed (Err fault) = Err (Feed fault)

-- what the logs say
abbrev pub of_logs : {A : Type 0} → Result A LogsFault → Result A BehindFault
of_logs (Ok x) = Ok x
of_logs (Err fault) = Err (Logs fault)

-- want of memory is none of either
abbrev pub feed_error : FeedFault → BehindError
feed_error feed_fault.Memory = behind_error.Memory
feed_error fault = behind_error.Fault (Feed fault)

abbrev pub logs_error : LogsError → BehindError
logs_error Memory = behind_error.Memory
logs_error (Fault fault) = behind_error.Fault (Logs fault)
