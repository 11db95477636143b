-- Messages on their way to a writer: parts one behind another, and files one behind another.
use Rattle.std.proofs.Common.{◌≡◌, inl, inr, ℕ, ◌+◌, ◌-◌, ◌<◌, ◌≤◌, Bool, true, false, List, [], ◌∷◌, ◌++◌, length, Option, None, Some, Result, Ok, Err, refl, sym, ap, subst, ◌∙◌, arith, append_assoc, append-nil}
use Rattle.std.proofs.lemmas.List.{length-append}
use Rattle.std.specs.Prelude.{IfOk, if◌then◌else◌}
use Rattle.list_laws.specs.Outcome.{◌>>=◌, Refuses}
use Rattle.printing.specs.Printing.{Written, BreaksOff}
use Rattle.printing.proofs.PrintLaws.{written_nothing, written_more, then_breaks}
use Rattle.vevent.specs.EventValue.{EventValue}
use Rattle.gtid_set.specs.declared.interval.Interval.{Interval}
use Rattle.log_groups.specs.declared.fault.GroupFault.TheVariants.{StillPrepared}
use Rattle.log_groups.specs.Group.{WaitingValue, still_waits}
use Rattle.log_course.specs.declared.fault.CourseFault.{CourseFault}
use Rattle.log_course.specs.declared.fault.CourseFault.TheVariants.{Group}
use Rattle.log_course.specs.Course.{CourseRead, course_at}
use Rattle.log_course.specs.Calls.{CourseValue}
use Rattle.log_feed.specs.declared.table.Stage.{Stage}
use Rattle.log_laws.specs.Source.{SourceTables}
use Rattle.log_laws.specs.Transcript.{Far, last_told, written}
use Rattle.log_laws.specs.declared.fault.TellFault.{TellFault}
use Rattle.log_transcribe.specs.declared.fault.LogsFault.{LogsFault}
use Rattle.log_transcribe.specs.declared.fault.LogsFault.TheVariants.{Course, Tell}
use Rattle.log_transcribe.specs.declared.files.LogBytes.{LogBytes}
use Rattle.log_transcribe.specs.declared.fault.LogsError.{LogsError}
use Rattle.log_transcribe.specs.declared.fault.LogsError.TheVariants as logs_error
use Rattle.log_transcribe.specs.declared.fault.StreamError.{StreamError}
use Rattle.log_transcribe.specs.declared.fault.StreamError.TheVariants as stop
use Rattle.log_transcribe.specs.Behind.{Along, log_behind, logs_behind, behind_told}
use Rattle.log_transcribe.specs.Byte.{StandsAt}
use Rattle.log_transcribe.specs.Fault.{meant, of_course, of_tell}
use Rattle.log_transcribe.specs.Standing.{Counts, IsByteFrom, IsLast, StandsFrom}
use Rattle.log_transcribe.specs.Files.{GaveFrom}
use Rattle.log_transcribe.specs.Transcript.{course_told, log_told, none_waits, logs_told, nothing_told, feed_told}
use Rattle.log_transcribe.specs.Private.Bytes.{KeepsWaiting, with_messages, with_waiting, last_with, bytes_told}
use Rattle.log_transcribe.specs.Private.Sends.{Sending, counted, WentOut, Sends, Going, GoesOn, done, Stops, Puts, PutsOne, PutsLog, Stills, Telling, GoesTo, GoesOver, IsSettled, PutsSpan, IsOfLogs, AreTold, AreRefused, AreUnread, PutsFiles, PutsEnd, AreWritten, TellsAll, Places, IsByteAt, StopsAt, StopsNowhere}
use Rattle.log_transcribe.specs.Private.Goes.{reading_behind}
use Rattle.log_transcribe.specs.Private.Opens.{HasFirst, logs_from, place_behind}
use Rattle.log_transcribe.proofs.WritingLaws.{same_told, put_both, feed_is}
use Rattle.log_transcribe.proofs.GoingLaws.{end_is}

-- ---- bytes that went out

pub went_nothing : (s : Sending) → WentOut s s []
went_nothing s = record { written = written_nothing s.written; sent = λ n e. e ∙ ap counted (omega arith) }

pub went_more : (old now new : Sending) (gone more : List ℕ) → WentOut old now gone → WentOut now new more → WentOut old new (gone ++ more)
went_more old now new gone more a b = record {
  written = written_more old.written now.written new.written gone more a.written b.written;
  sent = λ n e. b.sent (n + length gone) (a.sent n e) ∙ ap counted (omega (arith, length-append gone more));
}

-- ---- what is told, one part behind another

-- with other bytes before both
shifted : {A : Type 0} (all rest : Result (Going A) LogsFault) (gone out next : List ℕ) → with_messages all out ≡ with_messages rest next → with_messages all (gone ++ out) ≡ with_messages rest (gone ++ next)
shifted (Err f) (Err g) gone out next e = cc
shifted (Err f) (Ok y) gone out next e = cc
shifted (Ok x) (Err g) gone out next e = cc
shifted {A} (Ok x) (Ok y) gone out next e =
    let both : ◌≡◌ {A = List ℕ × A} (out ++ written x.0, x.1) (next ++ written y.0, y.1) = same_told (out ++ written x.0, x.1) (next ++ written y.0, y.1) e in
    ap (λ (b : List ℕ). Ok (b, x.1)) (append_assoc gone out (written x.0))
    ∙ ap (λ (p : List ℕ × A). Ok (gone ++ p.0, p.1)) both
    ∙ ap (λ (b : List ℕ). Ok (b, y.1)) (sym (append_assoc gone next (written y.0)))

pub goes_refl : {A : Type 0} (all : Result (Going A) LogsFault) (s : Sending) → GoesOn all all s s
goes_refl all s = ([], went_nothing s, refl)

pub goes_further : {A : Type 0} (all mid rest : Result (Going A) LogsFault) (old now new : Sending) → GoesOn all mid old now → GoesOn mid rest now new → GoesOn all rest old new
goes_further all mid rest old now new a b = (
  a.0 ++ b.0,
  went_more old now new a.0 b.0 a.1 b.1,
  a.2 ∙ shifted mid rest a.0 now.waits (b.0 ++ new.waits) b.2 ∙ ap (with_messages rest) (sym (append_assoc a.0 b.0 new.waits)),
)

-- what waits is put behind what waited
pub goes_put : {A : Type 0} (all rest : Result (Going A) LogsFault) (old : Sending) (waits : List ℕ) → with_messages all old.waits ≡ with_messages rest waits → GoesOn all rest old (record { written = old.written; waits = waits; sent = old.sent })
goes_put all rest old waits e = ([], record { written = written_nothing old.written; sent = λ n h. h ∙ ap counted (omega arith) }, e)

-- some of what waits goes out
pub goes_out : {A : Type 0} (all : Result (Going A) LogsFault) (old new : Sending) → Sends (Ok tt) old new → GoesOn all all old new
goes_out all old new s = (s.0, s.1, ap (with_messages all) s.2)

-- a write that failed behind what went out
pub breaks_behind : (old now new : Sending) (gone : List ℕ) → WentOut old now gone → (text : List ℕ) × BreaksOff now.written new.written text → (text : List ℕ) × BreaksOff old.written new.written text
breaks_behind old now new gone a b = (gone ++ b.0, then_breaks old.written now.written new.written gone b.0 a.written b.1)

-- what stops the rest stops all
pub stops_all : {A : Type 0} (all rest : Result (Going A) LogsFault) (error : StreamError) (old now new : Sending) → GoesOn all rest old now → Stops rest error now.written new.written → Stops all error old.written new.written
stops_all all rest stop.Memory old now new a b = tt
stops_all all rest stop.Unwritten old now new a b = breaks_behind old now new a.0 a.1 b
stops_all all rest (stop.Unread at) old now new a b = absurd b
stops_all all rest (stop.Feed fault) old now new a b = absurd b
stops_all {A} all rest (stop.Fault fault byte) old now new a b = by all (a.2 ∙ ap (λ r. with_messages r (a.0 ++ now.waits)) b)
  where
    by : (r : Result (Going A) LogsFault) → with_messages r old.waits ≡ Err fault → r ≡ Err fault
    by (Ok x) e = cc
    by (Err f) e = cc

-- of all that is told the rest is a fault
fault_is : {A : Type 0} (r : Result (Going A) LogsFault) (out : List ℕ) (fault : LogsFault) → with_messages r out ≡ Err fault → r ≡ Err fault
fault_is (Ok x) out fault e = cc
fault_is (Err f) out fault e = cc

-- ---- a part, and what follows

-- one part, and another behind it
abbrev pub then_told : {A : Type 0} → Result (Going A) LogsFault → (A → Result (Going A) LogsFault) → Result (Going A) LogsFault
then_told r rest = r >>= λ x. rest x.1 >>= λ y. Ok (x.0 ++ y.0, y.1)

-- messages before others
abbrev before : {A : Type 0} → Going A → Result (Going A) LogsFault → Result (Going A) LogsFault
before x r = r >>= λ y. Ok (x.0 ++ y.0, y.1)

part_then : {A : Type 0} (r : Result (Going A) LogsFault) (rest : A → Result (Going A) LogsFault) (out next : List ℕ) (mid : A) → with_messages r out ≡ Ok (next, mid)
    → with_messages (then_told r rest) out ≡ with_messages (rest mid) next
part_then (Err fault) rest out next mid e = cc
part_then {A} (Ok x) rest out next mid e =
    let both : ◌≡◌ {A = List ℕ × A} (out ++ written x.0, x.1) (next, mid) = same_told (out ++ written x.0, x.1) (next, mid) e in
    rw (sym (ap (λ (p : List ℕ × A). p.0) both), sym (ap (λ (p : List ℕ × A). p.1) both)) (by (rest x.1))
  where
    by : (r : Result (Going A) LogsFault) → with_messages (before x r) out ≡ with_messages r (out ++ written x.0)
    by (Err fault) = refl
    by (Ok y) = ap (λ (b : List ℕ). Ok (b, y.1)) (put_both out x.0 y.0)

-- what goes on behind a part that is told
pub goes_then : {A : Type 0} (r : Result (Going A) LogsFault) (rest : A → Result (Going A) LogsFault) (mid : A) (old now : Sending) → GoesOn r (done mid) old now
    → GoesOn (then_told r rest) (rest mid) old now
goes_then r rest mid old now a = (a.0, a.1, part_then r rest old.waits (a.0 ++ now.waits) mid (a.2 ∙ ap (λ (b : List ℕ). Ok (b, mid)) (append-nil (a.0 ++ now.waits))))

-- a fault behind it
fault_then : {A : Type 0} (r : Result (Going A) LogsFault) (rest : A → Result (Going A) LogsFault) (mid : A) (old now : Sending) (fault : LogsFault) → GoesOn r (done mid) old now → rest mid ≡ Err fault
    → then_told r rest ≡ Err fault
fault_then r rest mid old now fault a e =
    let behind = goes_then r rest mid old now a in
    fault_is (then_told r rest) old.waits fault (behind.2 ∙ ap (λ r. with_messages r (behind.0 ++ now.waits)) e)

-- ---- one step, and all that it left

pub one_put : {A : Type 0} (all rest : Result (Going A) LogsFault) (far : A) (old : Sending) (waits : List ℕ) (new : Sending) (left fewer : ℕ) → with_messages all old.waits ≡ with_messages rest waits → fewer < left
    → Sends (Ok tt) (record { written = old.written; waits = waits; sent = old.sent }) new → PutsOne all rest far left fewer (Ok true) old new
one_put all rest far old waits new left fewer e less sent = (
  goes_further all rest rest old (record { written = old.written; waits = waits; sent = old.sent }) new (goes_put all rest old waits e) (goes_out rest (record { written = old.written; waits = waits; sent = old.sent }) new sent),
  less,
)

pub last_sent : {A : Type 0} (all rest : Result (Going A) LogsFault) (far : A) (old : Sending) (waits : List ℕ) (new : Sending) (left fewer : ℕ) → with_messages all old.waits ≡ Ok (waits, far)
    → Sends (Ok tt) (record { written = old.written; waits = waits; sent = old.sent }) new → PutsOne all rest far left fewer (Ok false) old new
last_sent all rest far old waits new left fewer e sent =
    let put = e ∙ ap (λ (b : List ℕ). Ok (b, far)) (sym (append-nil waits)) in
    goes_further all (done far) (done far) old (record { written = old.written; waits = waits; sent = old.sent }) new (goes_put all (done far) old waits put) (goes_out (done far) (record { written = old.written; waits = waits; sent = old.sent }) new sent)

-- a write that failed
pub unsent : {A : Type 0} (all : Result (Going A) LogsFault) (rest : Result (Going A) LogsFault) (far : A) (left fewer : ℕ) (error : StreamError) (old new : Sending) (waits : List ℕ)
    → Sends (Err error) (record { written = old.written; waits = waits; sent = old.sent }) new → PutsOne all rest far left fewer (Err error) old new
unsent all rest far left fewer stop.Memory old new waits s = tt
unsent all rest far left fewer stop.Unwritten old new waits s = s
unsent all rest far left fewer (stop.Unread at) old new waits s = absurd s
unsent all rest far left fewer (stop.Feed fault) old new waits s = absurd s
unsent all rest far left fewer (stop.Fault fault byte) old new waits s = absurd s

-- an error of what is told
pub stopped : {X Y : Type 0} (all : Result X LogsFault) (view : Result Y LogsFault) (error : LogsError) (stops : StreamError) (old new : Written) → (((fault : LogsFault) → view ≡ Err fault → all ≡ Err fault)) → Refuses meant error view → IsOfLogs error stops → Stops all stops old new
stopped all view logs_error.Memory stops old new same e is = rw is tt
stopped all view (logs_error.Fault fault) stop.Memory old new same e is = tt
stopped all view (logs_error.Fault fault) stop.Unwritten old new same e is = absurd is
stopped all view (logs_error.Fault fault) (stop.Unread at) old new same e is = absurd is
stopped all view (logs_error.Fault fault) (stop.Feed other) old new same e is = absurd is
stopped all view (logs_error.Fault fault) (stop.Fault other byte) old new same e is = rw is (same fault e)

-- or of what may wait
pub stilled : (all : Result (Unit {0}) LogsFault) (error : LogsError) (stops : StreamError) → Refuses meant error all → IsOfLogs error stops → Stills all (Err stops)
stilled all logs_error.Memory stops e is = rw is tt
stilled all (logs_error.Fault fault) stop.Memory e is = tt
stilled all (logs_error.Fault fault) stop.Unwritten e is = absurd is
stilled all (logs_error.Fault fault) (stop.Unread at) e is = absurd is
stilled all (logs_error.Fault fault) (stop.Feed other) e is = absurd is
stilled all (logs_error.Fault fault) (stop.Fault other byte) e is = rw is e

pub stopped_put : {A : Type 0} (all : Result (Going A) LogsFault) (out : List ℕ) (error : LogsError) (stops : StreamError) (old new : Written) → Refuses meant error (with_messages all out) → IsOfLogs error stops → Stops all stops old new
stopped_put all out error stops old new e is = stopped all (with_messages all out) error stops old new (λ fault h. fault_is all out fault h) e is

-- ---- all of a file

pub loop_on : {A : Type 0} (all rest less : Result (Going A) LogsFault) (far : A) (left fewer : ℕ) (more : Bool) (old now new : Sending) → more ≡ true → GoesOn all rest old now → PutsOne rest less far left fewer (Ok more) now new → GoesOn all less old new × (fewer < left)
loop_on all rest less far left fewer true old now new is a b = (goes_further all rest less old now new a b.0, b.1)
loop_on all rest less far left fewer false old now new is a b = cc

pub loop_done : {A : Type 0} (all rest less : Result (Going A) LogsFault) (far : A) (left fewer : ℕ) (more : Bool) (old now new : Sending) → more ≡ false → GoesOn all rest old now → PutsOne rest less far left fewer (Ok more) now new → GoesOn all (done far) old new
loop_done all rest less far left fewer true old now new is a b = cc
loop_done all rest less far left fewer false old now new is a b = goes_further all rest (done far) old now new a b

-- ---- a file, and what waits behind it

pub kept_waiting : (E : Type 0) (old new : CourseValue) (more : Bool) → KeepsWaiting {E = E} old (Ok more) new → new.waiting ≡ old.waiting
kept_waiting E old new true k = k
kept_waiting E old new false k = k.0

pub end_waiting : (E : Type 0) (old new : CourseValue) (more : Bool) → more ≡ false → KeepsWaiting {E = E} old (Ok more) new → (new.groups.items ≡ []) × (new.groups.fault ≡ None)
end_waiting E old new true is k = cc
end_waiting E old new false is k = (k.1, k.2)

waiting_fault : {A : Type 0} (r : Result (Going A × List WaitingValue) LogsFault) (out : List ℕ) (fault : LogsFault) → with_waiting r out ≡ Err fault → r ≡ Err fault
waiting_fault (Ok x) out fault e = cc
waiting_fault (Err f) out fault e = cc

abbrev and_left : {A : Type 0} → Result (Going A) LogsFault → List WaitingValue → Result (Going A × List WaitingValue) LogsFault
and_left r left = r >>= λ x. Ok (x, left)

left_behind : {A : Type 0} (r : Result (Going A) LogsFault) (left waits : List WaitingValue) (far : A) (out next : List ℕ) → with_messages r out ≡ Ok (next, far) → waits ≡ left → with_waiting (and_left r left) out ≡ Ok ((next, far), waits)
left_behind (Err fault) left waits far out next e same = cc
left_behind {A} (Ok x) left waits far out next e same =
    let both : ◌≡◌ {A = List ℕ × A} (out ++ written x.0, x.1) (next, far) = same_told (out ++ written x.0, x.1) (next, far) e in
    rw same (ap (λ (p : List ℕ × A). Ok (p, left)) both)

left_stops : {A : Type 0} (r : Result (Going A) LogsFault) (left : List WaitingValue) (error : StreamError) (old new : Written) → Stops r error old new → Stops (and_left r left) error old new
left_stops r left stop.Memory old new s = tt
left_stops r left stop.Unwritten old new s = s
left_stops r left (stop.Unread at) old new s = absurd s
left_stops r left (stop.Feed fault) old new s = absurd s
left_stops r left (stop.Fault fault byte) old new s = rw s refl

-- its transactions are told, and these wait
log_by : {A X : Type 0} (view : X → List WaitingValue) (answer : Result X StreamError) (r : Result (Going A) LogsFault) (left : List WaitingValue) (far : A) (old new : Sending) → Puts r far answer old new → IfOk answer (λ x. view x ≡ left)
    → PutsLog (and_left r left) view far answer old new
log_by view (Ok x) r left far old new put is = (put.0, put.1, left_behind r left (view x) far old.waits (put.0 ++ new.waits) (put.2 ∙ ap (λ (b : List ℕ). Ok (b, far)) (append-nil (put.0 ++ new.waits))) is)
log_by view (Err error) r left far old new put is = left_stops r left error old.written new.written put

same_log : {A X : Type 0} (view : X → List WaitingValue) (answer : Result X StreamError) (all same : Result (Going A × List WaitingValue) LogsFault) (far : A) (old new : Sending) → all ≡ same → PutsLog same view far answer old new → PutsLog all view far answer old new
same_log view answer all same far old new is put = rw is put

pub log_sent : {X : Type 0} (file : ℕ) (s : SourceTables) (view : X → List WaitingValue) (answer : Result X StreamError) (waiting : List WaitingValue) (bytes : List ℕ) (r : CourseRead) (far next : Far) (reached : List Interval) (old new : Sending) → reached ≡ far.reached
    → course_at reached waiting bytes ≡ Ok r → Puts (course_told file s r.groups far) next answer old new → IfOk answer (λ x. view x ≡ r.waiting) → PutsLog (log_told file s waiting bytes far) view next answer old new
log_sent file s view answer waiting bytes r far next reached old new same e put is =
    same_log view answer (log_told file s waiting bytes far) (and_left (course_told file s r.groups far) r.waiting) next old new
    (ap (λ (c : Result CourseRead CourseFault). of_course file c >>= λ r. course_told file s r.groups far >>= λ x. Ok (x, r.waiting)) (ap (λ (k : List Interval). course_at k waiting bytes) (sym same) ∙ e))
    (log_by view answer (course_told file s r.groups far) r.waiting next old new put is)

pub behind_sent : {X : Type 0} (file : ℕ) (s : SourceTables) (had : List Stage) (view : X → List WaitingValue) (answer : Result X StreamError) (waiting : List WaitingValue) (bytes : List ℕ) (r : CourseRead) (a next : Along) (old new : Sending)
    → course_at a.logs waiting bytes ≡ Ok r → Puts (reading_behind file s had r.groups a) next answer old new → IfOk answer (λ x. view x ≡ r.waiting) → PutsLog (log_behind file s had waiting bytes a) view next answer old new
behind_sent file s had view answer waiting bytes r a next old new e put is =
    same_log view answer (log_behind file s had waiting bytes a) (and_left (reading_behind file s had r.groups a) r.waiting) next old new
    (ap (λ (c : Result CourseRead CourseFault). of_course file c >>= λ r. reading_behind file s had r.groups a >>= λ x. Ok (x, r.waiting)) e)
    (log_by view answer (reading_behind file s had r.groups a) r.waiting next old new put is)

-- one that isn't begun with
pub log_unsent : {A : Type 0} (all : Result (Going A × List WaitingValue) LogsFault) (out : List ℕ) (error : LogsError) (stops : StreamError) (old new : Written) → Refuses meant error (with_waiting all out) → IsOfLogs error stops → Stops all stops old new
log_unsent all out error stops old new e is = stopped all (with_waiting all out) error stops old new (λ fault h. waiting_fault all out fault h) e is

-- ---- files

-- how files are told: the first one, and then the others; and behind the last one
pub record AreTelling {A : Type 0} (told : ℕ → List WaitingValue → List ℕ → A → Result (Going A × List WaitingValue) LogsFault) (tells : Telling A) : Type 0 where
  pub first : (file : ℕ) (waiting : List WaitingValue) (bytes : List ℕ) (logs : List (List ℕ)) (far : A) → tells file waiting (bytes ∷ logs) far ≡ (told file waiting bytes far >>= λ x. tells (file + 1) x.1 logs x.0.1 >>= λ y. Ok (x.0.0 ++ y.0, y.1))
  pub end : (file : ℕ) (waiting : List WaitingValue) (far : A) → tells file waiting [] far ≡ (none_waits file waiting >>= λ _. Ok ([], far))

pub logs_tell : (s : SourceTables) → AreTelling (λ file waiting bytes far. log_told file s waiting bytes far) (λ at left logs far. logs_told at s left logs far)
unfolding logs_told
logs_tell s = record { first = λ file waiting bytes logs far. refl; end = λ file waiting far. refl }

pub behind_tell : (s : SourceTables) (had : List Stage) → AreTelling (λ file waiting bytes a. log_behind file s had waiting bytes a) (λ at left logs along. logs_behind at s had left logs along)
unfolding logs_behind
behind_tell s had = record { first = λ file waiting bytes logs a. refl; end = λ file waiting a. refl }

file_before : {A : Type 0} (r : Result (Going A × List WaitingValue) LogsFault) (rest : List WaitingValue → A → Result (Going A) LogsFault) (out next : List ℕ) (mid : A) (left : List WaitingValue) → with_waiting r out ≡ Ok ((next, mid), left)
    → with_messages (r >>= λ x. rest x.1 x.0.1 >>= λ y. Ok (x.0.0 ++ y.0, y.1)) out ≡ with_messages (rest left mid) next
file_before (Err fault) rest out next mid left e = cc
file_before {A} (Ok x) rest out next mid left e =
    let both : ◌≡◌ {A = (List ℕ × A) × List WaitingValue} ((out ++ written x.0.0, x.0.1), x.1) ((next, mid), left) = same_told ((out ++ written x.0.0, x.0.1), x.1) ((next, mid), left) e in
    rw (sym (ap (λ (p : (List ℕ × A) × List WaitingValue). p.0.0) both), sym (ap (λ (p : (List ℕ × A) × List WaitingValue). p.0.1) both), sym (ap (λ (p : (List ℕ × A) × List WaitingValue). p.1) both)) (by (rest x.1 x.0.1))
  where
    by : (r : Result (Going A) LogsFault) → with_messages (r >>= λ y. Ok (x.0.0 ++ y.0, y.1)) out ≡ with_messages r (out ++ written x.0.0)
    by (Err fault) = refl
    by (Ok y) = ap (λ (b : List ℕ). Ok (b, y.1)) (put_both out x.0.0 y.0)

no_logs_more : (logs : List (List ℕ)) (from many : ℕ) → from + length logs ≡ many → many ≤ from → logs ≡ []
no_logs_more [] from many all last = refl
no_logs_more (o ∷ others) from many all last = absurd (omega (arith, all, last))

unsettled : (file : ℕ) (waiting : List WaitingValue) → still_waits waiting ≡ false → none_waits file waiting ≡ Ok tt
unsettled file waiting e = rw e refl

settled_by : (file : ℕ) (b : Bool) → ◌≡◌ {A = Result (Unit {0}) LogsFault} (if b then Err (Course (file - 1) (Group StillPrepared)) else Ok tt) (Ok tt) → b ≡ false
settled_by file true e = cc
settled_by file false e = refl

settles : (file : ℕ) (waiting : List WaitingValue) → none_waits file waiting ≡ Ok tt → still_waits waiting ≡ false
settles file waiting e = settled_by file (still_waits waiting) e

same_fault : {X F : Type 0} (f g : F) → ◌≡◌ {A = Result X F} (Err f) (Err g) → f ≡ g
same_fault f g e = cc

-- what is told of a file, by what is put of it
waiting_so : {A : Type 0} (r : Result (Going A × List WaitingValue) LogsFault) (out outs : List ℕ) (next : A) (left : List WaitingValue) → with_waiting r out ≡ Ok ((outs, next), left)
    → (x : Going A × List WaitingValue) × (r ≡ Ok x) × (x.0.1 ≡ next) × (x.1 ≡ left)
waiting_so (Err fault) out outs next left e = cc
waiting_so {A} (Ok x) out outs next left e =
    let both : ◌≡◌ {A = (List ℕ × A) × List WaitingValue} ((out ++ written x.0.0, x.0.1), x.1) ((outs, next), left) = same_told ((out ++ written x.0.0, x.0.1), x.1) ((outs, next), left) e in
    (x, refl, ap (λ (p : (List ℕ × A) × List WaitingValue). p.0.1) both, ap (λ (p : (List ℕ × A) × List WaitingValue). p.1) both)

is_last : {X : Type 0} (r : Result X LogsFault) → IsLast r []
is_last (Ok x) = refl
is_last (Err fault) = tt

-- what still waits is at fault where the events end, however many transactions are told
still_by : (file : ℕ) (b : Bool) (bytes : List ℕ) (one other : Option ℕ) (fault : LogsFault) (byte : ℕ) → ◌≡◌ {A = Result (Unit {0}) LogsFault} (if b then Err (Course (file - 1) (Group StillPrepared)) else Ok tt) (Err fault) → StandsAt bytes one fault byte → StandsAt bytes other fault byte
still_by file false bytes one other fault byte e is = cc
still_by file true bytes one other fault byte e is =
    let same : Course (file - 1) (Group StillPrepared) ≡ fault = same_fault {X = Unit {0}} (Course (file - 1) (Group StillPrepared)) fault e in
    subst (λ (f : LogsFault). StandsAt bytes other f byte) same (subst (λ (f : LogsFault). StandsAt bytes one f byte) (sym same) is)

still_there : (file : ℕ) (waiting : List WaitingValue) (bytes : List ℕ) (told : Option ℕ) (fault : LogsFault) (byte : Option ℕ) → none_waits file waiting ≡ Err fault → IsByteAt bytes None fault byte → IsByteAt bytes told fault byte
still_there file waiting bytes told fault None e is = λ byte at. is byte (still_by file (still_waits waiting) bytes told None fault byte e at)
still_there file waiting bytes told fault (Some byte) e is = still_by file (still_waits waiting) bytes None told fault byte e is

module _ {A : Type 0} (told : ℕ → List WaitingValue → List ℕ → A → Result (Going A × List WaitingValue) LogsFault) (tells : Telling A) (are : AreTelling told tells) (count : Counts A) (Gives : ℕ → List ℕ → Type 0) where
  -- where a fault of files from one on stands
  abbrev IsBytes : ℕ → List WaitingValue → List (List ℕ) → A → LogsFault → Option ℕ → Type 0
  IsBytes at left logs far fault byte = IsByteFrom told count at left logs far fault byte

  -- behind the last file nothing more is told
  done_there : (many : ℕ) (left : List WaitingValue) (far : A) → still_waits left ≡ false → tells many left [] far ≡ done far
  done_there many left far e = are.end many left far ∙ rw (unsettled many left e) refl

  -- what waits there is of no account
  same_rest : (many to : ℕ) (left : List WaitingValue) (others : List (List ℕ)) (far : A) → IsSettled many to left → to + length others ≡ many → tells to left others far ≡ tells to [] others far
  same_rest many to left [] far settled all = done_there to left far settled.changes ∙ sym (done_there to [] far refl)
  same_rest many to left (o ∷ others) far settled all = ap (λ (w : List WaitingValue). tells to w (o ∷ others) far) (settled.before (omega (arith, all)))

  -- a fault of the others stands where it does
  rest_there : (many to : ℕ) (left : List WaitingValue) (logs : List (List ℕ)) (far : A) (fault : LogsFault) (byte : Option ℕ) → IsSettled many to left → to + length logs ≤ many → IsBytes to [] logs far fault byte → IsBytes to left logs far fault byte
  rest_there many to left [] far fault byte settled within is = absurd is
  rest_there many to left (l ∷ logs) far fault byte settled within is = subst (λ (w : List WaitingValue). IsBytes to w (l ∷ logs) far fault byte) (sym (settled.before (omega (arith, within)))) is

  pub none_yet : (file many : ℕ) (far : A) (s : Sending) → GoesOver (λ logs. tells file [] logs far) (λ logs fault byte. IsBytes file [] logs far fault byte) tells IsBytes Gives file many file far s s
  none_yet file many far s = record {
    left = [];
    goes = record { logs = []; gave = tt; to_there = omega arith; gone = []; went = went_nothing s; goes = λ others. refl; there = λ others fault byte is. is };
    settled = record { before = λ less. refl; changes = refl };
  }

  -- there is none
  pub no_file : (many : ℕ) (far : A) (now : Sending) → many ≡ 0 → AreTold (λ others. tells 0 [] [] far) Gives 0 many far now now
  no_file many far now none = record { logs = []; gave = tt; all = omega (arith, none); goes = ([], went_nothing now, ap (λ r. with_messages r now.waits) (done_there 0 [] far refl)) }

  -- it stands at no byte of a file that is told and isn't the last, nor of those behind it
  not_last : (o : List ℕ) (others : List (List ℕ)) → ◌≡◌ {A = List (List ℕ)} (o ∷ others) [] → ⊥
  not_last o others e = cc

  file_not : (file : ℕ) (waiting : List WaitingValue) (bytes : List ℕ) (far : A) (x : Going A × List WaitingValue) (others : List (List ℕ)) (fault : LogsFault) (byte : ℕ) → told file waiting bytes far ≡ Ok x → (others ≡ [] → ⊥)
      → (StandsFrom told count (file + 1) x.1 others x.0.1 fault byte → ⊥) → StandsFrom told count file waiting (bytes ∷ others) far fault byte → ⊥
  file_not file waiting bytes far x others fault byte e more not (inl at) = more (let last = at.0 in rw e at last)
  file_not file waiting bytes far x others fault byte e more not (inr rest) =
      not (subst (λ (y : Going A × List WaitingValue). StandsFrom told count (file + 1) y.1 others y.0.1 fault byte) (same_told rest.0 x (sym rest.1 ∙ e)) rest.2)

  last_not : (file : ℕ) (waiting : List WaitingValue) (bytes : List ℕ) (far : A) (fault : LogsFault) (byte : ℕ) → (StandsAt bytes (count file waiting bytes far) fault byte → ⊥) → StandsFrom told count file waiting (bytes ∷ []) far fault byte → ⊥
  last_not file waiting bytes far fault byte not (inl at) = not at.1
  last_not file waiting bytes far fault byte not (inr rest) = rest.2

  -- a fault behind a file that is told
  file_there : (file : ℕ) (waiting : List WaitingValue) (bytes : List ℕ) (far next : A) (left : List WaitingValue) (out outs : List ℕ) (others : List (List ℕ)) (fault : LogsFault) (byte : Option ℕ) → with_waiting (told file waiting bytes far) out ≡ Ok ((outs, next), left)
      → IsBytes (file + 1) left others next fault byte → IsBytes file waiting (bytes ∷ others) far fault byte
  file_there file waiting bytes far next left out outs [] fault byte e is = absurd is
  file_there file waiting bytes far next left out outs (o ∷ others) fault None e is =
      let x = waiting_so (told file waiting bytes far) out outs next left e in
      λ byte at. file_not file waiting bytes far x.0 (o ∷ others) fault byte x.1 (λ last. not_last o others last) (λ rest. is byte (subst (λ (w : List WaitingValue). StandsFrom told count (file + 1) w (o ∷ others) next fault byte) x.3 (subst (λ (a : A). StandsFrom told count (file + 1) x.0.1 (o ∷ others) a fault byte) x.2 rest))) at
  file_there file waiting bytes far next left out outs (o ∷ others) fault (Some byte) e is =
      let x = waiting_so (told file waiting bytes far) out outs next left e in
      inr (x.0, x.1, subst (λ (w : List WaitingValue). StandsFrom told count (file + 1) w (o ∷ others) x.0.0.1 fault byte) (sym x.3) (subst (λ (a : A). StandsFrom told count (file + 1) left (o ∷ others) a fault byte) (sym x.2) is))

  -- a fault of the last one
  last_there : (file : ℕ) (waiting : List WaitingValue) (bytes : List ℕ) (far : A) (fault : LogsFault) (byte : Option ℕ) → IsByteAt bytes (count file waiting bytes far) fault byte → IsBytes file waiting (bytes ∷ []) far fault byte
  last_there file waiting bytes far fault None is = λ byte at. last_not file waiting bytes far fault byte (is byte) at
  last_there file waiting bytes far fault (Some byte) is = inl (is_last (told file waiting bytes far), is)

  -- one file is told
  file_goes : {X : Type 0} (view : X → List WaitingValue) (x : X) (file : ℕ) (waiting : List WaitingValue) (bytes : List ℕ) (far next : A) (old new : Sending) → PutsLog (told file waiting bytes far) view next (Ok x) old new
      → GoesTo (λ logs. tells file waiting (bytes ∷ logs) far) (λ logs fault byte. IsBytes file waiting (bytes ∷ logs) far fault byte) tells IsBytes Gives (file + 1) (file + 1) (view x) next old new
  file_goes view x file waiting bytes far next old new put = record {
    logs = [];
    gave = tt;
    to_there = omega arith;
    gone = put.0;
    went = put.1;
    goes = λ others. ap (λ r. with_messages r old.waits) (are.first file waiting bytes others far) ∙ file_before (told file waiting bytes far) (λ left a. tells (file + 1) left others a) old.waits (put.0 ++ new.waits) next (view x) put.2;
    there = λ others fault byte is. file_there file waiting bytes far next (view x) old.waits (put.0 ++ new.waits) others fault byte put.2 is;
  }

  goes_fault : (all : List (List ℕ) → Result (Going A) LogsFault) (IsByte : Places) (file to : ℕ) (left : List WaitingValue) (far : A) (old now : Sending) (sofar : GoesTo all IsByte tells IsBytes Gives file to left far old now) (others : List (List ℕ)) (fault : LogsFault)
      → tells to left others far ≡ Err fault → all (sofar.logs ++ others) ≡ Err fault
  goes_fault all IsByte file to left far old now sofar others fault e = fault_is (all (sofar.logs ++ others)) old.waits fault (sofar.goes others ∙ ap (λ r. with_messages r (sofar.gone ++ now.waits)) e)

  gave_both : (file to : ℕ) (logs more : List (List ℕ)) → file + length logs ≡ to → GaveFrom Gives file logs → GaveFrom Gives to more → GaveFrom Gives file (logs ++ more)
  gave_both file to [] more at a b = subst (λ (k : ℕ). GaveFrom Gives k more) (omega (arith, at)) b
  gave_both file to (log ∷ logs) more at a b = (a.0, gave_both (file + 1) to logs more (omega (arith, at)) a.1 b)

  goes_both : (all : List (List ℕ) → Result (Going A) LogsFault) (IsByte : Places) (file mid to : ℕ) (left last : List WaitingValue) (far next : A) (old now new : Sending) → GoesTo all IsByte tells IsBytes Gives file mid left far old now → GoesTo (λ logs. tells mid left logs far) (λ logs fault byte. IsBytes mid left logs far fault byte) tells IsBytes Gives mid to last next now new
      → GoesTo all IsByte tells IsBytes Gives file to last next old new
  goes_both all IsByte file mid to left last far next old now new a b = record {
    logs = a.logs ++ b.logs;
    gave = gave_both file mid a.logs b.logs a.to_there a.gave b.gave;
    to_there = omega (arith, length-append a.logs b.logs, a.to_there, b.to_there);
    gone = a.gone ++ b.gone;
    went = went_more old now new a.gone b.gone a.went b.went;
    goes = λ others.
        ap (λ (l : List (List ℕ)). with_messages (all l) old.waits) (append_assoc a.logs b.logs others)
        ∙ a.goes (b.logs ++ others)
        ∙ shifted (tells mid left (b.logs ++ others) far) (tells to last others next) a.gone now.waits (b.gone ++ new.waits) (b.goes others)
        ∙ ap (with_messages (tells to last others next)) (sym (append_assoc a.gone b.gone new.waits));
    there = λ others fault byte is. subst (λ (l : List (List ℕ)). IsByte l fault byte) (sym (append_assoc a.logs b.logs others)) (a.there (b.logs ++ others) fault byte (b.there others fault byte is));
  }

  refused_both : (all : List (List ℕ) → Result (Going A) LogsFault) (IsByte : Places) (file mid many : ℕ) (left : List WaitingValue) (far : A) (old now : Sending) (fault : LogsFault) (byte : Option ℕ) → GoesTo all IsByte tells IsBytes Gives file mid left far old now → AreRefused (λ logs. tells mid left logs far) (λ logs fault byte. IsBytes mid left logs far fault byte) Gives mid many fault byte
      → AreRefused all IsByte Gives file many fault byte
  refused_both all IsByte file mid many left far old now fault byte a b = record {
    logs = a.logs ++ b.logs;
    gave = gave_both file mid a.logs b.logs a.to_there a.gave b.gave;
    within = omega (arith, length-append a.logs b.logs, a.to_there, b.within);
    is = λ others sum.
        ap all (append_assoc a.logs b.logs others)
        ∙ goes_fault all IsByte file mid left far old now a (b.logs ++ others) fault (b.is others (omega (arith, length-append a.logs b.logs, a.to_there, sum)));
    there = a.there b.logs fault byte b.there;
  }

  unread_both : (all : List (List ℕ) → Result (Going A) LogsFault) (IsByte : Places) (file mid many at : ℕ) (left : List WaitingValue) (far : A) (old now : Sending) → GoesTo all IsByte tells IsBytes Gives file mid left far old now → AreUnread Gives mid many at → AreUnread Gives file many at
  unread_both all IsByte file mid many at left far old now a b = record {
    within = b.within;
    logs = a.logs ++ b.logs;
    gave = gave_both file mid a.logs b.logs a.to_there a.gave b.gave;
    before = omega (arith, length-append a.logs b.logs, a.to_there, b.before);
  }

  -- those behind it
  pub span_behind : (all : List (List ℕ) → Result (Going A) LogsFault) (IsByte : Places) (file mid many : ℕ) (left : List WaitingValue) (far next : A) (answer : Result ℕ StreamError) (old now new : Sending) → GoesTo all IsByte tells IsBytes Gives file mid left far old now
      → PutsSpan (λ logs. tells mid left logs far) (λ logs fault byte. IsBytes mid left logs far fault byte) tells IsBytes Gives mid many next answer now new → PutsSpan all IsByte tells IsBytes Gives file many next answer old new
  span_behind all IsByte file mid many left far next (Ok to) old now new a b = record { left = b.left; goes = goes_both all IsByte file mid to left b.left far next old now new a b.goes; settled = b.settled }
  span_behind all IsByte file mid many left far next (Err stop.Memory) old now new a b = tt
  span_behind all IsByte file mid many left far next (Err stop.Unwritten) old now new a b = breaks_behind old now new a.gone a.went b
  span_behind all IsByte file mid many left far next (Err (stop.Unread at)) old now new a b = unread_both all IsByte file mid many at left far old now a b
  span_behind all IsByte file mid many left far next (Err (stop.Feed fault)) old now new a b = absurd b
  span_behind all IsByte file mid many left far next (Err (stop.Fault fault byte)) old now new a b = refused_both all IsByte file mid many left far old now fault byte a b

  -- a file that stops it
  pub file_stops : (file many : ℕ) (waiting : List WaitingValue) (bytes : List ℕ) (far next : A) (error : StreamError) (old new : Sending) → file < many → Stops (told file waiting bytes far) error old.written new.written → StopsAt bytes (count file waiting bytes far) error
      → PutsSpan (λ logs. tells file waiting (bytes ∷ logs) far) (λ logs fault byte. IsBytes file waiting (bytes ∷ logs) far fault byte) tells IsBytes Gives (file + 1) many next (Err error) old new
  file_stops file many waiting bytes far next stop.Memory old new less s is = tt
  file_stops file many waiting bytes far next stop.Unwritten old new less s is = s
  file_stops file many waiting bytes far next (stop.Unread at) old new less s is = absurd s
  file_stops file many waiting bytes far next (stop.Feed fault) old new less s is = absurd s
  file_stops file many waiting bytes far next (stop.Fault fault byte) old new less s is = record {
    logs = [];
    gave = tt;
    within = omega (arith, less);
    is = λ others sum. are.first file waiting bytes others far ∙ rw s refl;
    there = last_there file waiting bytes far fault byte is;
  }

  -- nothing waits behind it
  pub file_settled : {X : Type 0} (view : X → List WaitingValue) (x : X) (file many : ℕ) (waiting : List WaitingValue) (bytes : List ℕ) (far next : A) (old new : Sending) → view x ≡ [] → PutsLog (told file waiting bytes far) view next (Ok x) old new
      → PutsSpan (λ logs. tells file waiting (bytes ∷ logs) far) (λ logs fault byte. IsBytes file waiting (bytes ∷ logs) far fault byte) tells IsBytes Gives (file + 1) many next (Ok (file + 1)) old new
  file_settled view x file many waiting bytes far next old new none put = record {
    left = view x;
    goes = file_goes view x file waiting bytes far next old new put;
    settled = record { before = λ less. none; changes = ap (λ (w : List WaitingValue). still_waits w) none };
  }

  -- others behind it
  pub file_behind : {X : Type 0} (view : X → List WaitingValue) (x : X) (file many : ℕ) (waiting : List WaitingValue) (bytes : List ℕ) (far mid next : A) (answer : Result ℕ StreamError) (old now new : Sending) → PutsLog (told file waiting bytes far) view mid (Ok x) old now
      → PutsSpan (λ logs. tells (file + 1) (view x) logs mid) (λ logs fault byte. IsBytes (file + 1) (view x) logs mid fault byte) tells IsBytes Gives (file + 1) many next answer now new → PutsSpan (λ logs. tells file waiting (bytes ∷ logs) far) (λ logs fault byte. IsBytes file waiting (bytes ∷ logs) far fault byte) tells IsBytes Gives (file + 1) many next answer old new
  file_behind view x file many waiting bytes far mid next answer old now new put rest =
      span_behind (λ logs. tells file waiting (bytes ∷ logs) far) (λ logs fault byte. IsBytes file waiting (bytes ∷ logs) far fault byte) (file + 1) (file + 1) many (view x) mid next answer old now new (file_goes view x file waiting bytes far mid old now put) rest

  -- it is the last one
  pub file_last : {X : Type 0} (view : X → List WaitingValue) (x : X) (file many : ℕ) (waiting : List WaitingValue) (bytes : List ℕ) (far next : A) (old new : Sending) → many ≤ file + 1 → none_waits (file + 1) (view x) ≡ Ok tt → PutsLog (told file waiting bytes far) view next (Ok x) old new
      → PutsSpan (λ logs. tells file waiting (bytes ∷ logs) far) (λ logs fault byte. IsBytes file waiting (bytes ∷ logs) far fault byte) tells IsBytes Gives (file + 1) many next (Ok (file + 1)) old new
  file_last view x file many waiting bytes far next old new last none put = record {
    left = view x;
    goes = file_goes view x file waiting bytes far next old new put;
    settled = record { before = λ less. absurd (omega (arith, last, less)); changes = settles (file + 1) (view x) none };
  }

  pub file_waits : {X : Type 0} (view : X → List WaitingValue) (x : X) (file many : ℕ) (waiting : List WaitingValue) (bytes : List ℕ) (far mid next : A) (error : StreamError) (old new : Sending) → many ≤ file + 1 → file < many → Stills (none_waits (file + 1) (view x)) (Err error) → StopsAt bytes None error
      → PutsLog (told file waiting bytes far) view mid (Ok x) old new → PutsSpan (λ logs. tells file waiting (bytes ∷ logs) far) (λ logs fault byte. IsBytes file waiting (bytes ∷ logs) far fault byte) tells IsBytes Gives (file + 1) many next (Err error) old new
  file_waits view x file many waiting bytes far mid next stop.Memory old new last less s is put = tt
  file_waits view x file many waiting bytes far mid next stop.Unwritten old new last less s is put = absurd s
  file_waits view x file many waiting bytes far mid next (stop.Unread at) old new last less s is put = absurd s
  file_waits view x file many waiting bytes far mid next (stop.Feed fault) old new last less s is put = absurd s
  file_waits view x file many waiting bytes far mid next (stop.Fault fault byte) old new last less s is put = record {
    logs = [];
    gave = tt;
    within = omega (arith, less);
    is = λ others sum.
        let rest : tells (file + 1) (view x) others mid ≡ Err fault =
        ap (λ (o : List (List ℕ)). tells (file + 1) (view x) o mid) (no_logs_more others (file + 1) many (omega (arith, sum)) last) ∙ are.end (file + 1) (view x) mid ∙ rw s refl in
        fault_is (tells file waiting (bytes ∷ others) far) old.waits fault
        (ap (λ r. with_messages r old.waits) (are.first file waiting bytes others far)
        ∙ file_before (told file waiting bytes far) (λ left a. tells (file + 1) left others a) old.waits (put.0 ++ new.waits) mid (view x) put.2
        ∙ ap (λ r. with_messages r (put.0 ++ new.waits)) rest);
    there = last_there file waiting bytes far fault byte (still_there (file + 1) (view x) bytes (count file waiting bytes far) fault byte s is);
  }

  -- the file gave these bytes
  pub file_gave : (file many : ℕ) (waiting : List WaitingValue) (bytes : List ℕ) (far next : A) (answer : Result ℕ StreamError) (old new : Sending) → Gives file bytes → PutsSpan (λ logs. tells file waiting (bytes ∷ logs) far) (λ logs fault byte. IsBytes file waiting (bytes ∷ logs) far fault byte) tells IsBytes Gives (file + 1) many next answer old new
      → PutsSpan (λ logs. tells file waiting logs far) (λ logs fault byte. IsBytes file waiting logs far fault byte) tells IsBytes Gives file many next answer old new
  file_gave file many waiting bytes far next (Ok to) old new gave put = record {
    left = put.left;
    goes = record { logs = bytes ∷ put.goes.logs; gave = (gave, put.goes.gave); to_there = omega (arith, put.goes.to_there); gone = put.goes.gone; went = put.goes.went; goes = put.goes.goes; there = put.goes.there };
    settled = put.settled;
  }
  file_gave file many waiting bytes far next (Err stop.Memory) old new gave put = tt
  file_gave file many waiting bytes far next (Err stop.Unwritten) old new gave put = put
  file_gave file many waiting bytes far next (Err (stop.Unread at)) old new gave put = record { within = put.within; logs = bytes ∷ put.logs; gave = (gave, put.gave); before = omega (arith, put.before) }
  file_gave file many waiting bytes far next (Err (stop.Feed fault)) old new gave put = absurd put
  file_gave file many waiting bytes far next (Err (stop.Fault fault byte)) old new gave put = record { logs = bytes ∷ put.logs; gave = (gave, put.gave); within = omega (arith, put.within); is = λ others sum. put.is others (omega (arith, sum)); there = put.there }

  pub file_unread : (all : List (List ℕ) → Result (Going A) LogsFault) (IsByte : Places) (file many : ℕ) (next : A) (old new : Sending) → file < many → PutsSpan all IsByte tells IsBytes Gives file many next (Err (stop.Unread file)) old new
  file_unread all IsByte file many next old new less = record { within = less; logs = []; gave = tt; before = omega arith }

  -- ---- one span behind another

  pub over_more : (all : List (List ℕ) → Result (Going A) LogsFault) (IsByte : Places) (file mid many : ℕ) (far next : A) (answer : Result ℕ StreamError) (old now new : Sending) → mid < many → GoesOver all IsByte tells IsBytes Gives file many mid far old now
      → PutsSpan (λ logs. tells mid [] logs far) (λ logs fault byte. IsBytes mid [] logs far fault byte) tells IsBytes Gives mid many next answer now new → PutsSpan all IsByte tells IsBytes Gives file many next answer old new
  over_more all IsByte file mid many far next answer old now new less a b =
      span_behind all IsByte file mid many a.left far next answer old now new a.goes (subst (λ (w : List WaitingValue). PutsSpan (λ logs. tells mid w logs far) (λ logs fault byte. IsBytes mid w logs far fault byte) tells IsBytes Gives mid many next answer now new) (sym (a.settled.before less)) b)

  pub over_stopped : (all : List (List ℕ) → Result (Going A) LogsFault) (IsByte : Places) (file many : ℕ) (far next : A) (error : StreamError) (old new : Sending) → PutsSpan all IsByte tells IsBytes Gives file many far (Err error) old new → PutsFiles all IsByte Gives file many next (Err error) old new
  over_stopped all IsByte file many far next stop.Memory old new a = tt
  over_stopped all IsByte file many far next stop.Unwritten old new a = a
  over_stopped all IsByte file many far next (stop.Unread at) old new a = a
  over_stopped all IsByte file many far next (stop.Feed fault) old new a = absurd a
  over_stopped all IsByte file many far next (stop.Fault fault byte) old new a = a

  pub over_done : (all : List (List ℕ) → Result (Going A) LogsFault) (IsByte : Places) (file to many : ℕ) (far : A) (old new : Sending) → to ≡ many → GoesOver all IsByte tells IsBytes Gives file many to far old new → AreTold all Gives file many far old new
  over_done all IsByte file to many far old new is a = record {
    logs = a.goes.logs;
    gave = a.goes.gave;
    all = a.goes.to_there ∙ is;
    goes = (
      a.goes.gone,
      a.goes.went,
      ap (λ (l : List (List ℕ)). with_messages (all l) old.waits) (sym (append-nil a.goes.logs)) ∙ a.goes.goes [] ∙ ap (λ r. with_messages r (a.goes.gone ++ new.waits)) (done_there to a.left far a.settled.changes),
    );
  }

  -- all the others behind it
  pub over_rest : (all : List (List ℕ) → Result (Going A) LogsFault) (IsByte : Places) (file mid many : ℕ) (far next : A) (answer : Result (Unit {0}) StreamError) (old now new : Sending) → GoesOver all IsByte tells IsBytes Gives file many mid far old now
      → PutsFiles (λ logs. tells mid [] logs far) (λ logs fault byte. IsBytes mid [] logs far fault byte) Gives mid many next answer now new → PutsFiles all IsByte Gives file many next answer old new
  over_rest all IsByte file mid many far next (Ok x) old now new a b = record {
    logs = a.goes.logs ++ b.logs;
    gave = gave_both file mid a.goes.logs b.logs a.goes.to_there a.goes.gave b.gave;
    all = omega (arith, length-append a.goes.logs b.logs, a.goes.to_there, b.all);
    goes = goes_further (all (a.goes.logs ++ b.logs)) (tells mid [] b.logs far) (done next) old now new
        (a.goes.gone, a.goes.went, a.goes.goes b.logs ∙ ap (λ r. with_messages r (a.goes.gone ++ now.waits)) (same_rest many mid a.left b.logs far a.settled b.all)) b.goes;
  }
  over_rest all IsByte file mid many far next (Err stop.Memory) old now new a b = tt
  over_rest all IsByte file mid many far next (Err stop.Unwritten) old now new a b = breaks_behind old now new a.goes.gone a.goes.went b
  over_rest all IsByte file mid many far next (Err (stop.Unread at)) old now new a b = unread_both all IsByte file mid many at a.left far old now a.goes b
  over_rest all IsByte file mid many far next (Err (stop.Feed fault)) old now new a b = absurd b
  over_rest all IsByte file mid many far next (Err (stop.Fault fault byte)) old now new a b = refused_both all IsByte file mid many a.left far old now fault byte a.goes (record {
    logs = b.logs;
    gave = b.gave;
    within = b.within;
    is = λ others sum. same_rest many mid a.left (b.logs ++ others) far a.settled (omega (arith, length-append b.logs others, sum)) ∙ b.is others sum;
    there = rest_there many mid a.left b.logs far fault byte a.settled b.within b.there;
  })

-- ---- the whole

pub no_others : (logs others : List (List ℕ)) (from many : ℕ) → from + length logs ≡ many → from + (length logs + length others) ≡ many → others ≡ []
no_others logs [] from many all both = refl
no_others logs (o ∷ others) from many all both = absurd (omega (arith, all, both))

bytes_fault : (r : Result (List (List EventValue)) LogsFault) (fault : LogsFault) → bytes_told r ≡ Err fault → r ≡ Err fault
bytes_fault (Ok x) fault e = cc
bytes_fault (Err f) fault e = ap (λ g. Err g) (same_fault f fault e)

last_fault : (r : Result (List (List EventValue)) LogsFault) (out : List ℕ) (fault : LogsFault) → r ≡ Err fault → last_with r out ≡ Err fault
last_fault r out fault e = rw e refl

last_shifted : (r : Result (List (List EventValue)) LogsFault) (gone out next : List ℕ) → last_with r out ≡ Ok next → last_with r (gone ++ out) ≡ Ok (gone ++ next)
last_shifted (Err f) gone out next e = cc
last_shifted (Ok messages) gone out next e = ap (λ (b : List ℕ). Ok b) (append_assoc gone out (written messages) ∙ ap (λ b. gone ++ b) (same_told (out ++ written messages) next e))

-- what is told of files is a part of the whole, and a fault of theirs is one of the whole
pub record IsPart {A : Type 0} (tells : List (List ℕ) → Result (Going A) LogsFault) (whole : List (List ℕ) → Result (List (List EventValue)) LogsFault) (from many : ℕ) (last : A → Result (List (List EventValue)) LogsFault) : Type 0 where
  pub ends : (logs : List (List ℕ)) (out : List ℕ) (far : A) → from + length logs ≡ many → with_messages (tells logs) [] ≡ Ok (out, far) → bytes_told (whole logs) ≡ last_with (last far) out
  pub stops : (logs : List (List ℕ)) (fault : LogsFault) → tells logs ≡ Err fault → whole logs ≡ Err fault

module _ {A : Type 0} (tells : List (List ℕ) → Result (Going A) LogsFault) (whole : List (List ℕ) → Result (List (List EventValue)) LogsFault) (IsByte IsWhole : Places) (Gives : ℕ → List ℕ → Type 0) (from many : ℕ) where
  told_bytes : (logs : List (List ℕ)) (far : A) (old now : Sending) (goes : GoesOn (tells logs) (done far) old now) → old.waits ≡ [] → with_messages (tells logs) [] ≡ Ok (goes.0 ++ now.waits, far)
  told_bytes logs far old now goes fresh = ap (with_messages (tells logs)) (sym fresh) ∙ goes.2 ∙ ap (λ (b : List ℕ). Ok (b, far)) (append-nil (goes.0 ++ now.waits))

  pub all_written : (last : A → Result (List (List EventValue)) LogsFault) → IsPart tells whole from many last → (far : A) (size : ℕ) (old now new : Sending) → old.waits ≡ [] → old.sent ≡ 0 → size ≡ new.sent
      → AreTold tells Gives from many far old now → PutsEnd (last far) (Ok tt) now new → AreWritten whole Gives from many size old.written new.written
  all_written last part far size old now new fresh none is sofar end =
      let both = went_more old now new sofar.goes.0 end.0 sofar.goes.1 end.1 in
      record {
        logs = sofar.logs;
        gave = sofar.gave;
        all = sofar.all;
        feed = sofar.goes.0 ++ end.0;
        is = part.ends sofar.logs (sofar.goes.0 ++ now.waits) far sofar.all (told_bytes sofar.logs far old now sofar.goes fresh) ∙ last_shifted (last far) sofar.goes.0 now.waits end.0 end.2;
        written = both.written;
        many_bytes = is ∙ both.sent 0 none ∙ ap counted (omega arith);
      }

  pub end_stopped : (last : A → Result (List (List EventValue)) LogsFault) → IsPart tells whole from many last → ((logs : List (List ℕ)) (fault : LogsFault) (far : A) → last far ≡ Err fault → IsWhole logs fault None) → (far : A) (error : StreamError) (old now new : Sending) → old.waits ≡ []
      → AreTold tells Gives from many far old now → PutsEnd (last far) (Err error) now new → StopsNowhere error → TellsAll whole IsWhole Gives from many (Err error) old.written new.written
  end_stopped last part nowhere far stop.Memory old now new fresh sofar end none = tt
  end_stopped last part nowhere far stop.Unwritten old now new fresh sofar end none = breaks_behind old now new sofar.goes.0 sofar.goes.1 end
  end_stopped last part nowhere far (stop.Unread at) old now new fresh sofar end none = absurd end
  end_stopped last part nowhere far (stop.Feed fault) old now new fresh sofar end none = absurd end
  end_stopped last part nowhere far (stop.Fault fault byte) old now new fresh sofar end none = record {
    logs = sofar.logs;
    gave = sofar.gave;
    within = omega (arith, sofar.all);
    is = λ others both.
        subst (λ (o : List (List ℕ)). whole (sofar.logs ++ o) ≡ Err fault) (sym (no_others sofar.logs others from many sofar.all both))
        (ap whole (append-nil sofar.logs)
        ∙ bytes_fault (whole sofar.logs) fault
        (part.ends sofar.logs (sofar.goes.0 ++ now.waits) far sofar.all (told_bytes sofar.logs far old now sofar.goes fresh) ∙ last_fault (last far) (sofar.goes.0 ++ now.waits) fault end));
    there = subst (λ (b : Option ℕ). IsWhole sofar.logs fault b) (sym none) (nowhere sofar.logs fault far end);
  }

  pub files_stopped : (last : A → Result (List (List EventValue)) LogsFault) → IsPart tells whole from many last → ((logs : List (List ℕ)) (fault : LogsFault) (byte : Option ℕ) → IsByte logs fault byte → IsWhole logs fault byte) → (far : A) (error : StreamError) (old new : Sending)
      → PutsFiles tells IsByte Gives from many far (Err error) old new → TellsAll whole IsWhole Gives from many (Err error) old.written new.written
  files_stopped last part of far stop.Memory old new put = tt
  files_stopped last part of far stop.Unwritten old new put = put
  files_stopped last part of far (stop.Unread at) old new put = put
  files_stopped last part of far (stop.Feed fault) old new put = absurd put
  files_stopped last part of far (stop.Fault fault byte) old new put = record { logs = put.logs; gave = put.gave; within = put.within; is = λ others both. part.stops (put.logs ++ others) fault (put.is others both); there = of put.logs fault byte put.there }

-- ---- of logs, and of logs behind a feed

end_of_all : (n many : ℕ) (r : Result (List (List EventValue)) TellFault) (out : List ℕ) → n ≡ many → of_tell n (last_with r out) ≡ last_with (of_tell many r) out
end_of_all n many (Ok messages) out same = refl
end_of_all n many (Err fault) out same = ap (λ (k : ℕ). Err (Tell k fault)) same

pub feed_part : (s : SourceTables) (many : ℕ) → IsPart (λ logs. logs_told 0 s [] logs (nothing_told s)) (λ logs. feed_told s logs) 0 many (λ far. of_tell many (last_told s far))
feed_part s many = record {
  ends = λ logs out far all e. feed_is s logs out far e ∙ end_of_all (length logs) many (last_told s far) out (omega (arith, all));
  stops = λ logs fault e. rw e refl;
}

pub behind_part : (s : SourceTables) (had : List Stage) (along : Along) (log : Option LogBytes) (many : ℕ) → HasFirst many log
    → IsPart (λ others. logs_behind 0 s had [] (logs_from log others) along) (λ others. behind_told s had along (logs_from log others)) (place_behind log) many (λ a. of_tell many (last_told s a.far))
behind_part s had along log many first = record {
  ends = λ others out a all e. end_is s had (logs_from log others) along a out e ∙ end_of_all (length (logs_from log others)) many (last_told s a.far) out (counts log first others all);
  stops = λ others fault e. rw e refl;
}
  where
    counts : (log : Option LogBytes) → HasFirst many log → (others : List (List ℕ)) → place_behind log + length others ≡ many → length (logs_from log others) ≡ many
    counts None first others all = sym first
    counts (Some log) first others all = omega (arith, all)
