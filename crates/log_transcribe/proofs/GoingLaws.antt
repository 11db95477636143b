-- Further messages put behind bytes, one transaction and one file further.
use Rattle.std.proofs.Common.{◌≡◌, ℕ, suc, ◌+◌, ◌<◌, ◌≤◌, true, List, [], ◌∷◌, ◌++◌, length, map, drop, get_or, Option, None, Some, Result, Ok, Err, refl, sym, ap, subst, ◌∙◌, arith}
use Rattle.std.proofs.lemmas.List.{append-nil, at_drop_more, at_drop_all}
use Rattle.std.specs.Prelude.{IfOk}
use Rattle.list_laws.specs.Outcome.{◌>>=◌, Refuses, GivesUnless}
use Rattle.item_readers.specs.Reading.{Reading}
use Rattle.gtid_set.specs.declared.interval.Interval.{Interval}
use Rattle.vevent.specs.EventValue.{EventValue}
use Rattle.log_groups.specs.Group.{WaitingValue}
use Rattle.log_course.specs.declared.fault.CourseFault.{CourseFault}
use Rattle.log_course.specs.declared.fault.CourseError as course_errors
use Rattle.log_course.specs.declared.fault.CourseError.TheVariants as course_error
use Rattle.log_course.specs.Fault as course_fault
use Rattle.log_course.specs.Course.{PlacedValue, CourseRead, course_at}
use Rattle.log_course.specs.Calls.{CourseValue, NextPlaced}
use Rattle.log_laws.specs.declared.fault.TellFault.{TellFault}
use Rattle.log_feed.specs.declared.table.Stage.{Stage}
use Rattle.log_laws.specs.Source.{SourceTables}
use Rattle.log_laws.specs.Transcript.{Messages, last_told, written}
use Rattle.log_transcribe.specs.declared.fault.LogsFault.{LogsFault}
use Rattle.log_transcribe.specs.declared.fault.LogsError.{LogsError}
use Rattle.log_transcribe.specs.declared.fault.LogsError.TheVariants as logs_error
use Rattle.source_feed.specs.declared.fault.FeedFault.{FeedFault}
use Rattle.source_feed.specs.declared.fault.FeedFault.TheVariants as feed_fault
use Rattle.source_feed.specs.FaultNumber.{meant_of}
use Rattle.log_transcribe.specs.declared.fault.BehindFault.{BehindFault}
use Rattle.log_transcribe.specs.Fault.{meant, of_tell, of_feed, of_logs, behind_meant, feed_error, logs_error as error_of}
use Rattle.log_transcribe.specs.Said.{feed_end, feed_said}
use Rattle.log_transcribe.specs.Transcript.{none_waits}
use Rattle.log_transcribe.specs.Behind.{Along, Going, going_to, taken_far, group_behind, end_behind, groups_behind, log_behind, logs_behind, begun, unsaid, along_of, behind_told, bytes_behind, behind_of_logs}
use Rattle.log_transcribe.specs.Private.Bytes.{course_error_at, with_messages, with_waiting, last_with, bytes_told}
use Rattle.log_transcribe.specs.Private.Goes.{with_going, rest_told, GoesNext}
use Rattle.log_transcribe.proofs.WritingLaws.{written_both, put_both, same_told}

abbrev Gone : Type 0
Gone = Result (List ℕ × Along) LogsFault

-- ---- one step and then others

further : {F : Type 0} (r : Result Going F) (rest : Along → Result Going F) (out next : List ℕ) (mid : Along) → with_going r out ≡ Ok (next, mid)
    → with_going (r >>= λ x. rest x.1 >>= λ y. Ok (x.0 ++ y.0, y.1)) out ≡ with_going (rest mid) next
further (Err fault) rest out next mid e = cc
further {F} (Ok x) rest out next mid e =
    let both : ◌≡◌ {A = List ℕ × Along} (out ++ written x.0, x.1) (next, mid) = same_told (out ++ written x.0, x.1) (next, mid) e in
    rw (sym (ap (λ (p : List ℕ × Along). p.0) both), sym (ap (λ (p : List ℕ × Along). p.1) both)) (by (rest x.1))
  where
    by : (r : Result Going F) → with_going (r >>= λ y. Ok (x.0 ++ y.0, y.1)) out ≡ with_going r (out ++ written x.0)
    by (Err fault) = refl
    by (Ok y) = ap (λ (b : List ℕ). Ok (b, y.1)) (put_both out x.0 y.0)

wrong : {F : Type 0} (r : Result Going F) (rest : Along → Result Going F) (out : List ℕ) (fault : F) → with_going r out ≡ Err fault → with_going (r >>= λ x. rest x.1 >>= λ y. Ok (x.0 ++ y.0, y.1)) out ≡ Err fault
wrong (Err other) rest out fault e = cc
wrong (Ok x) rest out fault e = cc

module _ (file : ℕ) (s : SourceTables) (had : List Stage) where
  -- ---- a transaction

  pub group-stopped : (g : PlacedValue) (a : Along) (out : List ℕ) (error : LogsError) → Refuses meant error (with_messages (taken_far file s had a.logs g a.far) out) → Refuses meant error (with_going (group_behind file s had g a) out)
  group-stopped g a out logs_error.Memory e = tt
  group-stopped g a out (logs_error.Fault fault) e = by (taken_far file s had a.logs g a.far) e
    where
      by : (r : Result Messages LogsFault) → with_messages r out ≡ Err fault → with_going (r >>= λ x. Ok (going_to g.position x)) out ≡ Err fault
      by (Ok x) h = cc
      by (Err other) h = let same : other ≡ fault = cc in ap (λ (f : LogsFault). Err f) same

  -- ---- the transactions of a file

  course_split : (old new : Reading PlacedValue CourseFault) (g : PlacedValue) (a : Along) → old.items ≡ g ∷ new.items → old.fault ≡ new.fault
      → groups_behind file s had old.items old.fault a ≡ group_behind file s had g a >>= λ x. groups_behind file s had new.items new.fault x.1 >>= λ y. Ok (x.0 ++ y.0, y.1)
  unfolding groups_behind
  course_split old new g a items fault = rw (items, fault) refl

  pub next-went : {U : Type 0} (old new : CourseValue) (g : PlacedValue) (answer : Result U LogsError) (a next_a : Along) (out next : List ℕ) → NextPlaced old (Ok (Some g)) new
      → GivesUnless meant (λ x. (next, next_a)) answer (with_going (group_behind file s had g a) out) → GoesNext file s had old.groups (answer >>= λ _. Ok true) new.groups a next_a out next
  next-went old new g (Ok x) a next_a out next front e = (
    ap (λ (r : Result Going LogsFault). with_going r out) (course_split old.groups new.groups g a front.0 front.1) ∙ further (group_behind file s had g a) (λ b. groups_behind file s had new.groups.items new.groups.fault b) out next next_a e,
    (let longer : length old.groups.items ≡ suc (length new.groups.items) = ap length front.0 in omega (arith, longer)),
  )
  next-went old new g (Err logs_error.Memory) a next_a out next front e = tt
  next-went old new g (Err (logs_error.Fault fault)) a next_a out next front e =
      ap (λ (r : Result Going LogsFault). with_going r out) (course_split old.groups new.groups g a front.0 front.1) ∙ wrong (group_behind file s had g a) (λ b. groups_behind file s had new.groups.items new.groups.fault b) out fault e

  course_ends : (old : Reading PlacedValue CourseFault) (a : Along) (end : Option CourseFault) → old.items ≡ [] → old.fault ≡ end → groups_behind file s had old.items old.fault a ≡ end_behind file end a
  unfolding groups_behind
  course_ends old a end none is = rw (none, is) refl

  pub none-went : (old new : CourseValue) (a : Along) (out : List ℕ) → NextPlaced old (Ok None) new → rest_told file s had old.groups a out ≡ Ok (out, a)
  none-went old new a out last = ap (λ (r : Result Going LogsFault). with_going r out) (course_ends old.groups a None last.0 last.1) ∙ ap (λ (b : List ℕ). Ok (b, a)) (append-nil out)

  pub fault-went : (old new : CourseValue) (error : course_errors.CourseError) (a : Along) (out : List ℕ) → NextPlaced old (Err error) new → Refuses meant (course_error_at file error) (rest_told file s had old.groups a out)
  fault-went old new course_error.Memory a out last = tt
  fault-went old new (course_error.Fault fault) a out last = ap (λ (r : Result Going LogsFault). with_going r out) (course_ends old.groups a (Some fault) last.0 last.1)

-- ---- a file

module _ (file : ℕ) (s : SourceTables) (had : List Stage) where
  file-opened : (waiting left : List WaitingValue) (bytes : List ℕ) (r : CourseRead) (a next_a : Along) (out next : List ℕ) → course_at a.logs waiting bytes ≡ Ok r
      → rest_told file s had r.groups a out ≡ Ok (next, next_a) → left ≡ r.waiting → with_waiting (log_behind file s had waiting bytes a) out ≡ Ok ((next, next_a), left)
  file-opened waiting left bytes r a next_a out next e put is = rw (e, is) (by (groups_behind file s had r.groups.items r.groups.fault a) put)
    where
      by : (m : Result Going LogsFault) → with_going m out ≡ Ok (next, next_a) → with_waiting (m >>= λ x. Ok (x, r.waiting)) out ≡ Ok ((next, next_a), r.waiting)
      by (Err fault) h = cc
      by (Ok x) h = ap (λ (p : List ℕ × Along). Ok (p, r.waiting)) (same_told (out ++ written x.0, x.1) (next, next_a) h)

  file-stopped : (waiting : List WaitingValue) (bytes : List ℕ) (r : CourseRead) (a : Along) (out : List ℕ) (error : LogsError) → course_at a.logs waiting bytes ≡ Ok r
      → Refuses meant error (rest_told file s had r.groups a out) → Refuses meant error (with_waiting (log_behind file s had waiting bytes a) out)
  file-stopped waiting bytes r a out logs_error.Memory e put = tt
  file-stopped waiting bytes r a out (logs_error.Fault fault) e put = rw e (by (groups_behind file s had r.groups.items r.groups.fault a) put)
    where
      by : (m : Result Going LogsFault) → with_going m out ≡ Err fault → with_waiting (m >>= λ x. Ok (x, r.waiting)) out ≡ Err fault
      by (Err other) h = let same : other ≡ fault = cc in ap (λ (f : LogsFault). Err f) same
      by (Ok x) h = cc

  pub file-put : {W : Type 0} (view : W → List WaitingValue) (answer : Result W LogsError) (waiting : List WaitingValue) (bytes : List ℕ) (r : CourseRead) (a next_a : Along) (out next : List ℕ) → course_at a.logs waiting bytes ≡ Ok r
      → GivesUnless meant (λ _. (next, next_a)) answer (rest_told file s had r.groups a out) → IfOk answer (λ w. view w ≡ r.waiting)
      → GivesUnless meant (λ w. ((next, next_a), view w)) answer (with_waiting (log_behind file s had waiting bytes a) out)
  file-put view (Ok w) waiting bytes r a next_a out next e put left = file-opened waiting (view w) bytes r a next_a out next e put left
  file-put view (Err error) waiting bytes r a next_a out next e put left = file-stopped waiting bytes r a out error e put

  pub file-unopened : (waiting : List WaitingValue) (bytes : List ℕ) (a : Along) (out : List ℕ) (error : course_errors.CourseError) → Refuses course_fault.meant error (course_at a.logs waiting bytes)
      → Refuses meant (course_error_at file error) (with_waiting (log_behind file s had waiting bytes a) out)
  file-unopened waiting bytes a out course_error.Memory e = tt
  file-unopened waiting bytes a out (course_error.Fault fault) e = rw e refl

-- ---- files

file_further : {F : Type 0} (r : Result (Going × List WaitingValue) F) (rest : List WaitingValue → Along → Result Going F) (out next : List ℕ) (mid : Along) (left : List WaitingValue) → with_waiting r out ≡ Ok ((next, mid), left)
    → with_going (r >>= λ x. rest x.1 x.0.1 >>= λ y. Ok (x.0.0 ++ y.0, y.1)) out ≡ with_going (rest left mid) next
file_further (Err fault) rest out next mid left e = cc
file_further {F} (Ok x) rest out next mid left e =
    let both : ◌≡◌ {A = (List ℕ × Along) × List WaitingValue} ((out ++ written x.0.0, x.0.1), x.1) ((next, mid), left) = same_told ((out ++ written x.0.0, x.0.1), x.1) ((next, mid), left) e in
    rw (sym (ap (λ (p : (List ℕ × Along) × List WaitingValue). p.0.0) both), sym (ap (λ (p : (List ℕ × Along) × List WaitingValue). p.0.1) both), sym (ap (λ (p : (List ℕ × Along) × List WaitingValue). p.1) both)) (by (rest x.1 x.0.1))
  where
    by : (r : Result Going F) → with_going (r >>= λ y. Ok (x.0.0 ++ y.0, y.1)) out ≡ with_going r (out ++ written x.0.0)
    by (Err fault) = refl
    by (Ok y) = ap (λ (b : List ℕ). Ok (b, y.1)) (put_both out x.0.0 y.0)

file_wrong : {F : Type 0} (r : Result (Going × List WaitingValue) F) (rest : List WaitingValue → Along → Result Going F) (out : List ℕ) (fault : F) → with_waiting r out ≡ Err fault
    → with_going (r >>= λ x. rest x.1 x.0.1 >>= λ y. Ok (x.0.0 ++ y.0, y.1)) out ≡ Err fault
file_wrong (Err other) rest out fault e = cc
file_wrong (Ok x) rest out fault e = cc

module _ (s : SourceTables) (had : List Stage) where
  files-further : (file : ℕ) (waiting left : List WaitingValue) (bytes : List ℕ) (logs : List (List ℕ)) (a next_a : Along) (out next : List ℕ) (all : Gone) → with_waiting (log_behind file s had waiting bytes a) out ≡ Ok ((next, next_a), left)
      → with_going (logs_behind file s had waiting (bytes ∷ logs) a) out ≡ all → with_going (logs_behind (file + 1) s had left logs next_a) next ≡ all
  unfolding logs_behind
  files-further file waiting left bytes logs a next_a out next all e seen = sym (file_further (log_behind file s had waiting bytes a) (λ w b. logs_behind (file + 1) s had w logs b) out next next_a left e) ∙ seen

  files-wrong : (file : ℕ) (waiting : List WaitingValue) (bytes : List ℕ) (logs : List (List ℕ)) (a : Along) (out : List ℕ) (error : LogsError) (all : Gone) → Refuses meant error (with_waiting (log_behind file s had waiting bytes a) out)
      → with_going (logs_behind file s had waiting (bytes ∷ logs) a) out ≡ all → Refuses meant error all
  unfolding logs_behind
  files-wrong file waiting bytes logs a out logs_error.Memory all e seen = tt
  files-wrong file waiting bytes logs a out (logs_error.Fault fault) all e seen = sym seen ∙ file_wrong (log_behind file s had waiting bytes a) (λ w b. logs_behind (file + 1) s had w logs b) out fault e

  files-end : (file : ℕ) (waiting : List WaitingValue) (a : Along) (out : List ℕ) (all : Gone) (u : Unit {0}) → none_waits file waiting ≡ Ok u → with_going (logs_behind file s had waiting [] a) out ≡ all → all ≡ Ok (out, a)
  unfolding logs_behind
  files-end file waiting a out all u none seen = sym seen ∙ rw none (ap (λ (b : List ℕ). Ok (b, a)) (append-nil out))

  files-waited : (file : ℕ) (waiting : List WaitingValue) (a : Along) (out : List ℕ) (all : Gone) (error : LogsError) → Refuses meant error (none_waits file waiting) → with_going (logs_behind file s had waiting [] a) out ≡ all → Refuses meant error all
  unfolding logs_behind
  files-waited file waiting a out all logs_error.Memory wrong seen = tt
  files-waited file waiting a out all (logs_error.Fault fault) wrong seen = sym seen ∙ rw wrong refl

  -- of a list of the program
  pub files-on : {B : Type 0} (view : B → List ℕ) (logs : List B) (i : ℕ) (waiting left : List WaitingValue) (a next_a : Along) (out next : List ℕ) (all : Gone) (d : B) → i < length logs
      → with_waiting (log_behind i s had waiting (view (get_or logs i d)) a) out ≡ Ok ((next, next_a), left) → with_going (logs_behind i s had waiting (map view (drop i logs)) a) out ≡ all
      → with_going (logs_behind (i + 1) s had left (map view (drop (i + 1) logs)) next_a) next ≡ all
  files-on view logs i waiting left a next_a out next all d less e seen =
      files-further i waiting left (view (get_or logs i d)) (map view (drop (i + 1) logs)) a next_a out next all e (sym (at_drop_more (λ bs. with_going (logs_behind i s had waiting (map view bs) a) out) logs i d less) ∙ seen)

  pub files-refused : {B : Type 0} (view : B → List ℕ) (logs : List B) (i : ℕ) (waiting : List WaitingValue) (a : Along) (out : List ℕ) (all : Gone) (d : B) (error : LogsError) → i < length logs
      → Refuses meant error (with_waiting (log_behind i s had waiting (view (get_or logs i d)) a) out) → with_going (logs_behind i s had waiting (map view (drop i logs)) a) out ≡ all → Refuses meant error all
  files-refused view logs i waiting a out all d error less e seen =
      files-wrong i waiting (view (get_or logs i d)) (map view (drop (i + 1) logs)) a out error all e (sym (at_drop_more (λ bs. with_going (logs_behind i s had waiting (map view bs) a) out) logs i d less) ∙ seen)

  pub files-done : {B : Type 0} (view : B → List ℕ) (logs : List B) (i n : ℕ) (waiting : List WaitingValue) (a : Along) (out : List ℕ) (all : Gone) (answer : Result (Unit {0}) LogsError) → length logs ≤ i → i ≤ length logs → n ≡ length logs
      → GivesUnless meant (λ x. x) answer (none_waits n waiting) → with_going (logs_behind i s had waiting (map view (drop i logs)) a) out ≡ all → GivesUnless meant (λ _. (out, a)) answer all
  files-done {B} view logs i n waiting a out all answer le no_more is none seen = by answer none
    where
      same : n ≡ i
      same = omega (arith, le, no_more, is)

      end : with_going (logs_behind i s had waiting [] a) out ≡ all
      end = sym (at_drop_all (λ bs. with_going (logs_behind i s had waiting (map view bs) a) out) logs i le) ∙ seen

      by : (r : Result (Unit {0}) LogsError) → GivesUnless meant (λ x. x) r (none_waits n waiting) → GivesUnless meant (λ _. (out, a)) r all
      by (Ok u) h = files-end i waiting a out all u (ap (λ (k : ℕ). none_waits k waiting) (sym same) ∙ h) end
      by (Err error) h = files-waited i waiting a out all error (subst (λ (k : ℕ). Refuses meant error (none_waits k waiting)) same h) end

  -- ---- the end

  abbrev Whole : Type 0
  Whole = Result (List (List EventValue)) LogsFault

  pub end_is : (logs : List (List ℕ)) (a next_a : Along) (out : List ℕ) → with_going (logs_behind 0 s had [] logs a) [] ≡ Ok (out, next_a) → bytes_told (behind_told s had a logs) ≡ of_tell (length logs) (last_with (last_told s next_a.far) out)
  end_is logs a next_a out e = by (logs_behind 0 s had [] logs a) e
    where
      ends : (x : Going) (r : Result (List (List EventValue)) TellFault) → bytes_told (of_tell (length logs) r >>= λ last. Ok (x.0 ++ last)) ≡ of_tell (length logs) (last_with r (written x.0))
      ends x (Err fault) = refl
      ends x (Ok last) = ap (λ (b : List ℕ). Ok b) (written_both x.0 last)

      by : (r : Result Going LogsFault) → with_going r [] ≡ Ok (out, next_a) → bytes_told (r >>= λ x. of_tell (length logs) (last_told s x.1.far) >>= λ last. Ok (x.0 ++ last)) ≡ of_tell (length logs) (last_with (last_told s next_a.far) out)
      by (Err fault) h = cc
      by (Ok x) h =
          let both : ◌≡◌ {A = List ℕ × Along} (written x.0, x.1) (out, next_a) = same_told (written x.0, x.1) (out, next_a) h in
          ends x (last_told s x.1.far) ∙ ap (λ (p : List ℕ × Along). of_tell (length logs) (last_with (last_told s p.1.far) p.0)) both

  all_is : (logs : List (List ℕ)) (a next_a : Along) (n : ℕ) (out : List ℕ) → n ≡ length logs → with_going (logs_behind 0 s had [] logs a) [] ≡ Ok (out, next_a) → bytes_told (behind_told s had a logs) ≡ of_tell n (last_with (last_told s next_a.far) out)
  all_is logs a next_a n out many e = end_is logs a next_a out e ∙ ap (λ (k : ℕ). of_tell k (last_with (last_told s next_a.far) out)) (sym many)

  pub behind-put : {X : Type 0} (view : X → List ℕ) (answer : Result X LogsError) (logs : List (List ℕ)) (a next_a : Along) (n : ℕ) (out : List ℕ) → n ≡ length logs
      → with_going (logs_behind 0 s had [] logs a) [] ≡ Ok (out, next_a) → GivesUnless meant view answer (of_tell n (last_with (last_told s next_a.far) out)) → GivesUnless meant view answer (bytes_told (behind_told s had a logs))
  behind-put view (Ok x) logs a next_a n out many e put = all_is logs a next_a n out many e ∙ put
  behind-put view (Err logs_error.Memory) logs a next_a n out many e put = tt
  behind-put view (Err (logs_error.Fault fault)) logs a next_a n out many e put = all_is logs a next_a n out many e ∙ put

-- ---- the feed and the logs together

pub feed-stopped : {A : Type 0} (fault : FeedFault) (r : Result A FeedFault) (next : A → Result (List ℕ) BehindFault) → Refuses meant_of fault r → Refuses behind_meant (feed_error fault) (of_feed r >>= next)
feed-stopped feed_fault.Memory r next e = tt
feed-stopped fault r next e = rw e refl

pub logs-stopped : {A : Type 0} (error : LogsError) (r : Result A LogsFault) (next : A → Result (List ℕ) BehindFault) → Refuses meant error r → Refuses behind_meant (error_of error) (of_logs r >>= next)
logs-stopped logs_error.Memory r next e = tt
logs-stopped (logs_error.Fault fault) r next e = rw e refl

module _ (s : SourceTables) (feed : List ℕ) (logs : List (List ℕ)) where
  pub end-refused : (fault : FeedFault) → Refuses meant_of fault (feed_end s feed) → Refuses behind_meant (feed_error fault) (behind_of_logs s feed logs)
  unfolding behind_of_logs
  end-refused fault e = feed-stopped fault (feed_end s feed) _ e

  pub begin-refused : (reached : List Interval) (error : LogsError) → feed_end s feed ≡ Ok reached → Refuses meant error (begun reached logs) → Refuses behind_meant (error_of error) (behind_of_logs s feed logs)
  unfolding behind_of_logs
  begin-refused reached error end e = rw end (logs-stopped error (begun reached logs) _ e)

  pub said-refused : (reached first : List Interval) (fault : FeedFault) → feed_end s feed ≡ Ok reached → begun reached logs ≡ Ok first → Refuses meant_of fault (feed_said s (unsaid first) feed) → Refuses behind_meant (feed_error fault) (behind_of_logs s feed logs)
  unfolding behind_of_logs
  said-refused reached first fault end begin e = rw (end, begin) (feed-stopped fault (feed_said s (unsaid first) feed) _ e)

  whole_is : (reached first : List Interval) (had : List Stage) → feed_end s feed ≡ Ok reached → begun reached logs ≡ Ok first → feed_said s (unsaid first) feed ≡ Ok had
      → behind_of_logs s feed logs ≡ of_logs (bytes_behind s feed had (along_of reached first had) logs)
  unfolding behind_of_logs
  whole_is reached first had end begin said = rw (end, begin, said) refl

  pub bytes-given : (reached first : List Interval) (had : List Stage) (more : List ℕ) → feed_end s feed ≡ Ok reached → begun reached logs ≡ Ok first → feed_said s (unsaid first) feed ≡ Ok had
      → bytes_behind s feed had (along_of reached first had) logs ≡ Ok more → behind_of_logs s feed logs ≡ Ok more
  bytes-given reached first had more end begin said e = whole_is reached first had end begin said ∙ ap (λ (r : Result (List ℕ) LogsFault). of_logs r) e

  pub bytes-refused : (reached first : List Interval) (had : List Stage) (error : LogsError) → feed_end s feed ≡ Ok reached → begun reached logs ≡ Ok first → feed_said s (unsaid first) feed ≡ Ok had
      → Refuses meant error (bytes_behind s feed had (along_of reached first had) logs) → Refuses behind_meant (error_of error) (behind_of_logs s feed logs)
  bytes-refused reached first had logs_error.Memory end begin said e = tt
  bytes-refused reached first had (logs_error.Fault fault) end begin said e = whole_is reached first had end begin said ∙ ap (λ (r : Result (List ℕ) LogsFault). of_logs r) e
