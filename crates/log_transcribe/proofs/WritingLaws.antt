-- Messages put behind bytes, one transaction and one file further.
use Rattle.std.proofs.Common.{◌≡◌, ℕ, suc, ◌+◌, ◌<◌, ◌≤◌, ◌^◌, Bool, true, false, nat_lt, List, [], ◌∷◌, ◌++◌, length, map, drop, get_or, Option, None, Some, Result, Ok, Err, refl, sym, ap, subst, ◌∙◌, arith, append_assoc}
use Rattle.std.proofs.lemmas.Bool.{cond-true, cond-false, lt-ltb, le-ltb}
use Rattle.std.proofs.lemmas.List.{append-nil, map-append, at_drop_more, at_drop_all}
use Rattle.std.proofs.lemmas.List.Concat.{flat_map-append}
use Rattle.std.specs.Prelude.{IfOk}
use Rattle.list_laws.specs.Outcome.{◌>>=◌, Refuses, GivesUnless}
use Rattle.item_readers.specs.Reading.{Reading}
use Rattle.gtid_set.specs.declared.interval.Interval.{Interval}
use Rattle.vevent.specs.EventValue.{EventValue, Begin, Commit}
use Rattle.vevent.specs.WrittenEvent.{written_event}
use Rattle.event_laws.specs.WrittenMessages.{written_response, framed, written_messages}
use Rattle.log_groups.specs.Group.{WaitingValue}
use Rattle.log_course.specs.declared.fault.CourseFault.{CourseFault}
use Rattle.log_course.specs.declared.fault.CourseError as course_errors
use Rattle.log_course.specs.declared.fault.CourseError.TheVariants as course_error
use Rattle.log_course.specs.Fault as course_fault
use Rattle.log_course.specs.Course.{PlacedValue, CourseRead, course_at}
use Rattle.log_course.specs.Calls.{CourseValue, NextPlaced}
use Rattle.log_feed.specs.declared.fault.ChangeFault.{ChangeFault}
use Rattle.log_feed.specs.declared.fault.ChangeError as change_errors
use Rattle.log_feed.specs.declared.fault.ChangeError.TheVariants as change_error
use Rattle.log_feed.specs.Fault as changes
use Rattle.log_feed.specs.declared.table.Stage.{Stage}
use Rattle.log_feed.specs.Group.{Told, in_bytes, group_of, told_of_all, with_told}
use Rattle.log_laws.specs.declared.fault.TellFault.{TellFault}
use Rattle.log_laws.specs.declared.fault.TellFault.TheVariants as tell_fault
use Rattle.log_laws.specs.Source.{SourceTables}
use Rattle.log_laws.specs.Transcript.{Far, Messages, of_changes, place_told, messages_with, has_events, group_told, groups_told, last_by, last_told, written}
use Rattle.log_transcribe.specs.declared.fault.LogsFault.{LogsFault}
use Rattle.log_transcribe.specs.declared.fault.LogsFault.TheVariants.{Tell, TooLong}
use Rattle.log_transcribe.specs.declared.fault.LogsError.{LogsError}
use Rattle.log_transcribe.specs.declared.fault.LogsError.TheVariants as logs_error
use Rattle.log_transcribe.specs.declared.fault.TellError.{TellError}
use Rattle.log_transcribe.specs.declared.fault.TellError.TheVariants as tell_error
use Rattle.log_transcribe.specs.Fault.{meant, of_course, of_tell}
use Rattle.log_transcribe.specs.Transcript.{up_to, course_told, log_told, none_waits, logs_told, nothing_told, feed_told, short_feed, feed_of_logs}
use Rattle.log_transcribe.specs.Private.Bytes.{tell_meant, course_error_at, change_error_at, tell_error_at, event_bytes, transaction_bytes, events_put, last_put, with_messages, with_waiting, last_with, bytes_told, PutsNext}

-- ---- messages one behind another

pub written_both : (one more : List (List EventValue)) → written (one ++ more) ≡ written one ++ written more
written_both one more =
    ap (λ (ms : List (List (List ℕ))). written_messages ms) (map-append in_bytes one more) ∙ flat_map-append (λ (events : List (List ℕ)). framed (written_response events)) (map in_bytes one) (map in_bytes more)

pub put_both : (out : List ℕ) (one more : List (List EventValue)) → out ++ written (one ++ more) ≡ (out ++ written one) ++ written more
put_both out one more = ap (λ (b : List ℕ). out ++ b) (written_both one more) ∙ sym (append_assoc out (written one) (written more))

pub same_told : {A F : Type 0} (x y : A) → ◌≡◌ {A = Result A F} (Ok x) (Ok y) → x ≡ y
same_told x y e = cc

-- ---- a transaction

transaction_is : (events : List EventValue) (place : EventValue) → transaction_bytes (in_bytes events) (written_event place) ≡ framed (written_response (in_bytes (Begin ∷ (events ++ (place ∷ Commit ∷ [])))))
transaction_is events place = ap (λ (es : List (List ℕ)). framed (written_response (written_event Begin ∷ es))) (sym (map-append written_event events (place ∷ Commit ∷ [])))

-- what is put of events is what is told
put_told : (keyspace shard schema : List ℕ) (s : SourceTables) (position : List Interval) (events : List EventValue) (out : List ℕ) → s.keyspace ≡ keyspace → s.shard ≡ shard
    → events_put keyspace shard position (in_bytes events) out ≡ ◌>>=◌ {B = List ℕ × Bool} (messages_with s position events) (λ messages. Ok (out ++ written messages, has_events events))
put_told keyspace shard schema s position [] out k h = ap (λ (b : List ℕ). Ok (b, false)) (sym (append-nil out))
put_told keyspace shard schema s position (e ∷ events) out k h = rw (k, h) (by (place_told keyspace shard position))
  where
    by : (r : Result EventValue TellFault) → ◌>>=◌ {B = List ℕ × Bool} (event_bytes r) (λ place. Ok (out ++ transaction_bytes (in_bytes (e ∷ events)) place, true))
        ≡ ◌>>=◌ {B = List ℕ × Bool} (r >>= λ place. Ok (group_of (e ∷ events) place ∷ [])) (λ messages. Ok (out ++ written messages, true))
    by (Err fault) = refl
    by (Ok place) =
        ap (λ (b : List ℕ). Ok (out ++ b, true)) (transaction_is (e ∷ events) place ∙ sym (append-nil (framed (written_response (in_bytes (Begin ∷ ((e ∷ events) ++ (place ∷ Commit ∷ []))))))))

abbrev Putting : Type 0
Putting = Result (List ℕ × Far) LogsFault

-- what is put, and the stages, are those of what is told
record ArePut (file : ℕ) (s : SourceTables) (g : PlacedValue) (far : Far) (out : List ℕ) (bytes : List (List ℕ)) (stages : List Stage) : Type 0 where
  told : Told
  is : told_of_all s.schema s.tables g.changes far.stages ≡ Ok told
  events : bytes ≡ in_bytes told.0
  behind : stages ≡ told.1

are_put : (file : ℕ) (s : SourceTables) (g : PlacedValue) (far : Far) (out : List ℕ) (bytes : List (List ℕ)) (stages : List Stage) (r : Result Told ChangeFault) → told_of_all s.schema s.tables g.changes far.stages ≡ r → with_told r [] ≡ Ok (bytes, stages)
    → ArePut file s g far out bytes stages
are_put file s g far out bytes stages (Err fault) is e = cc
are_put file s g far out bytes stages (Ok x) is e =
    let both : ◌≡◌ {A = List (List ℕ) × List Stage} (in_bytes x.0, x.1) (bytes, stages) = same_told (in_bytes x.0, x.1) (bytes, stages) e in
    record { told = x; is = is; events = sym (ap (λ (p : List (List ℕ) × List Stage). p.0) both); behind = sym (ap (λ (p : List (List ℕ) × List Stage). p.1) both) }

module _ (file : ℕ) (s : SourceTables) (g : PlacedValue) (far : Far) (out : List ℕ) where
  abbrev of_events : Result (List (List EventValue)) TellFault → Told → Result (List ℕ × Bool) TellFault
  of_events r x = r >>= λ messages. Ok (out ++ written messages, has_events x.0)

  -- what is put of what is told of the changes
  abbrev of_told : Result Told ChangeFault → Putting
  of_told r = with_messages (of_tell file (of_changes r >>= λ x. messages_with s g.position x.0 >>= λ messages. Ok (messages, record { reached = g.position; stages = x.1; said = has_events x.0 }))) out

  put_so : (x : Told) (r : Result (List (List EventValue)) TellFault) (next : List ℕ) (said : Bool) → of_events r x ≡ Ok (next, said)
      → with_messages {A = Far} (of_tell file (r >>= λ messages. Ok (messages, record { reached = g.position; stages = x.1; said = has_events x.0 }))) out ≡ Ok (next, record { reached = g.position; stages = x.1; said = said })
  put_so x (Err fault) next said e = cc
  put_so x (Ok messages) next said e =
      let both : ◌≡◌ {A = List ℕ × Bool} (out ++ written messages, has_events x.0) (next, said) = same_told (out ++ written messages, has_events x.0) (next, said) e in
      ap (λ (p : List ℕ × Bool). Ok (p.0, record { reached = g.position; stages = x.1; said = p.1 })) both

  put_not : (x : Told) (r : Result (List (List EventValue)) TellFault) (fault : TellFault) → of_events r x ≡ Err fault
      → with_messages {A = Far} (of_tell file (r >>= λ messages. Ok (messages, record { reached = g.position; stages = x.1; said = has_events x.0 }))) out ≡ Err (Tell file fault)
  put_not x (Err other) fault e = let same : other ≡ fault = cc in ap (λ (f : TellFault). Err (Tell file f)) same
  put_not x (Ok messages) fault e = cc

  pub group-put : (bytes : List (List ℕ)) (stages : List Stage) (next : List ℕ) (said : Bool) → with_told (told_of_all s.schema s.tables g.changes far.stages) [] ≡ Ok (bytes, stages)
      → events_put s.keyspace s.shard g.position bytes out ≡ Ok (next, said) → with_messages (of_tell file (group_told s g far)) out ≡ Ok (next, record { reached = g.position; stages = stages; said = said })
  group-put bytes stages next said told put =
      let a : ArePut file s g far out bytes stages = are_put file s g far out bytes stages (told_of_all s.schema s.tables g.changes far.stages) refl told in
      let e : of_events (messages_with s g.position a.told.0) a.told ≡ Ok (next, said) =
      sym (put_told s.keyspace s.shard s.schema s g.position a.told.0 out refl refl) ∙ ap (λ (es : List (List ℕ)). events_put s.keyspace s.shard g.position es out) (sym a.events) ∙ put in
      ap of_told a.is ∙ put_so a.told (messages_with s g.position a.told.0) next said e
      ∙ ap (λ (ss : List Stage). Ok (next, record { reached = g.position; stages = ss; said = said })) (sym a.behind)

  pub group-unput : (bytes : List (List ℕ)) (stages : List Stage) (error : TellError) → with_told (told_of_all s.schema s.tables g.changes far.stages) [] ≡ Ok (bytes, stages)
      → Refuses tell_meant error (events_put s.keyspace s.shard g.position bytes out) → Refuses meant (tell_error_at file error) (with_messages (of_tell file (group_told s g far)) out)
  group-unput bytes stages tell_error.Memory told put = tt
  group-unput bytes stages (tell_error.Is fault) told put =
      let a : ArePut file s g far out bytes stages = are_put file s g far out bytes stages (told_of_all s.schema s.tables g.changes far.stages) refl told in
      let e : of_events (messages_with s g.position a.told.0) a.told ≡ Err fault =
      sym (put_told s.keyspace s.shard s.schema s g.position a.told.0 out refl refl) ∙ ap (λ (es : List (List ℕ)). events_put s.keyspace s.shard g.position es out) (sym a.events) ∙ put in
      ap of_told a.is ∙ put_not a.told (messages_with s g.position a.told.0) fault e

  pub group-untold : (error : change_errors.ChangeError) → Refuses changes.meant error (with_told (told_of_all s.schema s.tables g.changes far.stages) []) → Refuses meant (change_error_at file error) (with_messages (of_tell file (group_told s g far)) out)
  group-untold change_error.Memory e = tt
  group-untold (change_error.Fault fault) e = by (told_of_all s.schema s.tables g.changes far.stages) refl e
    where
      by : (r : Result Told ChangeFault) → told_of_all s.schema s.tables g.changes far.stages ≡ r → with_told r [] ≡ Err fault → with_messages (of_tell file (group_told s g far)) out ≡ Err (Tell file (tell_fault.Change fault))
      by (Err other) is e = let same : other ≡ fault = cc in ap of_told is ∙ ap (λ (f : ChangeFault). Err (Tell file (tell_fault.Change f))) same
      by (Ok x) is e = cc

-- ---- transactions of a file

further : {F : Type 0} (r : Result Messages F) (rest : Far → Result Messages F) (out next : List ℕ) (mid : Far) → with_messages r out ≡ Ok (next, mid)
    → with_messages (r >>= λ x. rest x.1 >>= λ y. Ok (x.0 ++ y.0, y.1)) out ≡ with_messages (rest mid) next
further (Err fault) rest out next mid e = cc
further {F} (Ok x) rest out next mid e =
    let both : ◌≡◌ {A = List ℕ × Far} (out ++ written x.0, x.1) (next, mid) = same_told (out ++ written x.0, x.1) (next, mid) e in
    rw (sym (ap (λ (p : List ℕ × Far). p.0) both), sym (ap (λ (p : List ℕ × Far). p.1) both)) (by (rest x.1))
  where
    by : (r : Result Messages F) → with_messages (r >>= λ y. Ok (x.0 ++ y.0, y.1)) out ≡ with_messages r (out ++ written x.0)
    by (Err fault) = refl
    by (Ok y) = ap (λ (b : List ℕ). Ok (b, y.1)) (put_both out x.0 y.0)

wrong : {F : Type 0} (r : Result Messages F) (rest : Far → Result Messages F) (out : List ℕ) (fault : F) → with_messages r out ≡ Err fault → with_messages (r >>= λ x. rest x.1 >>= λ y. Ok (x.0 ++ y.0, y.1)) out ≡ Err fault
wrong (Err other) rest out fault e = cc
wrong (Ok x) rest out fault e = cc

module _ (file : ℕ) (s : SourceTables) where
  -- the first transaction apart from the others
  course_on : (g : PlacedValue) (items : List PlacedValue) (fault : Option CourseFault) (far : Far) → course_told file s (record { items = g ∷ items; fault = fault }) far
      ≡ of_tell file (group_told s g far) >>= λ x. course_told file s (record { items = items; fault = fault }) x.1 >>= λ y. Ok (x.0 ++ y.0, y.1)
  unfolding groups_told
  course_on g items fault far = by (group_told s g far)
    where
      ends : (x : Messages) (end : Option CourseFault) (y : Messages) → up_to file end (x.0 ++ y.0, y.1) ≡ up_to file end y >>= λ y. Ok (x.0 ++ y.0, y.1)
      ends x None y = refl
      ends x (Some f) y = refl

      others : (x : Messages) (r : Result Messages TellFault) → of_tell file (r >>= λ y. Ok (x.0 ++ y.0, y.1)) >>= (λ z. up_to file fault z) ≡ (of_tell file r >>= λ z. up_to file fault z) >>= λ y. Ok (x.0 ++ y.0, y.1)
      others x (Err f) = refl
      others x (Ok y) = ends x fault y

      by : (r : Result Messages TellFault) → of_tell file (r >>= λ x. groups_told s items x.1 >>= λ y. Ok (x.0 ++ y.0, y.1)) >>= (λ z. up_to file fault z)
          ≡ of_tell file r >>= λ x. (of_tell file (groups_told s items x.1) >>= λ z. up_to file fault z) >>= λ y. Ok (x.0 ++ y.0, y.1)
      by (Err f) = refl
      by (Ok x) = others x (groups_told s items x.1)

  course_split : (old new : Reading PlacedValue CourseFault) (g : PlacedValue) (far : Far) → old.items ≡ g ∷ new.items → old.fault ≡ new.fault
      → course_told file s old far ≡ of_tell file (group_told s g far) >>= λ x. course_told file s new x.1 >>= λ y. Ok (x.0 ++ y.0, y.1)
  course_split old new g far items fault = rw (items, fault) (course_on g new.items new.fault far)

  pub next-put : {U : Type 0} (old new : CourseValue) (g : PlacedValue) (answer : Result U LogsError) (far next_far : Far) (out next : List ℕ) → NextPlaced old (Ok (Some g)) new
      → GivesUnless meant (λ x. (next, next_far)) answer (with_messages (of_tell file (group_told s g far)) out) → PutsNext file s old.groups (answer >>= λ _. Ok true) new.groups far next_far out next
  next-put old new g (Ok x) far next_far out next front e = (
    ap (λ (r : Result Messages LogsFault). with_messages r out) (course_split old.groups new.groups g far front.0 front.1) ∙ further (of_tell file (group_told s g far)) (λ f. course_told file s new.groups f) out next next_far e,
    (let longer : length old.groups.items ≡ suc (length new.groups.items) = ap length front.0 in omega (arith, longer)),
  )
  next-put old new g (Err logs_error.Memory) far next_far out next front e = tt
  next-put old new g (Err (logs_error.Fault fault)) far next_far out next front e =
      ap (λ (r : Result Messages LogsFault). with_messages r out) (course_split old.groups new.groups g far front.0 front.1) ∙ wrong (of_tell file (group_told s g far)) (λ f. course_told file s new.groups f) out fault e

  course_ends : (old : Reading PlacedValue CourseFault) (far : Far) (end : Option CourseFault) → old.items ≡ [] → old.fault ≡ end → course_told file s old far ≡ up_to file end ([], far)
  unfolding groups_told
  course_ends old far end none is = rw (none, is) refl

  pub none-put : (old new : CourseValue) (far : Far) (out : List ℕ) → NextPlaced old (Ok None) new → with_messages (course_told file s old.groups far) out ≡ Ok (out, far)
  none-put old new far out last = ap (λ (r : Result Messages LogsFault). with_messages r out) (course_ends old.groups far None last.0 last.1) ∙ ap (λ (b : List ℕ). Ok (b, far)) (append-nil out)

  pub fault-put : (old new : CourseValue) (error : course_errors.CourseError) (far : Far) (out : List ℕ) → NextPlaced old (Err error) new → Refuses meant (course_error_at file error) (with_messages (course_told file s old.groups far) out)
  fault-put old new course_error.Memory far out last = tt
  fault-put old new (course_error.Fault fault) far out last = ap (λ (r : Result Messages LogsFault). with_messages r out) (course_ends old.groups far (Some fault) last.0 last.1)

  -- ---- all of them

  pub loop-end : (old new : Reading PlacedValue CourseFault) (far next_far : Far) (out next : List ℕ) (more : Bool) (all : Putting) → more ≡ false → PutsNext file s old (Ok more) new far next_far out next
      → with_messages (course_told file s old far) out ≡ all → all ≡ Ok (next, next_far)
  loop-end old new far next_far out next true all is e seen = cc
  loop-end old new far next_far out next false all is e seen = sym seen ∙ e

  pub loop-further : (old new : Reading PlacedValue CourseFault) (far next_far : Far) (out next : List ℕ) (more : Bool) (all : Putting) → more ≡ true → PutsNext file s old (Ok more) new far next_far out next
      → with_messages (course_told file s old far) out ≡ all → with_messages (course_told file s new next_far) next ≡ all
  loop-further old new far next_far out next false all is e seen = cc
  loop-further old new far next_far out next true all is e seen = sym e.0 ∙ seen

  pub loop-less : (old new : Reading PlacedValue CourseFault) (far next_far : Far) (out next : List ℕ) (more : Bool) → more ≡ true → PutsNext file s old (Ok more) new far next_far out next → length new.items < length old.items
  loop-less old new far next_far out next false is e = cc
  loop-less old new far next_far out next true is e = e.1

  pub loop-wrong : (old new : Reading PlacedValue CourseFault) (far next_far : Far) (out next : List ℕ) (error : LogsError) (all : Putting) → PutsNext file s old (Err error) new far next_far out next
      → with_messages (course_told file s old far) out ≡ all → Refuses meant error all
  loop-wrong old new far next_far out next logs_error.Memory all e seen = tt
  loop-wrong old new far next_far out next (logs_error.Fault fault) all e seen = sym seen ∙ e

  -- ---- a file

  read_so : (waiting : List WaitingValue) (bytes : List ℕ) (far : Far) (reached : List Interval) (r : Result CourseRead CourseFault) → reached ≡ far.reached → course_at reached waiting bytes ≡ r
      → log_told file s waiting bytes far ≡ of_course file r >>= λ r. course_told file s r.groups far >>= λ x. Ok (x, r.waiting)
  read_so waiting bytes far reached r same e =
      ap (λ (r : Result CourseRead CourseFault). of_course file r >>= λ r. course_told file s r.groups far >>= λ x. Ok (x, r.waiting)) (ap (λ (at_first : List Interval). course_at at_first waiting bytes) (sym same) ∙ e)

  log-opened : (waiting left : List WaitingValue) (bytes : List ℕ) (r : CourseRead) (far next_far : Far) (reached : List Interval) (out next : List ℕ) → reached ≡ far.reached → course_at reached waiting bytes ≡ Ok r
      → with_messages (course_told file s r.groups far) out ≡ Ok (next, next_far) → left ≡ r.waiting → with_waiting (log_told file s waiting bytes far) out ≡ Ok ((next, next_far), left)
  log-opened waiting left bytes r far next_far reached out next same e put is = ap (λ (m : Result (Messages × List WaitingValue) LogsFault). with_waiting m out) (read_so waiting bytes far reached (Ok r) same e) ∙ (rw is (by (course_told file s r.groups far) put))
    where
      by : (m : Result Messages LogsFault) → with_messages m out ≡ Ok (next, next_far) → with_waiting (m >>= λ x. Ok (x, r.waiting)) out ≡ Ok ((next, next_far), r.waiting)
      by (Err fault) h = cc
      by (Ok x) h = ap (λ (p : List ℕ × Far). Ok (p, r.waiting)) (same_told (out ++ written x.0, x.1) (next, next_far) h)

  log-stopped : (waiting : List WaitingValue) (bytes : List ℕ) (r : CourseRead) (far : Far) (reached : List Interval) (out : List ℕ) (error : LogsError) → reached ≡ far.reached → course_at reached waiting bytes ≡ Ok r
      → Refuses meant error (with_messages (course_told file s r.groups far) out) → Refuses meant error (with_waiting (log_told file s waiting bytes far) out)
  log-stopped waiting bytes r far reached out logs_error.Memory same e put = tt
  log-stopped waiting bytes r far reached out (logs_error.Fault fault) same e put = ap (λ (m : Result (Messages × List WaitingValue) LogsFault). with_waiting m out) (read_so waiting bytes far reached (Ok r) same e) ∙ by (course_told file s r.groups far) put
    where
      by : (m : Result Messages LogsFault) → with_messages m out ≡ Err fault → with_waiting (m >>= λ x. Ok (x, r.waiting)) out ≡ Err fault
      by (Err other) h = let same : other ≡ fault = cc in ap (λ (f : LogsFault). Err f) same
      by (Ok x) h = cc

  pub log-put : {W : Type 0} (view : W → List WaitingValue) (answer : Result W LogsError) (waiting : List WaitingValue) (bytes : List ℕ) (r : CourseRead) (far next_far : Far) (reached : List Interval) (out next : List ℕ) → reached ≡ far.reached
      → course_at reached waiting bytes ≡ Ok r → GivesUnless meant (λ _. (next, next_far)) answer (with_messages (course_told file s r.groups far) out) → IfOk answer (λ w. view w ≡ r.waiting)
      → GivesUnless meant (λ w. ((next, next_far), view w)) answer (with_waiting (log_told file s waiting bytes far) out)
  log-put view (Ok w) waiting bytes r far next_far reached out next same e put left = log-opened waiting (view w) bytes r far next_far reached out next same e put left
  log-put view (Err error) waiting bytes r far next_far reached out next same e put left = log-stopped waiting bytes r far reached out error same e put

  pub log-unopened : (waiting : List WaitingValue) (bytes : List ℕ) (far : Far) (reached : List Interval) (out : List ℕ) (error : course_errors.CourseError) → reached ≡ far.reached → Refuses course_fault.meant error (course_at reached waiting bytes)
      → Refuses meant (course_error_at file error) (with_waiting (log_told file s waiting bytes far) out)
  log-unopened waiting bytes far reached out course_error.Memory same e = tt
  log-unopened waiting bytes far reached out (course_error.Fault fault) same e = ap (λ (m : Result (Messages × List WaitingValue) LogsFault). with_waiting m out) (read_so waiting bytes far reached (Err fault) same e)

-- ---- files

file_further : {F : Type 0} (r : Result (Messages × List WaitingValue) F) (rest : List WaitingValue → Far → Result Messages F) (out next : List ℕ) (mid : Far) (left : List WaitingValue) → with_waiting r out ≡ Ok ((next, mid), left)
    → with_messages (r >>= λ x. rest x.1 x.0.1 >>= λ y. Ok (x.0.0 ++ y.0, y.1)) out ≡ with_messages (rest left mid) next
file_further (Err fault) rest out next mid left e = cc
file_further {F} (Ok x) rest out next mid left e =
    let both : ◌≡◌ {A = (List ℕ × Far) × List WaitingValue} ((out ++ written x.0.0, x.0.1), x.1) ((next, mid), left) = same_told ((out ++ written x.0.0, x.0.1), x.1) ((next, mid), left) e in
    rw (sym (ap (λ (p : (List ℕ × Far) × List WaitingValue). p.0.0) both), sym (ap (λ (p : (List ℕ × Far) × List WaitingValue). p.0.1) both), sym (ap (λ (p : (List ℕ × Far) × List WaitingValue). p.1) both)) (by (rest x.1 x.0.1))
  where
    by : (r : Result Messages F) → with_messages (r >>= λ y. Ok (x.0.0 ++ y.0, y.1)) out ≡ with_messages r (out ++ written x.0.0)
    by (Err fault) = refl
    by (Ok y) = ap (λ (b : List ℕ). Ok (b, y.1)) (put_both out x.0.0 y.0)

file_wrong : {F : Type 0} (r : Result (Messages × List WaitingValue) F) (rest : List WaitingValue → Far → Result Messages F) (out : List ℕ) (fault : F) → with_waiting r out ≡ Err fault
    → with_messages (r >>= λ x. rest x.1 x.0.1 >>= λ y. Ok (x.0.0 ++ y.0, y.1)) out ≡ Err fault
file_wrong (Err other) rest out fault e = cc
file_wrong (Ok x) rest out fault e = cc

module _ (s : SourceTables) where
  pub logs-further : (file : ℕ) (waiting left : List WaitingValue) (bytes : List ℕ) (logs : List (List ℕ)) (far next_far : Far) (out next : List ℕ) (all : Putting) → with_waiting (log_told file s waiting bytes far) out ≡ Ok ((next, next_far), left)
      → with_messages (logs_told file s waiting (bytes ∷ logs) far) out ≡ all → with_messages (logs_told (file + 1) s left logs next_far) next ≡ all
  unfolding logs_told
  logs-further file waiting left bytes logs far next_far out next all e seen = sym (file_further (log_told file s waiting bytes far) (λ w f. logs_told (file + 1) s w logs f) out next next_far left e) ∙ seen

  pub logs-wrong : (file : ℕ) (waiting : List WaitingValue) (bytes : List ℕ) (logs : List (List ℕ)) (far : Far) (out : List ℕ) (error : LogsError) (all : Putting) → Refuses meant error (with_waiting (log_told file s waiting bytes far) out)
      → with_messages (logs_told file s waiting (bytes ∷ logs) far) out ≡ all → Refuses meant error all
  unfolding logs_told
  logs-wrong file waiting bytes logs far out logs_error.Memory all e seen = tt
  logs-wrong file waiting bytes logs far out (logs_error.Fault fault) all e seen = sym seen ∙ file_wrong (log_told file s waiting bytes far) (λ w f. logs_told (file + 1) s w logs f) out fault e

  logs-end : (file : ℕ) (waiting : List WaitingValue) (far : Far) (out : List ℕ) (all : Putting) (u : Unit {0}) → none_waits file waiting ≡ Ok u → with_messages (logs_told file s waiting [] far) out ≡ all → all ≡ Ok (out, far)
  unfolding logs_told
  logs-end file waiting far out all u none seen = sym seen ∙ rw none (ap (λ (b : List ℕ). Ok (b, far)) (append-nil out))

  logs-waited : (file : ℕ) (waiting : List WaitingValue) (far : Far) (out : List ℕ) (all : Putting) (error : LogsError) → Refuses meant error (none_waits file waiting) → with_messages (logs_told file s waiting [] far) out ≡ all → Refuses meant error all
  unfolding logs_told
  logs-waited file waiting far out all logs_error.Memory wrong seen = tt
  logs-waited file waiting far out all (logs_error.Fault fault) wrong seen = sym seen ∙ rw wrong refl

  -- of a list of the program
  pub logs-on : {B : Type 0} (view : B → List ℕ) (logs : List B) (i : ℕ) (waiting left : List WaitingValue) (far next_far : Far) (out next : List ℕ) (all : Putting) (d : B) → i < length logs
      → with_waiting (log_told i s waiting (view (get_or logs i d)) far) out ≡ Ok ((next, next_far), left) → with_messages (logs_told i s waiting (map view (drop i logs)) far) out ≡ all
      → with_messages (logs_told (i + 1) s left (map view (drop (i + 1) logs)) next_far) next ≡ all
  logs-on view logs i waiting left far next_far out next all d less e seen =
      logs-further i waiting left (view (get_or logs i d)) (map view (drop (i + 1) logs)) far next_far out next all e (sym (at_drop_more (λ bs. with_messages (logs_told i s waiting (map view bs) far) out) logs i d less) ∙ seen)

  pub logs-refused : {B : Type 0} (view : B → List ℕ) (logs : List B) (i : ℕ) (waiting : List WaitingValue) (far : Far) (out : List ℕ) (all : Putting) (d : B) (error : LogsError) → i < length logs
      → Refuses meant error (with_waiting (log_told i s waiting (view (get_or logs i d)) far) out) → with_messages (logs_told i s waiting (map view (drop i logs)) far) out ≡ all → Refuses meant error all
  logs-refused view logs i waiting far out all d error less e seen =
      logs-wrong i waiting (view (get_or logs i d)) (map view (drop (i + 1) logs)) far out error all e (sym (at_drop_more (λ bs. with_messages (logs_told i s waiting (map view bs) far) out) logs i d less) ∙ seen)

  pub logs-done : {B : Type 0} (view : B → List ℕ) (logs : List B) (i n : ℕ) (waiting : List WaitingValue) (far : Far) (out : List ℕ) (all : Putting) (answer : Result (Unit {0}) LogsError) → length logs ≤ i → i ≤ length logs → n ≡ length logs
      → GivesUnless meant (λ x. x) answer (none_waits n waiting) → with_messages (logs_told i s waiting (map view (drop i logs)) far) out ≡ all → GivesUnless meant (λ _. (out, far)) answer all
  logs-done {B} view logs i n waiting far out all answer le no_more is none seen = by answer none
    where
      same : n ≡ i
      same = omega (arith, le, no_more, is)

      end : with_messages (logs_told i s waiting [] far) out ≡ all
      end = sym (at_drop_all (λ bs. with_messages (logs_told i s waiting (map view bs) far) out) logs i le) ∙ seen

      by : (r : Result (Unit {0}) LogsError) → GivesUnless meant (λ x. x) r (none_waits n waiting) → GivesUnless meant (λ _. (out, far)) r all
      by (Ok u) h = logs-end i waiting far out all u (ap (λ (k : ℕ). none_waits k waiting) (sym same) ∙ h) end
      by (Err error) h = logs-waited i waiting far out all error (subst (λ (k : ℕ). Refuses meant error (none_waits k waiting)) same h) end

-- ---- the end

pub last-put : (s : SourceTables) (reached : List Interval) (said : Bool) (out : List ℕ) → last_put s.keyspace s.shard reached said out ≡ last_with (last_by s reached said) out
last-put s reached true out = ap (λ (b : List ℕ). Ok b) (sym (append-nil out))
last-put s reached false out = by (place_told s.keyspace s.shard reached)
  where
    by : (r : Result EventValue TellFault) → event_bytes r >>= (λ place. Ok (out ++ framed (written_response (place ∷ [])))) ≡ last_with (r >>= λ place. Ok ((place ∷ []) ∷ [])) out
    by (Err fault) = refl
    by (Ok place) = ap (λ (b : List ℕ). Ok (out ++ b)) (sym (append-nil (framed (written_response (written_event place ∷ [])))))

-- the bytes of all messages are those of the files with the last one behind them
pub feed_is : (s : SourceTables) (logs : List (List ℕ)) (out : List ℕ) (far : Far) → with_messages (logs_told 0 s [] logs (nothing_told s)) [] ≡ Ok (out, far) → bytes_told (feed_told s logs) ≡ of_tell (length logs) (last_with (last_told s far) out)
feed_is s logs out far e = by (logs_told 0 s [] logs (nothing_told s)) e
  where
    ends : (x : Messages) (r : Result (List (List EventValue)) TellFault) → bytes_told (of_tell (length logs) r >>= λ last. Ok (x.0 ++ last)) ≡ of_tell (length logs) (last_with r (written x.0))
    ends x (Err fault) = refl
    ends x (Ok last) = ap (λ (b : List ℕ). Ok b) (written_both x.0 last)

    by : (r : Result Messages LogsFault) → with_messages r [] ≡ Ok (out, far) → bytes_told (r >>= λ x. of_tell (length logs) (last_told s x.1) >>= λ last. Ok (x.0 ++ last)) ≡ of_tell (length logs) (last_with (last_told s far) out)
    by (Err fault) h = cc
    by (Ok x) h =
        let both : ◌≡◌ {A = List ℕ × Far} (written x.0, x.1) (out, far) = same_told (written x.0, x.1) (out, far) h in
        ends x (last_told s x.1) ∙ ap (λ (p : List ℕ × Far). of_tell (length logs) (last_with (last_told s p.1) p.0)) both

pub feed-put : {X : Type 0} (view : X → List ℕ) (answer : Result X LogsError) (s : SourceTables) (logs : List (List ℕ)) (n : ℕ) (out : List ℕ) (far : Far) → n ≡ length logs → with_messages (logs_told 0 s [] logs (nothing_told s)) [] ≡ Ok (out, far)
    → GivesUnless meant view answer (of_tell n (last_with (last_told s far) out)) → GivesUnless meant view answer (bytes_told (feed_told s logs))
feed-put view (Ok x) s logs n out far many e put = feed_is s logs out far e ∙ ap (λ (k : ℕ). of_tell k (last_with (last_told s far) out)) (sym many) ∙ put
feed-put view (Err logs_error.Memory) s logs n out far many e put = tt
feed-put view (Err (logs_error.Fault fault)) s logs n out far many e put = feed_is s logs out far e ∙ ap (λ (k : ℕ). of_tell k (last_with (last_told s far) out)) (sym many) ∙ put

-- ---- its length

pub told_so : (r : Result (List (List EventValue)) LogsFault) (feed : List ℕ) → bytes_told r ≡ Ok feed → (messages : List (List EventValue)) × (r ≡ Ok messages) × (written messages ≡ feed)
told_so (Ok messages) feed e = (messages, refl, same_told (written messages) feed e)
told_so (Err fault) feed e = cc

pub feed-given : (s : SourceTables) (logs : List (List ℕ)) (feed : List ℕ) → bytes_told (feed_told s logs) ≡ Ok feed → length feed < 2 ^ 31 → feed_of_logs s logs ≡ Ok feed
unfolding feed_of_logs
feed-given s logs feed e few =
    let told = told_so (feed_told s logs) feed e in
    ap (λ (r : Result (List (List EventValue)) LogsFault). r >>= λ messages. short_feed (length logs) (written messages)) told.1
    ∙ ap (short_feed (length logs)) told.2
    ∙ cond-true (nat_lt (length feed) (2 ^ 31)) (Ok feed) (Err (TooLong (length logs))) (lt-ltb _ _ few)

pub feed-long : (s : SourceTables) (logs : List (List ℕ)) (n : ℕ) (feed : List ℕ) → n ≡ length logs → bytes_told (feed_told s logs) ≡ Ok feed → 2 ^ 31 ≤ length feed → feed_of_logs s logs ≡ Err (TooLong n)
unfolding feed_of_logs
feed-long s logs n feed many e long =
    let told = told_so (feed_told s logs) feed e in
    ap (λ (r : Result (List (List EventValue)) LogsFault). r >>= λ messages. short_feed (length logs) (written messages)) told.1
    ∙ ap (short_feed (length logs)) told.2
    ∙ cond-false (nat_lt (length feed) (2 ^ 31)) (Ok feed) (Err (TooLong (length logs))) (le-ltb _ _ long)
    ∙ ap (λ (k : ℕ). Err (TooLong k)) (sym many)

pub feed-refused : (s : SourceTables) (logs : List (List ℕ)) (error : LogsError) → Refuses meant error (bytes_told (feed_told s logs)) → Refuses meant error (feed_of_logs s logs)
unfolding feed_of_logs
feed-refused s logs logs_error.Memory e = tt
feed-refused s logs (logs_error.Fault fault) e = by (feed_told s logs) e
  where
    by : (r : Result (List (List EventValue)) LogsFault) → bytes_told r ≡ Err fault → r >>= (λ messages. short_feed (length logs) (written messages)) ≡ Err fault
    by (Ok messages) h = cc
    by (Err other) h = let same : other ≡ fault = cc in ap (λ (f : LogsFault). Err f) same
