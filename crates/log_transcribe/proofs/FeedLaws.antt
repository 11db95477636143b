-- The feed of logs has just the groups of their transactions.
use Rattle.std.proofs.Common.{◌≡◌, ℕ, zero, suc, ◌+◌, ◌-◌, ◌<◌, ◌^◌, Bool, true, false, nat_lt, List, [], ◌∷◌, ◌++◌, length, reverse, replicate, get_or, Option, None, Some, Result, Ok, Err, refl, sym, ap, subst, ◌∙◌, arith, append_assoc}
use Rattle.std.proofs.lemmas.Bool.{ltb-true, false≢true}
use Rattle.std.proofs.lemmas.List.{append-nil, reverse-append}
use Rattle.std.proofs.lemmas.List.Concat.{flat_map-append}
use Rattle.std.specs.List.{AllByRecursion}
use Rattle.list_laws.proofs.Fronts.{All-append}
use Rattle.list_laws.specs.Outcome.{◌>>=◌}
use Rattle.gtid_set.specs.declared.interval.Interval.{Interval}
use Rattle.gtid_set.specs.Position.{IsCanonical}
use Rattle.vevent.specs.EventValue.{EventValue}
use Rattle.vevent.specs.WrittenEvent.{IsSoundEvent}
use Rattle.source_feed.specs.GroupValue.{GroupValue}
use Rattle.source_feed.specs.SourceValue.{SourceValue}
use Rattle.source_feed.specs.PastEvents.{PastEvents, is_open}
use Rattle.source_feed.specs.Groups.{groups_of, first_fault, groups}
use Rattle.event_laws.specs.Laws.{HaveEvents}
use Rattle.log_groups.specs.declared.fault.GroupFault.TheVariants.{StillPrepared}
use Rattle.log_groups.specs.Group.{WaitingValue, still_waits}
use Rattle.log_course.specs.declared.fault.CourseFault.{CourseFault}
use Rattle.log_course.specs.declared.fault.CourseFault.TheVariants.{Group}
use Rattle.log_course.specs.Course.{PlacedValue, CourseRead, IsCourse, course_at, CoursesAreRead}
use Rattle.log_feed.specs.declared.table.Stage.TheVariants.{Absent, Filled}
use Rattle.log_feed.specs.Group.{told_of_all}
use Rattle.log_laws.specs.declared.fault.TellFault.{TellFault}
use Rattle.log_laws.specs.Source.{SourceTables, IsSource, source_of}
use Rattle.log_laws.specs.Transcript.{Far, Messages, of_changes, messages_with, has_events, group_told, groups_told, last_told, written}
use Rattle.log_laws.specs.Read.{groups_read, last_read, reached_by}
use Rattle.log_laws.specs.Far.{TellsSoFar, AreRising}
use Rattle.log_laws.specs.Laws.{events_in, behind, next_number, TellGroups, ReachesSoFar, TransactionsAreTold, TransactionsReach, EndsAreTold, CoursesRise, MessagesAreRead, FeedsHaveTheirGroups}
use Rattle.log_laws.proofs.Steps.{given, given_if, given_unless, same_value}
use Rattle.log_transcribe.specs.declared.fault.LogsFault.TheVariants.{Course, TooLong}
use Rattle.log_transcribe.specs.Fault.{of_course, of_tell}
use Rattle.log_transcribe.specs.Transcript.{up_to, course_told, log_told, none_waits, logs_told, nothing_told, feed_told, short_feed, feed_of_logs}
use Rattle.log_transcribe.specs.Feed.{HaveTransactions, groups_of_all, IsFeedOfLogs}

-- the laws that it rests on
pub record FeedLaws : Type 0 where
  pub told : TransactionsAreTold
  pub reach : TransactionsReach
  pub ends : EndsAreTold
  pub rise : CoursesRise
  pub read : MessagesAreRead
  pub has : FeedsHaveTheirGroups
  pub courses : CoursesAreRead

-- ---- transactions one behind another

reached_is : (s : SourceTables) (g : PlacedValue) (far : Far) (x : Messages) → group_told s g far ≡ Ok x → x.1.reached ≡ g.position
reached_is s g far x e =
    let told = given (of_changes (told_of_all s.schema s.tables g.changes far.stages)) (λ x. messages_with s g.position x.0 >>= λ messages. Ok (messages, record { reached = g.position; stages = x.1; said = has_events x.0 })) x e in
    let ms = given (messages_with s g.position told.0.0) (λ messages. Ok (messages, record { reached = g.position; stages = told.0.1; said = has_events told.0.0 })) x told.2 in
    let is = same_value (ms.0, record { reached = g.position; stages = told.0.1; said = has_events told.0.0 }) x ms.2 in
    rw (← is) refl

all_reached : (s : SourceTables) (one : List PlacedValue) (old : Far) (x : Messages) → groups_told s one old ≡ Ok x → x.1.reached ≡ reached_by old.reached one
unfolding groups_told
all_reached s [] old x e = rw (← same_value ([], old) x e) refl
all_reached s (g ∷ one) old x e =
    let a = given (group_told s g old) (λ x. groups_told s one x.1 >>= λ y. Ok (x.0 ++ y.0, y.1)) x e in
    let b = given (groups_told s one a.0.1) (λ y. Ok (a.0.0 ++ y.0, y.1)) x a.2 in
    let is = same_value (a.0.0 ++ b.0.0, b.0.1) x b.2 in
    rw (← is) (all_reached s one a.0.1 b.0 b.1 ∙ ap (λ (r : List Interval). reached_by r one) (reached_is s g old a.0 a.1))

told_both : (s : SourceTables) (one more : List PlacedValue) (old : Far) (x y : Messages) → groups_told s one old ≡ Ok x → groups_told s more x.1 ≡ Ok y → groups_told s (one ++ more) old ≡ Ok (x.0 ++ y.0, y.1)
unfolding groups_told
told_both s [] more old x y e f =
    let is = same_value ([], old) x e in
    rw (← is) (let rest = rw (← is) at f in rest)
told_both s (g ∷ one) more old x y e f =
    let a = given (group_told s g old) (λ x. groups_told s one x.1 >>= λ y. Ok (x.0 ++ y.0, y.1)) x e in
    let b = given (groups_told s one a.0.1) (λ y. Ok (a.0.0 ++ y.0, y.1)) x a.2 in
    let is : (a.0.0 ++ b.0.0, b.0.1) ≡ x = same_value (a.0.0 ++ b.0.0, b.0.1) x b.2 in
    let at : groups_told s more b.0.1 ≡ Ok y = ap (λ (m : Messages). groups_told s more m.1) is ∙ f in
    let rest : groups_told s (one ++ more) a.0.1 ≡ Ok (b.0.0 ++ y.0, y.1) = told_both s one more a.0.1 b.0 y b.1 at in
    rw (a.1, rest) (ap (λ (ms : List (List EventValue)). Ok (ms, y.1)) (sym (append_assoc a.0.0 b.0.0 y.0) ∙ ap (λ (m : Messages). m.0 ++ y.0) is))

pub rising_both : (reached : List Interval) (one more : List PlacedValue) → AreRising reached one → AreRising (reached_by reached one) more → AreRising reached (one ++ more)
rising_both reached [] more a b = b
rising_both reached (g ∷ one) more a b = (a.0, rising_both g.position one more a.1 b)

pub canonical_by : (reached : List Interval) (one : List PlacedValue) → IsCanonical reached → AreRising reached one → IsCanonical (reached_by reached one)
canonical_by reached [] c a = c
canonical_by reached (g ∷ one) c a = canonical_by g.position one a.0.canonical a.1

-- ---- files one behind another

record AreRun (s : SourceTables) (waiting : List WaitingValue) (logs : List (List ℕ)) (old : Far) (x : Messages) : Type 0 where
  transactions : List PlacedValue
  have : HaveTransactions old.reached waiting logs transactions
  rising : AreRising old.reached transactions
  told : groups_told s transactions old ≡ Ok x

pub of_course_given : {A : Type 0} (file : ℕ) (r : Result A CourseFault) (x : A) → of_course file r ≡ Ok x → r ≡ Ok x
of_course_given file (Ok y) x e = ap Ok (same_value y x e)
of_course_given file (Err fault) x e = cc

pub of_tell_given : {A : Type 0} (file : ℕ) (r : Result A TellFault) (x : A) → of_tell file r ≡ Ok x → r ≡ Ok x
of_tell_given file (Ok y) x e = ap Ok (same_value y x e)
of_tell_given file (Err fault) x e = cc

-- nothing waits behind the last file
pub no_more : (file : ℕ) (waiting : List WaitingValue) (u : Unit {0}) → none_waits file waiting ≡ Ok u → still_waits waiting ≡ false
no_more file waiting u e = (given_unless (still_waits waiting) (Ok tt) (Course (file - 1) (Group StillPrepared)) u e).0

to_its_end : (file : ℕ) (fault : Option CourseFault) (x y : Messages) → up_to file fault x ≡ Ok y → (fault ≡ None) × (x ≡ y)
to_its_end file None x y e = (refl, same_value x y e)
to_its_end file (Some fault) x y e = cc

logs_run : FeedLaws → (s : SourceTables) (file : ℕ) (waiting : List WaitingValue) (logs : List (List ℕ)) (old : Far) (x : Messages) → IsCanonical old.reached → logs_told file s waiting logs old ≡ Ok x → AreRun s waiting logs old x
unfolding logs_told groups_told
logs_run laws s file waiting [] old x c e =
    let none = given (none_waits file waiting) (λ _. Ok ([], old)) x e in
    record { transactions = []; have = (refl, no_more file waiting none.0 none.1); rising = tt; told = ap Ok (same_value ([], old) x none.2) }
logs_run laws s file waiting (bytes ∷ logs) old x c e =
    let one = given (log_told file s waiting bytes old) (λ x. logs_told (file + 1) s x.1 logs x.0.1 >>= λ y. Ok (x.0.0 ++ y.0, y.1)) x e in
    let others = given (logs_told (file + 1) s one.0.1 logs one.0.0.1) (λ y. Ok (one.0.0.0 ++ y.0, y.1)) x one.2 in
    let is : (one.0.0.0 ++ others.0.0, others.0.1) ≡ x = same_value (one.0.0.0 ++ others.0.0, others.0.1) x others.2 in
    let read = given (of_course file (course_at old.reached waiting bytes)) (λ r. course_told file s r.groups old >>= λ x. Ok (x, r.waiting)) one.0 one.1 in
    let r : CourseRead = read.0 in
    let items : List PlacedValue = r.groups.items in
    let course : course_at old.reached waiting bytes ≡ Ok r = of_course_given file (course_at old.reached waiting bytes) r read.1 in
    let messages = given (course_told file s r.groups old) (λ x. Ok (x, r.waiting)) one.0 read.2 in
    let here : (messages.0, r.waiting) ≡ one.0 = same_value (messages.0, r.waiting) one.0 messages.2 in
    let there = given (of_tell file (groups_told s items old)) (λ x. up_to file r.groups.fault x) messages.0 messages.1 in
    let end = to_its_end file r.groups.fault there.0 messages.0 there.2 in
    let told : groups_told s items old ≡ Ok one.0.0 = of_tell_given file (groups_told s items old) there.0 there.1 ∙ ap Ok (end.1 ∙ ap (λ (p : Messages × List WaitingValue). p.0) here) in
    let left : r.waiting ≡ one.0.1 = ap (λ (p : Messages × List WaitingValue). p.1) here in
    let rising : AreRising old.reached items = laws.rise old.reached waiting bytes r c course in
    let reached : one.0.0.1.reached ≡ reached_by old.reached items = all_reached s items old one.0.0 told in
    let mid : IsCanonical one.0.0.1.reached = subst IsCanonical (sym reached) (canonical_by old.reached items c rising) in
    let rest : AreRun s one.0.1 logs one.0.0.1 others.0 = logs_run laws s (file + 1) one.0.1 logs one.0.0.1 others.0 mid others.1 in
    let is_course : IsCourse old.reached waiting bytes (record { groups = record { items = items; fault = None }; waiting = one.0.1 }) =
    subst (λ (w : List WaitingValue). IsCourse old.reached waiting bytes (record { groups = record { items = items; fault = None }; waiting = w })) left
    (subst (λ (f : Option CourseFault). IsCourse old.reached waiting bytes (record { groups = record { items = items; fault = f }; waiting = r.waiting })) end.0 (laws.courses.spelled old.reached waiting bytes r course)) in
    record {
      transactions = items ++ rest.transactions;
      have = (items, one.0.1, rest.transactions, refl, is_course, subst (λ (at : List Interval). HaveTransactions at one.0.1 logs rest.transactions) reached rest.have);
      rising = rising_both old.reached items rest.transactions rising (subst (λ (at : List Interval). AreRising at rest.transactions) reached rest.rising);
      told = told_both s items rest.transactions old one.0.0 others.0 told rest.told ∙ ap Ok is;
    }

-- ---- the whole feed

absent_at : (n place : ℕ) → get_or (replicate n Absent) place Absent ≡ Absent
absent_at zero place = refl
absent_at (suc n) zero = refl
absent_at (suc n) (suc place) = absent_at n place

pub not_filled : {P : Type 0} → Absent ≡ Filled → P
not_filled e = cc

at_first : (s : SourceTables) → TellsSoFar s [] (nothing_told s)
at_first s = record {
  faultless = refl;
  outside = refl;
  columns = λ name place table here filled. not_filled (sym (absent_at (length s.tables) place) ∙ filled);
  reached = tt;
  positions = tt;
  within = λ uuid number held. held;
  said = λ _. refl;
  unsaid = λ no. absurd (false≢true (sym no));
}

past_is : (xs ys : List (List EventValue)) → behind (behind [] xs) ys ≡ reverse (events_in (xs ++ ys))
past_is xs ys =
    ap (λ (r : PastEvents). reverse (events_in ys) ++ r) (append-nil (reverse (events_in xs)))
    ∙ sym (reverse-append (events_in xs) (events_in ys))
    ∙ ap reverse (sym (flat_map-append (λ (events : List EventValue). events) xs ys))

pub feed_right : FeedLaws → (s : SourceTables) (logs : List (List ℕ)) (feed : List ℕ) → IsSource s → feed_of_logs s logs ≡ Ok feed → IsFeedOfLogs s logs feed
unfolding feed_of_logs
feed_right laws s logs feed right e =
    let source : SourceValue = source_of s in
    let all = given (feed_told s logs) (λ messages. short_feed (length logs) (written messages)) feed e in
    let short = given_if (nat_lt (length (written all.0)) (2 ^ 31)) (Ok (written all.0)) (TooLong (length logs)) feed all.2 in
    let bytes : written all.0 ≡ feed = same_value (written all.0) feed short.1 in
    let x = given (logs_told 0 s [] logs (nothing_told s)) (λ x. of_tell (length logs) (last_told s x.1) >>= λ last. Ok (x.0 ++ last)) all.0 all.1 in
    let last = given (of_tell (length logs) (last_told s x.0.1)) (λ last. Ok (x.0.0 ++ last)) all.0 x.2 in
    let are : x.0.0 ++ last.0 ≡ all.0 = same_value (x.0.0 ++ last.0) all.0 last.2 in
    let last_is : last_told s x.0.1 ≡ Ok last.0 = of_tell_given (length logs) (last_told s x.0.1) last.0 last.1 in
    let run : AreRun s [] logs (nothing_told s) x.0 = logs_run laws s 0 [] logs (nothing_told s) x.0 tt x.1 in
    let read : List GroupValue = groups_read s 1 run.transactions in
    let told : TellGroups s [] read x.0.0 x.0.1 = laws.told s [] run.transactions (nothing_told s) x.0.1 x.0.0 right (at_first s) run.rising run.told in
    let reach : ReachesSoFar s run.transactions (nothing_told s) x.0.1 = laws.reach s [] run.transactions (nothing_told s) x.0.1 x.0.0 right (at_first s) run.rising run.told in
    let past : PastEvents = behind [] x.0.0 in
    let end : TellGroups s past (last_read x.0.1.said x.0.1.reached (next_number s past)) last.0 (record x.0.1 { said = true }) = laws.ends s past x.0.1 last.0 right told.tells last_is in
    let order : behind past last.0 ≡ reverse (events_in all.0) = past_is x.0.0 last.0 ∙ ap (λ (ms : List (List EventValue)). reverse (events_in ms)) are in
    let sound : AllByRecursion IsSoundEvent (events_in all.0) =
    subst (λ (ms : List (List EventValue)). AllByRecursion IsSoundEvent (events_in ms)) are
    (subst (AllByRecursion IsSoundEvent) (sym (flat_map-append (λ (events : List EventValue). events) x.0.0 last.0)) (All-append IsSoundEvent (events_in x.0.0) (events_in last.0) told.sound end.sound)) in
    let few : length (written all.0) < 2 ^ 31 = ltb-true _ _ short.0 in
    let have : HaveEvents (written all.0) (events_in all.0) = laws.read all.0 sound (omega (arith, few)) in
    let faultless : first_fault source (reverse (events_in all.0)) ≡ None = subst (λ (p : PastEvents). first_fault source p ≡ None) order end.tells.faultless in
    let outside : is_open (reverse (events_in all.0)) ≡ false = subst (λ (p : PastEvents). is_open p ≡ false) order end.tells.outside in
    let is_read : groups (written all.0) source ≡ Ok (groups_of source (reverse (events_in all.0))) = laws.has (written all.0) source (events_in all.0) few have faultless outside in
    let number : next_number s past ≡ length read + 1 = ap (λ (gs : List GroupValue). length gs + 1) told.groups in
    let those : groups_of source (reverse (events_in all.0)) ≡ groups_of_all s run.transactions =
    ap (groups_of source) (sym order) ∙ end.groups
    ∙ ap (λ (gs : List GroupValue). gs ++ last_read x.0.1.said x.0.1.reached (next_number s past)) told.groups
    ∙ ap (λ (n : ℕ). read ++ last_read x.0.1.said x.0.1.reached n) number
    ∙ ap (λ (at : List Interval). read ++ last_read x.0.1.said at (length read + 1)) reach.reached
    ∙ ap (λ (said : Bool). read ++ last_read said (reached_by [] run.transactions) (length read + 1)) reach.said in
    record {
      transactions = run.transactions;
      have = run.have;
      read = ap (λ (b : List ℕ). groups b source) (sym bytes) ∙ is_read ∙ ap Ok those;
    }
