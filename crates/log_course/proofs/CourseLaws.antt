-- Groups behind positions, and that the groups that are read are those of the file.
use Rattle.std.proofs.Common.{◌≡◌, ℕ, Bool, List, [], ◌∷◌, Option, None, Some, Result, Ok, Err, refl, sym, ap, ◌∙◌}
use Rattle.list_laws.specs.Outcome.{◌>>=◌}
use Rattle.item_readers.specs.Reading.{Reading}
use Rattle.item_readers.proofs.ReadingLaws.{spells-reading, only_reading}
use Rattle.gtid_set.specs.declared.interval.Interval.{Interval}
use Rattle.log_events.specs.declared.fault.LogFault.{LogFault}
use Rattle.log_events.specs.Log.{LogValue, AnswersLog, log_at}
use Rattle.log_events.proofs.LogLaws.{log_answers, log_only}
use Rattle.log_groups.specs.declared.fault.GroupFault.{GroupFault}
use Rattle.log_groups.specs.declared.fault.GroupError as group_error
use Rattle.log_groups.specs.declared.fault.GroupError.TheVariants as group_errors
use Rattle.log_groups.specs.Step.{steps_of}
use Rattle.log_groups.specs.Transaction.{IsTransaction, NoTransaction, transaction_at, transactions_of}
use Rattle.log_groups.specs.Group.{GroupValue, WaitingValue, GroupsRead, groups_behind}
use Rattle.log_groups.specs.GroupCalls.{GroupsValue, NextGroup}
use Rattle.log_groups.proofs.TransactionLaws.{transaction_reader}
use Rattle.log_places.specs.declared.fault.PlaceFault.{PlaceFault}
use Rattle.log_places.specs.Place.{position_behind}
use Rattle.log_course.specs.declared.fault.CourseFault.{CourseFault}
use Rattle.log_course.specs.declared.fault.CourseError.{CourseError}
use Rattle.log_course.specs.declared.fault.CourseError.TheVariants.{Memory, Fault}
use Rattle.log_course.specs.Fault.{of_log, of_place}
use Rattle.log_course.specs.Course.{PlacedValue, put_placed, placed, end_of, placed_behind, CourseRead, course_behind, course_of, begins, IsCourse, course_at, CoursesAreRead}
use Rattle.log_course.specs.Calls.{CourseValue, NextPlaced, PlacesGroup, EndsSo}

-- ---- groups behind positions

abbrev value_of : List Interval → Bool → GroupsValue → CourseValue
value_of reached in_use u = record { reached = reached; groups = placed_behind reached in_use u.groups.reading; waiting = u.groups.waiting; left = u.left }

placed_there : (reached position : List Interval) (in_use : Bool) (old new : Reading GroupValue GroupFault) (g : GroupValue) → old.items ≡ g ∷ new.items → old.fault ≡ new.fault → position_behind reached g.gtid ≡ Ok position
    → ((placed_behind reached in_use old).items ≡ record { position = position; changes = g.changes } ∷ (placed_behind position in_use new).items) × ((placed_behind reached in_use old).fault ≡ (placed_behind position in_use new).fault)
unfolding placed
placed_there reached position in_use old new g items fault e = rw (items, fault, e) (refl, refl)

placed_wrong : (reached : List Interval) (in_use : Bool) (old new : Reading GroupValue GroupFault) (g : GroupValue) (wrong : CourseFault) → old.items ≡ g ∷ new.items → of_place (position_behind reached g.gtid) ≡ Err wrong
    → ((placed_behind reached in_use old).items ≡ []) × ((placed_behind reached in_use old).fault ≡ Some wrong)
unfolding placed
placed_wrong reached in_use old new g wrong items e = rw items (by_position (position_behind reached g.gtid) e)
  where
    by_position : (r : Result (List Interval) PlaceFault) → of_place r ≡ Err wrong
        → ((put_placed r g.changes (λ position. placed position new.items (end_of in_use old.fault))).items ≡ []) × ((put_placed r g.changes (λ position. placed position new.items (end_of in_use old.fault))).fault ≡ Some wrong)
    by_position (Ok position) h = cc
    by_position (Err fault) h = (refl, cc)

placed_end : (reached : List Interval) (in_use : Bool) (old : Reading GroupValue GroupFault) (end : Option GroupFault) → old.items ≡ [] → old.fault ≡ end
    → ((placed_behind reached in_use old).items ≡ []) × ((placed_behind reached in_use old).fault ≡ end_of in_use end)
unfolding placed
placed_end reached in_use old end none is = rw (none, is) (refl, refl)

-- ---- calls

placed_so : (reached new_reached : List Interval) (in_use : Bool) (old new : GroupsValue) (g : GroupValue) (answer : Result (Option PlacedValue) CourseError)
    → NextGroup old.groups (Ok (Some g)) new.groups → PlacesGroup reached g answer new_reached → NextPlaced (value_of reached in_use old) answer (value_of new_reached in_use new)
placed_so reached new_reached in_use old new g (Ok None) front h = absurd h
placed_so reached new_reached in_use old new g (Ok (Some p)) front (position, changes, same) =
    let there = placed_there reached p.position in_use old.groups.reading new.groups.reading g front.0 front.1 position in
    rw same (rw changes there.0, there.1, refl, front.2)
placed_so reached new_reached in_use old new g (Err Memory) front h = tt
placed_so reached new_reached in_use old new g (Err (Fault wrong)) front h = placed_wrong reached in_use old.groups.reading new.groups.reading g wrong front.0 h

pub group_placed : (reached new_reached : List Interval) (in_use : Bool) (old new : GroupsValue) (g : GroupValue) (answer : Result (Option PlacedValue) CourseError) (all : CourseValue) → value_of reached in_use old ≡ all
    → NextGroup old.groups (Ok (Some g)) new.groups → PlacesGroup reached g answer new_reached → NextPlaced all answer (value_of new_reached in_use new)
group_placed reached new_reached in_use old new g answer all seen front h = rw (sym seen) (placed_so reached new_reached in_use old new g answer front h)

pub groups_end : (reached : List Interval) (in_use : Bool) (old new : GroupsValue) (all : CourseValue) → value_of reached in_use old ≡ all → NextGroup old.groups (Ok None) new.groups → NextPlaced all (Ok None) (value_of reached in_use new)
groups_end reached in_use old new all seen last =
    let end = placed_end reached in_use old.groups.reading None last.0 last.1 in
    rw (sym seen) (end.0, end.1, ap (λ (g : GroupsRead). placed_behind reached in_use g.reading) last.2, refl, ap (λ (g : GroupsRead). g.waiting) last.2)

failed_so : (reached : List Interval) (in_use : Bool) (old new : GroupsValue) (error : group_error.GroupError) (answer : Result (Option PlacedValue) CourseError)
    → NextGroup old.groups (Err error) new.groups → EndsSo in_use error answer → NextPlaced (value_of reached in_use old) answer (value_of reached in_use new)
failed_so reached in_use old new group_errors.Memory answer last ends = rw ends tt
failed_so reached in_use old new (group_errors.Fault fault) (Ok None) last ends =
    let end = placed_end reached in_use old.groups.reading (Some fault) last.0 last.1 in
    (end.0, end.1 ∙ ends, ap (λ (g : GroupsRead). placed_behind reached in_use g.reading) last.2, refl, ap (λ (g : GroupsRead). g.waiting) last.2)
failed_so reached in_use old new (group_errors.Fault fault) (Ok (Some g)) last ends = absurd ends
failed_so reached in_use old new (group_errors.Fault fault) (Err Memory) last ends = absurd ends
failed_so reached in_use old new (group_errors.Fault fault) (Err (Fault f)) last ends =
    let end = placed_end reached in_use old.groups.reading (Some fault) last.0 last.1 in
    (end.0, end.1 ∙ ends)

pub groups_fail : (reached : List Interval) (in_use : Bool) (old new : GroupsValue) (error : group_error.GroupError) (answer : Result (Option PlacedValue) CourseError) (all : CourseValue) → value_of reached in_use old ≡ all
    → NextGroup old.groups (Err error) new.groups → EndsSo in_use error answer → NextPlaced all answer (value_of reached in_use new)
groups_fail reached in_use old new error answer all seen last ends = rw (sym seen) (failed_so reached in_use old new error answer last ends)

-- where no group is to come and no fault, the log has no group any more
pub none_left : (reached : List Interval) (in_use : Bool) (u : GroupsValue) (all : CourseValue) → value_of reached in_use u ≡ all → all.groups.items ≡ [] → all.groups.fault ≡ None → u.groups.reading.items ≡ []
unfolding placed
none_left reached in_use u all seen none faultless = by u.groups.reading.items (ap (λ (v : CourseValue). v.groups.items) seen ∙ none) (ap (λ (v : CourseValue). v.groups.fault) seen ∙ faultless)
  where
    end : Option CourseFault
    end = end_of in_use u.groups.reading.fault

    placed_none : (g : GroupValue) (groups : List GroupValue) (r : Result (List Interval) PlaceFault) → (put_placed r g.changes (λ position. placed position groups end)).items ≡ []
        → (put_placed r g.changes (λ position. placed position groups end)).fault ≡ None → g ∷ groups ≡ []
    placed_none g groups (Ok position) e f = cc
    placed_none g groups (Err fault) e f = cc

    by : (groups : List GroupValue) → (placed reached groups end).items ≡ [] → (placed reached groups end).fault ≡ None → groups ≡ []
    by [] e f = refl
    by (g ∷ groups) e f = placed_none g groups (position_behind reached g.gtid) e f

-- ---- the whole of a file

spelled_by : (reached : List Interval) (waiting : List WaitingValue) (bytes : List ℕ) (r : CourseRead) (read : Result LogValue LogFault) → log_at bytes ≡ read → AnswersLog bytes read
    → of_log read >>= (λ log. begins reached log.events.items log.events.fault >>= λ _. Ok (course_of reached waiting log)) ≡ Ok r → IsCourse reached waiting bytes r
spelled_by reached waiting bytes r (Err fault) e log h = cc
spelled_by reached waiting bytes r (Ok found) e log h = behind_begin (begins reached found.events.items found.events.fault) refl h
  where
    behind_begin : (b : Result (Unit {0}) CourseFault) → begins reached found.events.items found.events.fault ≡ b → ◌≡◌ {A = Result CourseRead CourseFault} (b >>= λ _. Ok (course_of reached waiting found)) (Ok r) → IsCourse reached waiting bytes r
    behind_begin (Err fault) begun is = cc
    behind_begin (Ok tt) begun is = record {
      log = found;
      is = log;
      goes_on = begun;
      transactions = transactions_of (steps_of found.events);
      are = spells-reading IsTransaction NoTransaction transaction_at transaction_reader (steps_of found.events);
      course = cc;
    }

pub courses_read : CoursesAreRead
unfolding course_at
courses_read = record {
  spelled = λ reached waiting bytes r e. spelled_by reached waiting bytes r (log_at bytes) refl (log_answers bytes) e;
  only = only_course;
}
  where
    only_course : (reached : List Interval) (waiting : List WaitingValue) (bytes : List ℕ) (r : CourseRead) → IsCourse reached waiting bytes r → course_at reached waiting bytes ≡ Ok r
    only_course reached waiting bytes r h =
        let transactions : transactions_of (steps_of h.log.events) ≡ h.transactions = only_reading IsTransaction NoTransaction transaction_at transaction_reader (steps_of h.log.events) h.transactions.items h.transactions.fault h.are in
        rw (log_only bytes h.log h.is, h.goes_on, transactions, ← h.course) refl
