-- The positions of a log's transactions rise.
use Rattle.std.proofs.Common.{◌≡◌, ℕ, Bool, List, [], ◌∷◌, Option, Result, Ok, Err, refl, sym}
use Rattle.list_laws.specs.Outcome.{◌>>=◌}
use Rattle.item_readers.specs.Reading.{Reading}
use Rattle.gtid_set.specs.declared.interval.Interval.{Interval}
use Rattle.gtid_set.specs.Position.{IsCanonical}
use Rattle.log_events.specs.Log.{log_at}
use Rattle.log_groups.specs.Transaction.{DoneValue}
use Rattle.log_groups.specs.Group.{GroupValue, WaitingValue}
use Rattle.log_places.specs.declared.fault.PlaceFault.{PlaceFault}
use Rattle.log_places.specs.Place.{position_behind, PositionsRise}
use Rattle.log_course.specs.declared.fault.CourseFault.{CourseFault}
use Rattle.log_course.specs.Fault.{of_log}
use Rattle.log_course.specs.Course.{PlacedValue, put_placed, placed, CourseRead, course_of, begins, course_at}
use Rattle.log_laws.specs.Far.{AreRising}
use Rattle.log_laws.proofs.Steps.{given, same_value}

put_rise : PositionsRise → (reached : List Interval) (g : GroupValue) (r : Result (List Interval) PlaceFault) (others : List Interval → Reading PlacedValue CourseFault) → IsCanonical reached → position_behind reached g.gtid ≡ r
    → ((position : List Interval) → IsCanonical position → AreRising position (others position).items) → AreRising reached (put_placed r g.changes others).items
put_rise rises reached g (Err fault) others c e rest = tt
put_rise rises reached g (Ok position) others c e rest = let rise = rises reached position g.gtid c e in (rise, rest position rise.canonical)

placed_rise : PositionsRise → (groups : List GroupValue) (end : Option CourseFault) (reached : List Interval) → IsCanonical reached → AreRising reached (placed reached groups end).items
unfolding placed
placed_rise rises [] end reached c = tt
placed_rise rises (g ∷ groups) end reached c = put_rise rises reached g (position_behind reached g.gtid) (λ position. placed position groups end) c refl (placed_rise rises groups end)

pub course_rises : PositionsRise → (reached : List Interval) (waiting : List WaitingValue) (bytes : List ℕ) (r : CourseRead) → IsCanonical reached → course_at reached waiting bytes ≡ Ok r → AreRising reached r.groups.items
unfolding course_at
course_rises rises reached waiting bytes r c e =
    let log = given (of_log (log_at bytes)) (λ log. begins reached log.events.items log.events.fault >>= λ _. Ok (course_of reached waiting log)) r e in
    let begun = given (begins reached log.0.events.items log.0.events.fault) (λ _. Ok (course_of reached waiting log.0)) r log.2 in
    rw (← same_value (course_of reached waiting log.0) r begun.2) (placed_rise rises _ _ reached c)
