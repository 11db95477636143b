-- What the calls answer and leave that read a log's groups. Of want of memory nothing is told.
use Rattle.std.specs.Prelude.{◌≡◌, ℕ, Bool, List, [], ◌∷◌, map, Option, Some, None, Result, Ok, Err}
use Rattle.item_readers.specs.Reading.{Reading}
use Rattle.gtid_set.specs.declared.interval.Interval.{Interval}
use Rattle.log_groups.specs.declared.fault.GroupError as group_error
use Rattle.log_groups.specs.declared.fault.GroupError.TheVariants as group_errors
use Rattle.log_groups.specs.Transaction.{done_value}
use Rattle.log_groups.specs.Group.{GroupValue, WaitingValue}
use Rattle.log_places.specs.Place.{position_behind}
use Rattle.log_course.specs.declared.fault.CourseFault.{CourseFault}
use Rattle.log_course.specs.declared.fault.CourseError.{CourseError}
use Rattle.log_course.specs.declared.fault.CourseError.TheVariants.{Memory, Fault}
use Rattle.log_course.specs.declared.groups.PlacedGroup as placed_group
use Rattle.log_course.specs.Fault.{of_place}
use Rattle.log_course.specs.Course.{PlacedValue, CourseRead, end_of}

-- how a group of the program is seen
abbrev pub placed_value : placed_group.PlacedGroup → PlacedValue
placed_value g = record { position = g.position; changes = map done_value g.changes.items }

-- a log of the program: the position that was reached, the groups still to come, what waits where they end, and how many of
-- its bytes aren't read yet
pub record CourseValue : Type 0 where
  pub reached : List Interval
  pub groups : Reading PlacedValue CourseFault
  pub waiting : List WaitingValue
  pub left : ℕ

-- its groups and what waits where they end
abbrev pub read_of : CourseValue → CourseRead
read_of a = record { groups = a.groups; waiting = a.waiting }

-- The next group is taken off the front, and the position behind it is reached. At the end neither changes. What waits at the
-- end stays the same. Behind a fault nothing is told of what is still to come.
abbrev pub NextPlaced : CourseValue → Result (Option PlacedValue) CourseError → CourseValue → Type 0
NextPlaced old (Ok (Some g)) new = (old.groups.items ≡ g ∷ new.groups.items) × (old.groups.fault ≡ new.groups.fault) × (new.reached ≡ g.position) × (new.waiting ≡ old.waiting)
NextPlaced old (Ok None) new = (old.groups.items ≡ []) × (old.groups.fault ≡ None) × (new.groups ≡ old.groups) × (new.reached ≡ old.reached) × (new.waiting ≡ old.waiting)
NextPlaced old (Err Memory) new = Unit {0}
NextPlaced old (Err (Fault fault)) new = (old.groups.items ≡ []) × (old.groups.fault ≡ Some fault)

-- a group is placed behind the position that was reached
abbrev pub PlacesGroup : List Interval → GroupValue → Result (Option PlacedValue) CourseError → List Interval → Type 0
PlacesGroup old g (Ok None) new = ⊥
PlacesGroup old g (Ok (Some p)) new = (position_behind old g.gtid ≡ Ok p.position) × (p.changes ≡ g.changes) × (new ≡ p.position)
PlacesGroup old g (Err Memory) new = Unit {0}
PlacesGroup old g (Err (Fault fault)) new = of_place (position_behind old g.gtid) ≡ Err fault

-- how a log ends whose groups end in an error
abbrev pub EndsSo : Bool → group_error.GroupError → Result (Option PlacedValue) CourseError → Type 0
EndsSo in_use group_errors.Memory r = r ≡ Err Memory
EndsSo in_use (group_errors.Fault fault) (Ok None) = end_of in_use (Some fault) ≡ None
EndsSo in_use (group_errors.Fault fault) (Ok (Some g)) = ⊥
EndsSo in_use (group_errors.Fault fault) (Err Memory) = ⊥
EndsSo in_use (group_errors.Fault fault) (Err (Fault f)) = end_of in_use (Some fault) ≡ Some f
