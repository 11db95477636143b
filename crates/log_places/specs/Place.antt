-- Positions of groups one after another, and of logs (this profile).
use Rattle.std.specs.Prelude.{◌≡◌, if◌then◌else◌, List, [], ◌∷◌, Result, Ok, Err}
use Rattle.list_laws.specs.Outcome.{◌>>=◌}
use Rattle.gtid_set.specs.declared.interval.Interval.{Interval}
use Rattle.gtid_set.specs.Position.{IsCanonical, IsWithin, union_of, within_of, same_set}
use Rattle.log_events.specs.Event.{LogEvent}
use Rattle.log_groups.specs.Step.{GtidValue}
use Rattle.log_places.specs.declared.fault.PlaceFault.{PlaceFault}
use Rattle.log_places.specs.declared.fault.PlaceFault.TheVariants.{GoesBack, Elsewhere}
use Rattle.log_places.specs.Added.{added_by}
use Rattle.log_places.specs.List.{list_of}

-- the position behind a transaction: with what it adds, all of which can't have been there before
unfoldable pub position_behind : List Interval → GtidValue → Result (List Interval) PlaceFault
position_behind reached g = added_by g >>= λ i. if within_of (i ∷ []) reached then Err GoesBack else Ok (union_of reached (i ∷ []))

-- a log goes on where another one ended: its first event lists the positions that were reached, and no others
unfoldable pub goes_on : List Interval → LogEvent → Result (Unit {0}) PlaceFault
goes_on reached event = list_of event >>= λ list. if same_set list reached then Ok tt else Err Elsewhere

-- behind a transaction the position has all that it had, and more
pub record Rises (old new : List Interval) : Type 0 where
  pub canonical : IsCanonical new
  pub all : IsWithin old new
  pub more : ¬ IsWithin new old

abbrev pub PositionsRise : Type 0
PositionsRise =
    (old new : List Interval) (g : GtidValue) → IsCanonical old → position_behind old g ≡ Ok new → Rises old new
