-- What a group does to the rows of a target: the touches of keys that its changes make, in order (this
-- profile, after the row events of a VStream).
use Rattle.std.specs.Prelude.{ℕ, zero, suc, List, [], ◌∷◌, ◌++◌, Bool, Option, Some, None, Result, Ok, Err, length, slice_get}
use Rattle.list_laws.specs.Outcome.{◌>>=◌}
use Rattle.vindex.specs.FaultNumber as filter
use Rattle.filter_rule.specs.PlanValue.{PlanValue, passes_of}
use Rattle.pk_copy.specs.FaultNumber as keys
use Rattle.pk_copy.specs.KeyValue.{KeyValue}
use Rattle.pk_copy.specs.KeyOf.{key_of}
use Rattle.source_feed.specs.declared.fault.FeedFault.{FeedFault}
use Rattle.source_feed.specs.declared.fault.FeedFault.TheVariants.{BadRow, NoGroup}
use Rattle.source_feed.specs.GroupValue.{Position}
use Rattle.source_feed.specs.Planned.{PlannedChangeValue, PlannedGroupValue, FeedValue}

-- a row that a touch puts at its key, and whether it passes the plan's filter
pub record PutValue : Type 0 where
  pub row : List (Option (List ℕ))
  pub passes : Bool

-- a touch: a key, and the row that is put there, or nothing
abbrev pub TouchValue : Type 0
TouchValue = KeyValue × Option PutValue

-- a group as the steps of a target see it
pub record PreparedValue : Type 0 where
  pub plan : PlanValue
  pub number : ℕ
  pub position : Position
  pub touches : List TouchValue

-- ---- one row

-- a fault of a row: it names the group, the change's table and the cause by its number
abbrev pub in_group : {A F : Type 0} → (F → ℕ) → ℕ → ℕ → Result A F → Result A FeedFault
in_group number group t (Ok x) = Ok x
in_group number group t (Err fault) = Err (BadRow group t (number fault))

-- the key of a row of a group's change
abbrev pub key_in_group : PlanValue → ℕ → ℕ → List (Option (List ℕ)) → Result KeyValue FeedFault
key_in_group plan group t row = in_group keys.number_of group t (key_of plan t row)

-- what the filter answers of a row of a group's change
abbrev pub passes_in : PlanValue → ℕ → ℕ → List (Option (List ℕ)) → Result Bool FeedFault
passes_in plan group t row = in_group filter.number_of_fault group t (passes_of plan t row)

-- a row before a change touches its key with nothing; its filter isn't asked
abbrev pub removal_of : PlanValue → ℕ → ℕ → List (Option (List ℕ)) → Result TouchValue FeedFault
removal_of plan group t row = key_in_group plan group t row >>= λ key. Ok (key, None)

-- a row after a change touches its key with itself
abbrev pub put_of : PlanValue → ℕ → ℕ → List (Option (List ℕ)) → Result TouchValue FeedFault
put_of plan group t row =
    key_in_group plan group t row >>= λ key.
    passes_in plan group t row >>= λ passes.
    Ok (key, Some (record { row = row; passes = passes }))

-- ---- one change

abbrev pub touches_before : PlanValue → ℕ → ℕ → Option (List (Option (List ℕ))) → Result (List TouchValue) FeedFault
touches_before plan group t None = Ok []
touches_before plan group t (Some row) = removal_of plan group t row >>= λ touch. Ok (touch ∷ [])

abbrev pub touches_after : PlanValue → ℕ → ℕ → Option (List (Option (List ℕ))) → Result (List TouchValue) FeedFault
touches_after plan group t None = Ok []
touches_after plan group t (Some row) = put_of plan group t row >>= λ touch. Ok (touch ∷ [])

-- the touches of a group's change: first the row before, then the row after; refused by the first fault
abbrev pub touches_of_change : PlanValue → ℕ → PlannedChangeValue → Result (List TouchValue) FeedFault
touches_of_change plan group change =
    touches_before plan group change.table change.before >>= λ removed.
    touches_after plan group change.table change.after >>= λ put.
    Ok (removed ++ put)

-- ---- a group

-- the touches of a group's changes, in order: refused where the group isn't sound, by the first fault
abbrev pub touches_of : PlanValue → ℕ → List PlannedChangeValue → Result (List TouchValue) FeedFault
touches_of plan group [] = Ok []
touches_of plan group (change ∷ later) =
    touches_of_change plan group change >>= λ touches.
    touches_of plan group later >>= λ others.
    Ok (touches ++ others)

-- a group with its touches
abbrev pub prepared : PlanValue → PlannedGroupValue → Result PreparedValue FeedFault
prepared plan group =
    touches_of plan group.number group.changes >>= λ touches.
    Ok (record { plan = plan; number = group.number; position = group.position; touches = touches })

-- the group of a number, from 1
abbrev pub group_at : FeedValue → ℕ → Option PlannedGroupValue
group_at feed zero = None
group_at feed (suc i) = slice_get feed.groups i

abbrev pub prepared_if : FeedValue → Option PlannedGroupValue → Result PreparedValue FeedFault
prepared_if feed None = Err (NoGroup (length feed.groups))
prepared_if feed (Some group) = prepared feed.plan group

-- the prepared group of a number: refused where the feed has no such group, and where it isn't sound
abbrev pub prepared_at : FeedValue → ℕ → Result PreparedValue FeedFault
prepared_at feed number = prepared_if feed (group_at feed number)
