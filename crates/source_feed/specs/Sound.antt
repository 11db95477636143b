-- What the touches of a group's changes are, and what stands in a group that has none, said of each change
-- and of the whole list of changes (this profile).
use Rattle.std.specs.Prelude.{◌≡◌, ◌⊎◌, ◌↔◌, ℕ, List, [], ◌∷◌, ◌++◌, Bool, Option, Some, None, Ok, Err, IsOk, IsSomeAnd, MatchOption, length, slice_get}
use Rattle.std.specs.List.{AllByRecursion, flat_map}
use Rattle.vindex.specs.FaultNumber as filter
use Rattle.vindex.specs.declared.faults.VindexFault.{VindexFault}
use Rattle.filter_rule.specs.PlanValue.{PlanValue, passes_of}
use Rattle.pk_copy.specs.declared.fault.KeyFault.{KeyFault}
use Rattle.pk_copy.specs.FaultNumber as keys
use Rattle.pk_copy.specs.KeyValue.{KeyValue}
use Rattle.pk_copy.specs.KeyOf.{key_of}
use Rattle.source_feed.specs.declared.fault.FeedFault.{FeedFault}
use Rattle.source_feed.specs.declared.fault.FeedFault.TheVariants.{BadRow, NoGroup}
use Rattle.source_feed.specs.Planned.{PlannedChangeValue, PlannedGroupValue, FeedValue}
use Rattle.source_feed.specs.Touches.{TouchValue, touches_of, group_at}

abbrev pub ChangeRow : Type 0
ChangeRow = List (Option (List ℕ))

-- ---- the touches of a change

-- a row before a change leaves nothing at its key
pub record IsRemoval (plan : PlanValue) (t : ℕ) (row : ChangeRow) (touches : List TouchValue) : Type 0 where
  pub key : KeyValue
  pub has : key_of plan t row ≡ Ok key
  pub only : touches ≡ (key, None) ∷ []

-- a row after a change is put at its key, with the filter's answer
pub record IsPut (plan : PlanValue) (t : ℕ) (row : ChangeRow) (touches : List TouchValue) : Type 0 where
  pub key : KeyValue
  pub passes : Bool
  pub has : key_of plan t row ≡ Ok key
  pub answer : passes_of plan t row ≡ Ok passes
  pub only : touches ≡ (key, Some (record { row = row; passes = passes })) ∷ []

-- the same where there may be no row: then there is no touch
abbrev pub AreOfBefore : PlanValue → ℕ → Option ChangeRow → List TouchValue → Type 0
AreOfBefore plan t None touches = touches ≡ []
AreOfBefore plan t (Some row) touches = IsRemoval plan t row touches

abbrev pub AreOfAfter : PlanValue → ℕ → Option ChangeRow → List TouchValue → Type 0
AreOfAfter plan t None touches = touches ≡ []
AreOfAfter plan t (Some row) touches = IsPut plan t row touches

-- the touches of a change: that of its row before, and behind it that of its row after
pub record AreOfChange (plan : PlanValue) (change : PlannedChangeValue) (touches : List TouchValue) : Type 0 where
  pub removed : List TouchValue
  pub put : List TouchValue
  pub before : AreOfBefore plan change.table change.before removed
  pub after : AreOfAfter plan change.table change.after put
  pub order : touches ≡ removed ++ put

-- the touches of changes: a part for each change, one behind another
pub record AreOfChanges (plan : PlanValue) (changes : List PlannedChangeValue) (touches : List TouchValue) : Type 0 where
  pub parts : List (List TouchValue)
  pub whole : touches ≡ flat_map (λ part. part) parts
  pub many : length parts ≡ length changes
  pub each : (i : ℕ) (change : PlannedChangeValue) (part : List TouchValue) → slice_get changes i ≡ Some change → slice_get parts i ≡ Some part → AreOfChange plan change part

-- ---- what stands in a group that isn't sound

-- a row that there may be has a key; the filter answers of it
abbrev pub HasKey : PlanValue → ℕ → Option ChangeRow → Type 0
HasKey plan t None = Unit {0}
HasKey plan t (Some row) = IsOk (key_of plan t row)

abbrev pub HasAnswer : PlanValue → ℕ → Option ChangeRow → Type 0
HasAnswer plan t None = Unit {0}
HasAnswer plan t (Some row) = IsOk (passes_of plan t row)

-- there is a row, and it has no key, by the number of the cause; the filter has no answer of it
pub record LacksKey (plan : PlanValue) (t : ℕ) (row : Option ChangeRow) (cause : ℕ) : Type 0 where
  pub there : ChangeRow
  pub fault : KeyFault
  pub is : row ≡ Some there
  pub refused : key_of plan t there ≡ Err fault
  pub number : cause ≡ keys.number_of fault

pub record LacksAnswer (plan : PlanValue) (t : ℕ) (row : Option ChangeRow) (cause : ℕ) : Type 0 where
  pub there : ChangeRow
  pub fault : VindexFault
  pub is : row ≡ Some there
  pub refused : passes_of plan t there ≡ Err fault
  pub number : cause ≡ filter.number_of_fault fault

-- a change is sound: its rows have keys, and the filter answers of the row after
pub record IsSoundChange (plan : PlanValue) (change : PlannedChangeValue) : Type 0 where
  pub before : HasKey plan change.table change.before
  pub after : HasKey plan change.table change.after
  pub answer : HasAnswer plan change.table change.after

-- the first cause for which a change isn't sound: the row before has no key; it has, and the row after has
-- none; both have, and the filter has no answer
abbrev pub FirstCause : PlanValue → PlannedChangeValue → ℕ → Type 0
FirstCause plan change cause =
    LacksKey plan change.table change.before cause
    ⊎ ((HasKey plan change.table change.before × LacksKey plan change.table change.after cause)
    ⊎ (HasKey plan change.table change.before × HasKey plan change.table change.after × LacksAnswer plan change.table change.after cause))

-- the fault names the first change that isn't sound by its first cause, and every change before it is sound
pub record IsFirstUnsound (plan : PlanValue) (group : ℕ) (changes : List PlannedChangeValue) (fault : FeedFault) : Type 0 where
  pub earlier : List PlannedChangeValue
  pub change : PlannedChangeValue
  pub later : List PlannedChangeValue
  pub cause : ℕ
  pub split : changes ≡ earlier ++ change ∷ later
  pub sound : AllByRecursion (IsSoundChange plan) earlier
  pub here : FirstCause plan change cause
  pub named : fault ≡ BadRow group change.table cause

-- ---- the law

-- a group has exactly the touches of its changes in order, and is refused exactly by the first of them that
-- isn't sound
pub record TouchesByChange (plan : PlanValue) (group : ℕ) (changes : List PlannedChangeValue) : Type 0 where
  pub given : (touches : List TouchValue) → (touches_of plan group changes ≡ Ok touches) ↔ AreOfChanges plan changes touches
  pub refused : (fault : FeedFault) → (touches_of plan group changes ≡ Err fault) ↔ IsFirstUnsound plan group changes fault

-- ---- a group of a feed

-- the feed has the group, and these are the touches of its changes
abbrev pub AreTouchesAt : FeedValue → ℕ → List TouchValue → Type 0
AreTouchesAt feed number touches = IsSomeAnd (group_at feed number) (λ (group : PlannedGroupValue). AreOfChanges feed.plan group.changes touches)

-- the feed has no such group, or this is the first that isn't sound of its changes
abbrev pub IsCauseAt : FeedValue → ℕ → FeedFault → Type 0
IsCauseAt feed number fault =
    MatchOption (group_at feed number) (fault ≡ NoGroup (length feed.groups)) (λ (group : PlannedGroupValue). IsFirstUnsound feed.plan group.number group.changes fault)
