-- Events behind which a reader of a feed may want memory.
use Rattle.std.proofs.Common.{◌≡◌, ℕ, List, [], ◌∷◌, ◌++◌, true, Option, None, Some, Result, Ok, Err, IfErr, refl, sym, ap, subst, ◌∙◌, inl, inr}
use Rattle.std.specs.List.{list_any}
use Rattle.std.specs.Option.{option_map}
use Rattle.list_laws.specs.Outcome.{◌>>=◌, unless}
use Rattle.vevent.specs.EventValue.{EventValue, Gtid, Begin, Commit, Rollback, Row, Field, Vgtid, Ignored}
use Rattle.source_feed.specs.declared.fault.FeedFault.{FeedFault}
use Rattle.source_feed.specs.declared.fault.FeedFault.TheVariants.{Misplaced, OpenAtEnd, Memory}
use Rattle.source_feed.specs.GroupValue.{Position}
use Rattle.source_feed.specs.SourceValue.{SourceValue}
use Rattle.source_feed.specs.PastEvents.{PastEvents, width_of, body_position}
use Rattle.source_feed.specs.Groups.{fault_at}
use Rattle.source_feed.specs.Private.EventByEvent.{past_behind}
use Rattle.source_feed.specs.Private.FeedTables.{counted}
use Rattle.source_feed.specs.TakesMemory.{takes_memory, WantsFrom}

-- a table whose columns are known was named by a FIELD
pub field_taken : (source : SourceValue) (history : PastEvents) (table : List ℕ) (width : ℕ) → option_map counted (width_of source history table) ≡ Some width → list_any takes_memory history ≡ true
field_taken source [] table width e = cc
field_taken source (Gtid text ∷ earlier) table width e = refl
field_taken source (Begin ∷ earlier) table width e = field_taken source earlier table width e
field_taken source (Commit ∷ earlier) table width e = field_taken source earlier table width e
field_taken source (Rollback ∷ earlier) table width e = field_taken source earlier table width e
field_taken source (Row name changes ∷ earlier) table width e = field_taken source earlier table width e
field_taken source (Field name columns ∷ earlier) table width e = refl
field_taken source (Vgtid entries ∷ earlier) table width e = refl
field_taken source (Ignored event ∷ earlier) table width e = field_taken source earlier table width e

-- the position of a transaction was carried by an event
pub position_taken : (source : SourceValue) (history : PastEvents) (position : Position) → body_position source history ≡ Some position → list_any takes_memory history ≡ true
position_taken source [] position e = cc
position_taken source (Gtid text ∷ earlier) position e = refl
position_taken source (Begin ∷ earlier) position e = cc
position_taken source (Commit ∷ earlier) position e = position_taken source earlier position e
position_taken source (Rollback ∷ earlier) position e = position_taken source earlier position e
position_taken source (Row name changes ∷ earlier) position e = position_taken source earlier position e
position_taken source (Field name columns ∷ earlier) position e = refl
position_taken source (Vgtid entries ∷ earlier) position e = refl
position_taken source (Ignored event ∷ earlier) position e = position_taken source earlier position e

-- further events may follow
pub wants_front : (source : SourceValue) (earlier : PastEvents) (events behind : List EventValue) → WantsFrom source earlier events → WantsFrom source earlier (events ++ behind)
wants_front source earlier [] behind w = absurd w
wants_front source earlier (event ∷ events) behind (inl taken) = inl taken
wants_front source earlier (event ∷ events) behind (inr later) = inr (later.0, wants_front source (event ∷ earlier) events behind later.1)

abbrev past : PastEvents → Result PastEvents FeedFault
past history = Ok history

-- an event that is passed has no fault
record Passed (source : SourceValue) (earlier : PastEvents) (event : EventValue) (events : List EventValue) (end : Option FeedFault) (history : PastEvents) : Type 0 where
  none : fault_at source earlier event ≡ None
  later : past_behind source (event ∷ earlier) events end ≡ Ok history

passed : (fault : Option FeedFault) (source : SourceValue) (earlier : PastEvents) (event : EventValue) (events : List EventValue) (end : Option FeedFault) (history : PastEvents) → fault_at source earlier event ≡ fault
    → (unless fault >>= λ _. past_behind source (event ∷ earlier) events end) ≡ Ok history → Passed source earlier event events end history
passed None source earlier event events end history f e = record { none = f; later = e }
passed (Some fault) source earlier event events end history f e = cc

same_ok : (x y : PastEvents) → past x ≡ past y → x ≡ y
same_ok x y e = cc

-- events that are passed may stand before
pub wants_behind : (source : SourceValue) (earlier : PastEvents) (events behind : List EventValue) (end : Option FeedFault) (history : PastEvents) → past_behind source earlier events end ≡ Ok history
    → WantsFrom source history behind → WantsFrom source earlier (events ++ behind)
wants_behind source earlier [] behind None history e w = subst (λ h. WantsFrom source h behind) (sym (same_ok earlier history e)) w
wants_behind source earlier [] behind (Some fault) history e w = cc
wants_behind source earlier (event ∷ events) behind end history e w =
    let p = passed (fault_at source earlier event) source earlier event events end history refl e in
    inr (p.none, wants_behind source (event ∷ earlier) events behind end history p.later w)

-- another fault is no want of memory
pub not_memory : {X : Type 0} (result : Result X FeedFault) → IfErr result (λ fault. fault ≡ Misplaced) → result ≡ Err Memory → ⊥
not_memory (Ok x) misplaced is = cc
not_memory (Err fault) misplaced is = cc

pub not_memory_at_end : {X : Type 0} (result : Result X FeedFault) → IfErr result (λ fault. fault ≡ OpenAtEnd) → result ≡ Err Memory → ⊥
not_memory_at_end (Ok x) open_at_end is = cc
not_memory_at_end (Err fault) open_at_end is = cc

abbrev refusal : {X : Type 0} → FeedFault → Result X FeedFault
refusal fault = Err fault

-- what hands want of memory on had it
pub memory_of : {X Y : Type 0} (result : Result X FeedFault) (handed fault : FeedFault) → result ≡ Err handed → handed ≡ fault → result ≡ Err Memory → refusal {X = Y} fault ≡ refusal {X = Y} Memory
memory_of {X = X} {Y = Y} result handed fault a b is =
    let same : refusal {X = X} handed ≡ refusal {X = X} Memory = sym a ∙ is in
    let memory : handed ≡ Memory = cc in
    ap (λ f. refusal {X = Y} f) (sym b ∙ memory)
