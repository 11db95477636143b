-- A step on a board changes its own stream alone, which goes on; and what a seat owes and gains by it.
use Rattle.std.proofs.Common.{◌≡◌, ◌≢◌, ◌==◌, ℕ, zero, suc, ◌+◌, ◌≤◌, Bool, true, false, true≢false, List, [], ◌∷◌, ◌++◌, length, length-set, take, set, Option, Some, None, Result, Ok, Err, IsSomeAnd, MatchOption, slice_get, nat_le, refl, sym, ap, ◌∙◌, subst, arith, if◌then◌else◌}
use Rattle.std.proofs.lemmas.Bool.{or_left, eqb-false}
use Rattle.std.proofs.lemmas.Option.{same_Some}
use Rattle.std.specs.Option.{option_map, option_and_then}
use Rattle.std.specs.Arc.{arc_value}
use Rattle.std.specs.Prelude.{IsOk, IfSome}
use Rattle.std.proofs.lemmas.List.{take-take}
use Rattle.list_laws.proofs.Places.{slice_get-set_same, slice_get-set_other}
use borrow.Author.Tests.{eqb-true, eq-eqb}
use Rattle.pk_copy.specs.KeyOrder.{key_cmp}
use Rattle.pk_copy.specs.KeyValue.{KeyValue}
use Rattle.stream_core.specs.declared.refusal.CoreRefusal.{CoreRefusal}
use Rattle.stream_core.specs.declared.step.Step.TheVariants.{Advance}
use Rattle.stream_core.specs.Standing.{Standing}
use Rattle.stream_core.specs.StepTable.{decided}
use Rattle.target_tables.specs.Contents.{value_at}
use Rattle.filter_rule.specs.PlanValue.{PlanValue}
use Rattle.source_feed.specs.History.{RowValue, kept_of}
use Rattle.source_feed.specs.Touches.{PreparedValue}
use Rattle.board_laws.specs.declared.answer.Answer.{Answer}
use Rattle.board_laws.specs.declared.refusal.Refusal.{Refusal}
use Rattle.board_laws.specs.declared.refusal.Refusal.TheVariants.{NoStream, Core, Memory}
use Rattle.board_laws.specs.Meaning.{State, Meaning}
use Rattle.board_laws.specs.Lawful.{standing_of, IsLawful, IsSoundState}
use Rattle.board_laws.specs.Event.{Event, offer, advance, open_at, copy_rows, close, restart}
use Rattle.board_laws.specs.Chunk.{takes_all, copied_state}
use Rattle.board_laws.specs.StateAfter.{state_after}
use Rattle.board_laws.specs.declared.answer.Answer.TheVariants.{Applied}
use Rattle.board_laws.specs.Cut.{own_row}
use Rattle.board_laws.specs.Touching.{left_by, passed_by, touch_of}
use Rattle.board_laws.specs.Step.{IsMade, IsRefusedFor, IsRefusedOn, IsStep}
use Rattle.apply_core.specs.Putting.{DoAsStep}
use Rattle.stream_worker.specs.Knowing.{Laid, names}
use Rattle.stream_worker.specs.Rule.{StateGoesOn, AllGoOn, IsOwnChange}
use Rattle.stream_worker.specs.Outlines.{IsNextOf}
use Rattle.stream_worker.specs.declared.outline.Next.{Next}
use Rattle.stream_worker.specs.Seats.{IsBoardStep, IsReceiptOf, own_cut}
use Rattle.stream_worker.proofs.StreamsGoOn.{goes_on-refl, same_goes_on, all_go_on-same}

-- ---- one stream

front-stays : {A : Type 0} (n : ℕ) (xs ys : List A) → n ≤ length xs → take n (xs ++ ys) ≡ take n xs
front-stays zero xs ys h = refl
front-stays (suc n) [] ys h = absurd (omega arith)
front-stays {A} (suc n) (x ∷ xs) ys h = ap (λ (zs : List A). x ∷ zs) (front-stays n xs ys (omega arith))

goes_on_copy : (state : State) (c : ℕ) → StateGoesOn state (copied_state state c)
goes_on_copy state c = by (takes_all state c) refl
  where
    by : (b : Bool) → takes_all state c ≡ b → StateGoesOn state (copied_state state c)
    by true e = rw e (record { plan = refl; applied = omega arith; groups = refl })
    by false e = rw e (record { plan = refl; applied = omega arith; groups = refl })

-- a stream goes on behind each step that it may make
pub goes_on_step : (state : State) (event : Event) → state.applied ≤ length state.list → StateGoesOn state (state_after state event)
goes_on_step state (offer group) within = by (nat_le group.number (length state.list)) refl
  where
    by : (b : Bool) → nat_le group.number (length state.list) ≡ b → StateGoesOn state (state_after state (offer group))
    by true e = rw e (goes_on-refl state)
    by false e = rw e (record { plan = refl; applied = omega arith; groups = front-stays state.applied state.list (group ∷ []) within })
goes_on_step state advance within = record { plan = refl; applied = omega arith; groups = refl }
goes_on_step state (open_at m) within = record { plan = refl; applied = omega arith; groups = refl }
goes_on_step state (copy_rows c) within = goes_on_copy state c
goes_on_step state close within = record { plan = refl; applied = omega arith; groups = refl }
goes_on_step state restart within = record { plan = refl; applied = omega arith; groups = take-take state.applied state.applied state.list (omega arith) }

-- ---- a board

-- a board with another state of one stream, which goes on
with_one : (board : List State) (s : ℕ) (state next : State) → slice_get board s ≡ Some state → StateGoesOn state next → AllGoOn board (set board s next)
with_one board s state next here on t other e = by (t == s) refl
  where
    by : (b : Bool) → (t == s) ≡ b → IsSomeAnd (slice_get (set board s next) t) (StateGoesOn other)
    by true same =
        let at : t ≡ s = eqb-true t s same in
        let is : state ≡ other = same_Some state other (sym here ∙ ap (slice_get board) (sym at) ∙ e) in
        let there : slice_get (set board s next) t ≡ Some next = ap (slice_get (set board s next)) at ∙ slice_get-set_same board s next state here in
        subst (λ (o : Option State). IsSomeAnd o (StateGoesOn other)) (sym there) (subst (λ (one : State). StateGoesOn one next) is on)
    by false ne = same_goes_on (slice_get (set board s next) t) other (slice_get-set_other board s next t (eqb-false t s ne) ∙ e)

not_named : (s t : ℕ) → names (s ∷ []) t ≡ false → t ≢ s
not_named s t e same = true≢false (sym (or_left (s == t) false (eq-eqb s t (sym same))) ∙ e)

-- a step changes its own stream alone
pub step_changes : (taken left : Laid) (s : ℕ) (event : Event) (result : Result Answer Refusal) → IsBoardStep taken s event result left → IsOwnChange (s ∷ []) taken left
step_changes taken left s event (Ok answer) h =
    let old : Meaning = record { streams = taken.board; rows = h.rows } in
    let new : Meaning = record { streams = left.board; rows = h.rows_left } in
    let made : IsMade old s event answer new = h.step in
    let next : State = state_after made.state event in
    let within = (h.lawful.sound s made.state made.stream).standing.applied in
    let streams : left.board ≡ set taken.board s next = made.streams in
    record {
      others = λ t ne. ap (λ (board : List State). slice_get board t) streams ∙ slice_get-set_other taken.board s next t (not_named s t ne);
      every = subst (λ (board : List State). AllGoOn taken.board board) (sym streams) (with_one taken.board s made.state next made.stream (goes_on_step made.state event within));
      long = ap length streams ∙ length-set taken.board s next;
    }
step_changes taken left s event (Err refusal) h =
    let same : left.board ≡ taken.board = ap (λ (board : Meaning). board.streams) h.step.1 in
    record {
      others = λ t ne. ap (λ (board : List State). slice_get board t) same;
      every = all_go_on-same taken.board left.board same;
      long = ap length same;
    }

abbrev laid_of : Meaning → ℕ → Laid
laid_of board given = record { board = board.streams; given = given }

-- a step on the board that was taken is one on what is seen of it
pub of_step : (old new : Meaning) (now : Laid) (given s : ℕ) (event : Event) (result : Result Answer Refusal) → laid_of old given ≡ now → IsLawful old
    → IsStep old s event result new → IsBoardStep now s event result (record { board = new.streams; given = given })
of_step old new now given s event result is lawful step =
    subst (λ (laid : Laid). IsBoardStep laid s event result (record { board = new.streams; given = given })) is
    (record { rows = old.rows; rows_left = new.rows; lawful = lawful; step = step; given = refl })

-- the state of a stream behind a step, or the same where it is refused
abbrev pub behind : State → Event → Result Answer Refusal → State
behind state event (Ok answer) = state_after state event
behind state event (Err refusal) = state

-- a step leaves its stream so
pub step_leaves : (taken left : Laid) (s : ℕ) (event : Event) (result : Result Answer Refusal) (state : State) → IsBoardStep taken s event result left → slice_get taken.board s ≡ Some state
    → slice_get left.board s ≡ Some (behind state event result)
step_leaves taken left s event (Ok answer) state h e =
    let made : IsMade (record { streams = taken.board; rows = h.rows }) s event answer (record { streams = left.board; rows = h.rows_left }) = h.step in
    let is : made.state ≡ state = same_Some made.state state (sym made.stream ∙ e) in
    let streams : left.board ≡ set taken.board s (state_after made.state event) = made.streams in
    ap (λ (board : List State). slice_get board s) streams
    ∙ slice_get-set_same taken.board s (state_after made.state event) made.state made.stream
    ∙ ap (λ (one : State). Some (state_after one event)) is
step_leaves taken left s event (Err refusal) state h e =
    let same : left.board ≡ taken.board = ap (λ (board : Meaning). board.streams) h.step.1 in
    ap (λ (board : List State). slice_get board s) same ∙ e

-- ---- a group that is applied

-- the group that stream s of a board applies next
abbrev pub next_group_of : List State → ℕ → Option PreparedValue
next_group_of board s = option_and_then (λ state. slice_get state.list state.applied) (slice_get board s)

-- what was built for the stream's state is of that group, and what it puts
pub next_here : (old : Meaning) (s : ℕ) (next : Next) → IsSomeAnd (slice_get old.streams s) (λ state. IsNextOf state next) → next_group_of old.streams s ≡ option_map arc_value next.group
next_here old s next here = by (slice_get old.streams s) here
  where
    by : (o : Option State) → IsSomeAnd o (λ state. IsNextOf state next) → option_and_then (λ (state : State). slice_get state.list state.applied) o ≡ option_map arc_value next.group
    by None h = absurd h
    by (Some state) h = sym h.group

-- what the next group leaves is what the step does, since its plan is the stream's
left_is_touch : (state : State) → IsSoundState state → (key : KeyValue) → option_and_then (λ group. left_by state.marks group key) (slice_get state.list state.applied) ≡ touch_of state advance key
left_is_touch state sound key = by (slice_get state.list state.applied) refl
  where
    by : (o : Option PreparedValue) → slice_get state.list state.applied ≡ o
        → option_and_then (λ (group : PreparedValue). left_by state.marks group key) o ≡ option_map (option_map (kept_of state.plan key)) (option_and_then (λ (group : PreparedValue). passed_by state.marks group key) o)
    by None there = refl
    by (Some group) there = ap (λ (plan : PlanValue). option_map (option_map (kept_of plan key)) (passed_by state.marks group key)) (sound.list.planned state.applied group there)

pub puts_here : (old : Meaning) (s : ℕ) (next : Next) → IsLawful old → IsSomeAnd (slice_get old.streams s) (λ state. IsNextOf state next)
    → IfSome (slice_get old.streams s) (λ state. DoAsStep state advance next.puts.changes.items)
puts_here old s next lawful here = by (slice_get old.streams s) refl here
  where
    by : (o : Option State) → slice_get old.streams s ≡ o → IsSomeAnd o (λ state. IsNextOf state next) → IfSome o (λ state. DoAsStep state advance next.puts.changes.items)
    by None there h = absurd h
    by (Some state) there h = λ key. h.puts key ∙ left_is_touch state (lawful.sound s state there) key

-- what stands behind an advance: the stream, and the group at its new number
applied_state : (old new : Meaning) (s : ℕ) (answer : Answer) (made : IsMade old s advance answer new) → slice_get new.streams s ≡ Some (state_after made.state advance)
applied_state old new s answer made = ap (λ (board : List State). slice_get board s) made.streams ∙ slice_get-set_same old.streams s (state_after made.state advance) made.state made.stream

applied_within : (old new : Meaning) (s : ℕ) (answer : Answer) (made : IsMade old s advance answer new) → made.state.applied + 1 ≤ length made.state.list
applied_within old new s answer made = (made.lawful.sound s (state_after made.state advance) (applied_state old new s answer made)).standing.applied

next_there : (old new : Meaning) (s : ℕ) (answer : Answer) (made : IsMade old s advance answer new) → next_group_of old.streams s ≡ slice_get made.state.list made.state.applied
next_there old new s answer made = ap (option_and_then (λ (state : State). slice_get state.list state.applied)) made.stream

-- a group that isn't there isn't applied
pub none_applied : (old new : Meaning) (s number : ℕ) → IsStep old s advance (Ok (Applied number)) new → next_group_of old.streams s ≡ None → ⊥
none_applied old new s number made none = by (slice_get made.state.list made.state.applied) refl
  where
    within : made.state.applied + 1 ≤ length made.state.list
    within = applied_within old new s (Applied number) made

    short : {A : Type 0} (xs : List A) (i : ℕ) → i + 1 ≤ length xs → slice_get xs i ≡ None → ⊥
    short [] i h e = absurd (omega (arith, h))
    short (x ∷ xs) zero h e = cc
    short (x ∷ xs) (suc i) h e = short xs i (omega (arith, h)) e

    by : (o : Option PreparedValue) → slice_get made.state.list made.state.applied ≡ o → ⊥
    by None e = short made.state.list made.state.applied within e
    by (Some group) e = let two : Some group ≡ None = sym e ∙ sym (next_there old new s (Applied number) made) ∙ none in absurd cc

-- the receipt of the group that was the next one
pub receipt_of : (old new : Meaning) (s number : ℕ) (group : PreparedValue) → IsStep old s advance (Ok (Applied number)) new → next_group_of old.streams s ≡ Some group
    → IsSomeAnd (slice_get new.streams s) (λ state. IsReceiptOf s state s number group)
receipt_of old new s number group made next =
    subst (λ (o : Option State). IsSomeAnd o (λ state. IsReceiptOf s state s number group)) (sym (applied_state old new s (Applied number) made))
    (record {
      stream = refl;
      number = is;
      group = ap (slice_get made.state.list) (let e = is in omega arith) ∙ sym (next_there old new s (Applied number) made) ∙ next;
    })
  where
    number_in : Answer → ℕ
    number_in (Applied n) = n
    number_in answer = 0

    is : number ≡ made.state.applied + 1
    is = ap number_in made.answered

-- ---- the row of a stream's own

pub own_found : (board : Meaning) (s : ℕ) (key : KeyValue) (owner : ℕ) (row : RowValue) → IsLawful board → value_at key_cmp board.rows key ≡ Some (owner, row) → owner ≡ s
    → Some row ≡ own_cut board.streams s key
own_found board s key owner row lawful there same =
    sym (pick (owner == s) (eq-eqb owner s same)) ∙ ap (own_row s) (sym there) ∙ lawful.cuts s key
  where
    pick : (b : Bool) → b ≡ true → (if b then Some row else None) ≡ Some row
    pick true e = refl
    pick false e = absurd (true≢false (sym e))

pub own_else : (board : Meaning) (s : ℕ) (key : KeyValue) (owner : ℕ) (row : RowValue) → IsLawful board → value_at key_cmp board.rows key ≡ Some (owner, row) → owner ≢ s
    → None ≡ own_cut board.streams s key
own_else board s key owner row lawful there other =
    sym (leave (owner == s) refl) ∙ ap (own_row s) (sym there) ∙ lawful.cuts s key
  where
    leave : (b : Bool) → (owner == s) ≡ b → (if b then Some row else None) ≡ None
    leave true e = absurd (other (eqb-true owner s e))
    leave false e = refl

pub own_none : (board : Meaning) (s : ℕ) (key : KeyValue) → IsLawful board → value_at key_cmp board.rows key ≡ None → None ≡ own_cut board.streams s key
own_none board s key lawful there = ap (own_row s) (sym there) ∙ lawful.cuts s key

-- ---- a call that changes nothing

-- a refusal that was found before the step is made leaves the board
pub refused_here : (old : Meaning) (now : Laid) (given s : ℕ) (event : Event) (refusal : Refusal) → laid_of old given ≡ now → IsLawful old → IsRefusedOn old s event refusal
    → IsBoardStep now s event (Err refusal) now
refused_here old now given s event refusal is lawful refused =
    subst (λ (laid : Laid). IsBoardStep laid s event (Err refusal) laid) is
    (record { rows = old.rows; rows_left = old.rows; lawful = lawful; step = (refused, refl); given = refl })

-- an advance that is refused by where its stream stands
advance_refused : (old : Meaning) (now : Laid) (given s : ℕ) (cursor : Standing) (refusal : Refusal) → laid_of old given ≡ now → IsLawful old → option_map standing_of (slice_get now.board s) ≡ Some cursor
    → ((state : State) → standing_of state ≡ cursor → IsRefusedFor old s state advance refusal) → IsBoardStep now s advance (Err refusal) now
advance_refused old now given s cursor refusal is lawful numbers fact =
    refused_here old now given s advance refusal is lawful (by (slice_get old.streams s) (ap (λ (laid : Laid). option_map standing_of (slice_get laid.board s)) is ∙ numbers))
  where
    by : (o : Option State) → option_map standing_of o ≡ Some cursor → MatchOption o (refusal ≡ NoStream) (λ state. IsRefusedFor old s state advance refusal)
    by None e = cc
    by (Some state) e = fact state (same_Some (standing_of state) cursor e)

pub advance_by_table : (old : Meaning) (now : Laid) (given s : ℕ) (cursor : Standing) (refusal : CoreRefusal) → laid_of old given ≡ now → IsLawful old → option_map standing_of (slice_get now.board s) ≡ Some cursor
    → decided cursor Advance ≡ Err refusal → IsBoardStep now s advance (Err (Core refusal)) now
advance_by_table old now given s cursor refusal is lawful numbers refused =
    advance_refused old now given s cursor (Core refusal) is lawful numbers (λ state same. record { plan = tt; history = λ diverged. diverged; table = ap (λ (x : Standing). decided x Advance) same ∙ refused })

-- one that is allowed, and wants memory
pub advance_wants : (old : Meaning) (now : Laid) (given s : ℕ) (cursor : Standing) → laid_of old given ≡ now → IsLawful old → option_map standing_of (slice_get now.board s) ≡ Some cursor
    → IsOk (decided cursor Advance) → IsBoardStep now s advance (Err Memory) now
advance_wants old now given s cursor is lawful numbers allowed =
    advance_refused old now given s cursor Memory is lawful numbers (λ state same. (record { plan = tt; place = tt; table = subst (λ (x : Standing). IsOk (decided x Advance)) (sym same) allowed }, refl))
