-- A seat's outline behind its calls: the groups that its stream has read, and its marks.
use Rattle.std.proofs.Common.{◌≡◌, ℕ, zero, suc, Bool, true, false, List, [], ◌∷◌, ◌++◌, length, take, map, Option, Some, None, Result, Ok, Err, IsSomeAnd, slice_get, nat_le, refl, sym, ap, ◌∙◌, subst}
use Rattle.std.proofs.lemmas.Option.{same_Some}
use Rattle.std.specs.Arc.{arc_value}
use Rattle.std.specs.Option.{option_map, option_and_then}
use Rattle.list_laws.proofs.Fronts.{take-own}
use Rattle.pk_copy.specs.KeyOrder.{key_cmp}
use Rattle.pk_copy.specs.KeyValue.{KeyValue}
use Rattle.pk_copy.specs.Marks.{Marks}
use Rattle.target_tables.specs.Touches.{last_at}
use Rattle.stream_core.specs.Standing.{Standing}
use Rattle.source_feed.specs.Touches.{PreparedValue}
use Rattle.board_laws.specs.declared.answer.Answer.{Answer}
use Rattle.board_laws.specs.declared.refusal.Refusal.{Refusal}
use Rattle.board_laws.specs.Meaning.{State}
use Rattle.board_laws.specs.Lawful.{standing_of}
use Rattle.board_laws.specs.Touching.{left_by}
use Rattle.board_laws.specs.Event.{Event, offer, advance, open_at, copy_rows, close, restart}
use Rattle.board_laws.specs.Chunk.{takes_all, copied_state}
use Rattle.board_laws.specs.StateAfter.{state_after}
use Rattle.stream_worker.specs.declared.outline.Next.{Next}
use Rattle.stream_worker.specs.Knowing.{Laid, Knows, state_seen}
use Rattle.stream_worker.specs.Rule.{IsBoardTaken, IsBoardPut}
use Rattle.stream_worker.specs.Outlines.{Outlined, outline_of, IsNextIn, IsNextOf}
use Rattle.stream_worker.specs.Seats.{IsBoardStep}
use Rattle.stream_worker.proofs.StepsOfOneStream.{behind, step_leaves}
use Rattle.stream_worker.proofs.SeatsTakeAndPut.{own_as_seen}

abbrev pub outlined : List PreparedValue → Marks → Outlined
outlined list marks = record { list = list; marks = marks }

-- ---- outlines of a board

next_outline : (streams : List State) (s : ℕ) (one : Outlined) → option_map outline_of (slice_get streams s) ≡ Some one → map outline_of (take s streams) ++ one ∷ [] ≡ map outline_of (take (suc s) streams)
next_outline [] s one e = cc
next_outline (x ∷ xs) zero one e = ap (λ (o : Outlined). o ∷ []) (sym (same_Some (outline_of x) one e))
next_outline (x ∷ xs) (suc s) one e = ap (λ (l : List Outlined). outline_of x ∷ l) (next_outline xs s one e)

-- those of the first streams, and of one more
pub outlines_more : (streams : List State) (s n : ℕ) (outlines more : List Outlined) (one : Outlined) → more ≡ outlines ++ one ∷ [] → outlines ≡ map outline_of (take s streams)
    → option_map outline_of (slice_get streams s) ≡ Some one → n ≡ suc s → more ≡ map outline_of (take n streams)
outlines_more streams s n outlines more one is so_far e count =
    is ∙ ap (λ (l : List Outlined). l ++ one ∷ []) so_far ∙ next_outline streams s one e ∙ ap (λ (m : ℕ). map outline_of (take m streams)) (sym count)

-- ---- any call

module _ (before holding after : Knows) (s : ℕ) (taken left : Laid) (event : Event) (result : Result Answer Refusal) (standing : Standing) (outline : Outlined) where
  -- what is true of every outline behind the call is true of the seat's
  pub put_outline : (kept : Outlined) → IsBoardPut holding left after → IsBoardStep taken s event result left → IsBoardTaken before taken holding → before.streams ≡ s ∷ []
      → option_map standing_of (state_seen before s) ≡ Some standing → option_map outline_of (state_seen before s) ≡ Some outline
      → ((state : State) → slice_get taken.board s ≡ Some state → outline_of state ≡ outline → slice_get left.board s ≡ Some (behind state event result) → outline_of (behind state event result) ≡ kept)
      → option_map outline_of (state_seen after s) ≡ Some kept
  put_outline kept put step h own numbers is fact = by (state_seen before s) refl is
    where
      by : (o : Option State) → state_seen before s ≡ o → option_map outline_of o ≡ Some outline → option_map outline_of (state_seen after s) ≡ Some kept
      by None e none = cc
      by (Some state) e some =
          let here : slice_get taken.board s ≡ Some state = own_as_seen before s taken standing own h.says numbers ∙ e in
          let there : slice_get left.board s ≡ Some (behind state event result) = step_leaves taken left s event result state step here in
          ap (λ (o : Option Laid). option_map outline_of (option_and_then (λ (laid : Laid). slice_get laid.board s) o)) put.seen
          ∙ ap (option_map outline_of) there
          ∙ ap Some (fact state here (same_Some (outline_of state) outline some) there)

-- ---- calls that leave it

abbrev pub leaves_outline : Event → Bool
leaves_outline (offer group) = false
leaves_outline advance = true
leaves_outline (open_at m) = true
leaves_outline (copy_rows c) = false
leaves_outline close = true
leaves_outline restart = false

same_outline : (state : State) (event : Event) (result : Result Answer Refusal) → leaves_outline event ≡ true → outline_of (behind state event result) ≡ outline_of state
same_outline state event (Err refusal) e = refl
same_outline state (offer group) (Ok answer) e = cc
same_outline state advance (Ok answer) e = refl
same_outline state (open_at m) (Ok answer) e = refl
same_outline state (copy_rows c) (Ok answer) e = cc
same_outline state close (Ok answer) e = refl
same_outline state restart (Ok answer) e = cc

pub still_outlined : (before holding after : Knows) (s : ℕ) (taken left : Laid) (event : Event) (result : Result Answer Refusal) (standing : Standing) (outline : Outlined) → IsBoardPut holding left after
    → IsBoardStep taken s event result left → IsBoardTaken before taken holding → before.streams ≡ s ∷ [] → option_map standing_of (state_seen before s) ≡ Some standing
    → option_map outline_of (state_seen before s) ≡ Some outline → leaves_outline event ≡ true → option_map outline_of (state_seen after s) ≡ Some outline
still_outlined before holding after s taken left event result standing outline put step h own numbers is leaves =
    put_outline before holding after s taken left event result standing outline outline put step h own numbers is (λ state here one there. same_outline state event result leaves ∙ one)

-- ---- an offer, and a restart

all : {A : Type 0} (xs : List A) → take (length xs) xs ≡ xs
all [] = refl
all {A} (x ∷ xs) = ap (λ (zs : List A). x ∷ zs) (all xs)

front_again : {A : Type 0} (n : ℕ) (xs : List A) → take (length (take n xs)) xs ≡ take n xs
front_again zero xs = refl
front_again (suc n) [] = refl
front_again {A} (suc n) (x ∷ xs) = ap (λ (zs : List A). x ∷ zs) (front_again n xs)

-- as many of the groups with the offered one behind them are kept as are read
abbrev KeepsRead : State → List PreparedValue → State → Type 0
KeepsRead state list next = (take (length next.list) list ≡ next.list) × (next.marks ≡ state.marks)

offer_keeps : (state : State) (group : PreparedValue) (result : Result Answer Refusal) → KeepsRead state (state.list ++ group ∷ []) (behind state (offer group) result)
offer_keeps state group (Err refusal) = (take-own state.list (group ∷ []), refl)
offer_keeps state group (Ok answer) = by (nat_le group.number (length state.list)) refl
  where
    by : (b : Bool) → nat_le group.number (length state.list) ≡ b → KeepsRead state (state.list ++ group ∷ []) (state_after state (offer group))
    by true e = rw e (take-own state.list (group ∷ []), refl)
    by false e = rw e (all (state.list ++ group ∷ []), refl)

restart_keeps : (state : State) (result : Result Answer Refusal) → KeepsRead state state.list (behind state restart result)
restart_keeps state (Err refusal) = (all state.list, refl)
restart_keeps state (Ok answer) = (front_again state.applied state.list, refl)

-- kept so, the outline is that of the state behind the call
kept_outline : (state next : State) (list : List PreparedValue) (outline kept : Outlined) (standing : Standing) → outline_of state ≡ outline → standing_of next ≡ standing → KeepsRead state list next
    → kept ≡ outlined (take standing.read list) outline.marks → outline_of next ≡ kept
kept_outline state next list outline kept standing is numbers keeps e =
    ap (λ (xs : List PreparedValue). outlined xs next.marks) (sym keeps.0)
    ∙ ap (λ (n : ℕ). outlined (take n list) next.marks) (ap (λ (x : Standing). x.read) numbers)
    ∙ ap (λ (m : Marks). outlined (take standing.read list) m) (keeps.1 ∙ ap (λ (o : Outlined). o.marks) is)
    ∙ sym e

-- the cursor that was read off the board behind the call
numbers_there : (o : Option State) (next : State) (standing : Standing) → o ≡ Some next → option_map standing_of o ≡ Some standing → standing_of next ≡ standing
numbers_there o next standing e numbers = same_Some (standing_of next) standing (sym (ap (option_map standing_of) e) ∙ numbers)

module _ (before holding after : Knows) (s : ℕ) (taken left : Laid) (result : Result Answer Refusal) (standing cursor : Standing) (outline pushed kept : Outlined) (own : before.streams ≡ s ∷ [])
    (numbers : option_map standing_of (state_seen before s) ≡ Some standing) (is : option_map outline_of (state_seen before s) ≡ Some outline) (h : IsBoardTaken before taken holding)
    (put : IsBoardPut holding left after) (there : option_map standing_of (slice_get left.board s) ≡ Some cursor) where
  pub offer_outlined : (group : PreparedValue) → IsBoardStep taken s (offer group) result left → pushed ≡ outlined (outline.list ++ group ∷ []) outline.marks → kept ≡ outlined (take cursor.read pushed.list) pushed.marks
      → option_map outline_of (state_seen after s) ≡ Some kept
  offer_outlined group step more e =
      put_outline before holding after s taken left (offer group) result standing outline kept put step h own numbers is
      (λ state here one next.
      kept_outline state (behind state (offer group) result) (state.list ++ group ∷ []) outline kept cursor one (numbers_there (slice_get left.board s) (behind state (offer group) result) cursor next there)
      (offer_keeps state group result)
      (e
      ∙ ap (λ (o : Outlined). outlined (take cursor.read o.list) o.marks) more
      ∙ ap (λ (o : Outlined). outlined (take cursor.read (o.list ++ group ∷ [])) outline.marks) (sym one)))

  pub restart_outlined : IsBoardStep taken s restart result left → kept ≡ outlined (take cursor.read outline.list) outline.marks → option_map outline_of (state_seen after s) ≡ Some kept
  restart_outlined step e =
      put_outline before holding after s taken left restart result standing outline kept put step h own numbers is
      (λ state here one next.
      kept_outline state (behind state restart result) state.list outline kept cursor one (numbers_there (slice_get left.board s) (behind state restart result) cursor next there)
      (restart_keeps state result)
      (e ∙ ap (λ (o : Outlined). outlined (take cursor.read o.list) outline.marks) (sym one)))

-- ---- a chunk

copy_keeps : (state : State) (c : ℕ) → (copied_state state c).list ≡ state.list
copy_keeps state c = by (takes_all state c) refl
  where
    by : (b : Bool) → takes_all state c ≡ b → (copied_state state c).list ≡ state.list
    by true e = rw e refl
    by false e = rw e refl

pub copy_outlined : (before holding after : Knows) (s : ℕ) (taken left : Laid) (c : ℕ) (answer : Answer) (standing : Standing) (outline kept : Outlined) (marks : Marks) → IsBoardPut holding left after
    → IsBoardStep taken s (copy_rows c) (Ok answer) left → IsBoardTaken before taken holding → before.streams ≡ s ∷ [] → option_map standing_of (state_seen before s) ≡ Some standing
    → option_map outline_of (state_seen before s) ≡ Some outline → IsSomeAnd (slice_get taken.board s) (λ state. marks ≡ (state_after state (copy_rows c)).marks)
    → kept ≡ outlined outline.list marks → option_map outline_of (state_seen after s) ≡ Some kept
copy_outlined before holding after s taken left c answer standing outline kept marks put step h own numbers is moved e =
    put_outline before holding after s taken left (copy_rows c) (Ok answer) standing outline kept put step h own numbers is
    (λ state here one next.
    let to : marks ≡ (state_after state (copy_rows c)).marks = subst (λ (o : Option State). IsSomeAnd o (λ state. marks ≡ (state_after state (copy_rows c)).marks)) here moved in
    ap (λ (xs : List PreparedValue). outlined xs (copied_state state c).marks) (copy_keeps state c)
    ∙ ap (λ (m : Marks). outlined state.list m) (sym to)
    ∙ ap (λ (o : Outlined). outlined o.list marks) one
    ∙ sym e)

-- ---- what an advance is built from

-- the group at the place behind the applied ones, and what it leaves at the copied keys
pub next_in : (outline inside : Outlined) (applied : ℕ) (group : PreparedValue) (next : Next) → inside ≡ outline → slice_get inside.list applied ≡ Some group → option_map arc_value next.group ≡ Some group
    → ((key : KeyValue) → last_at key_cmp next.puts.changes.items key ≡ left_by inside.marks group key) → IsNextIn outline applied next
next_in outline inside applied group next is there same puts =
    subst (λ (o : Outlined). IsNextIn o applied next) is
    (record { group = same ∙ sym there; puts = λ key. puts key ∙ sym (ap (option_and_then (λ (value : PreparedValue). left_by inside.marks value key)) there) })

-- what a seat built of its outline is what its stream applies next on the board that it took
pub next_taken : (before : Knows) (s : ℕ) (taken : Laid) (holding : Knows) (standing : Standing) (outline : Outlined) (next : Next) → before.streams ≡ s ∷ [] → IsBoardTaken before taken holding
    → option_map standing_of (state_seen before s) ≡ Some standing → option_map outline_of (state_seen before s) ≡ Some outline → IsNextIn outline standing.applied next
    → IsSomeAnd (slice_get taken.board s) (λ state. IsNextOf state next)
next_taken before s taken holding standing outline next own h numbers is built = by (state_seen before s) refl numbers is
  where
    by : (o : Option State) → state_seen before s ≡ o → option_map standing_of o ≡ Some standing → option_map outline_of o ≡ Some outline → IsSomeAnd (slice_get taken.board s) (λ state. IsNextOf state next)
    by None e none more = cc
    by (Some state) e one two =
        subst (λ (o : Option State). IsSomeAnd o (λ state. IsNextOf state next)) (sym (own_as_seen before s taken standing own h.says numbers ∙ e))
        (subst (λ (o : Outlined). IsNextIn o state.applied next) (sym (same_Some (outline_of state) outline two))
        (subst (λ (n : ℕ). IsNextIn outline n next) (sym (ap (λ (x : Standing). x.applied) (same_Some (standing_of state) standing one))) built))
