-- The events of a feed whose groups are defined are whole transactions, and the changes of its groups are those of its blocks,
-- repeats aside.
use Rattle.std.proofs.Common.{◌≡◌, ℕ, ◌+◌, List, [], ◌∷◌, ◌++◌, length, reverse, Bool, true, false, cond, Option, None, Some, Result, Ok, Err, refl, sym, ap, subst, ◌∙◌, append_assoc, nat_lt, ◌^◌, ◌<◌, suc, take, inl, inr, arith}
use Rattle.std.specs.Prelude.{◌≢◌, IsTrue, ◌||◌, slice_get}
use Rattle.std.specs.List.{AllByRecursion, filter, flat_map, list_any}
use Rattle.std.specs.Option.{option_or, option_to_list}
use Rattle.std.proofs.lemmas.Bool.{false≢true}
use Rattle.std.proofs.lemmas.List.{append-nil, reverse-append}
use Rattle.std.proofs.lemmas.Grind.{flat_map-append}
use mathlib.Core.List.{reverse_aux, reverse_aux-eq}
use Rattle.list_laws.proofs.Choices.{or_none}
use Rattle.gtid_set.specs.Position.{has, IsCanonical, union_of, within_of}
use Rattle.gtid_set.specs.Text.{position_of_text}
use Rattle.gtid_set.specs.declared.fault.GtidFault.{GtidFault}
use Rattle.gtid_set.proofs.Joined.{canonical-intervals}
use Rattle.gtid_set.proofs.Within.{within-pairs, pairs-within, union-pairs, canonical-union, union-superset}
use Rattle.gtid_set.proofs.Parsed.{position-canonical}
use Rattle.vevent.specs.EventValue.{EventValue, Gtid, Begin, Commit, Rollback, Row, Field, Vgtid, Ignored}
use Rattle.source_feed.specs.declared.fault.FeedFault.{FeedFault}
use Rattle.source_feed.specs.declared.fault.FeedFault.TheVariants.{FeedTooLong, OpenAtEnd, Misplaced}
use Rattle.source_feed.specs.EventList.{events_of_feed}
use Rattle.source_feed.specs.GroupValue.{Position, TableChangeValue, GroupValue}
use Rattle.source_feed.specs.SourceValue.{SourceValue, own_gtid, table_in_source}
use Rattle.source_feed.specs.PastEvents.{PastEvents, is_open, past_set, past_set_of_text, position_of, body_position, width_of}
use Rattle.source_feed.specs.Groups.{Block, block_at, block_at_position, with_block, seen, group_of_block, groups_of, row_fault, position_fault, entry_fault, commit_fault, fault_at, first_fault, closed, groups_in, groups}
use Rattle.source_feed.specs.Grammar.{blocks, is_inner, last_position_in, changes_at, inside}
use Rattle.source_feed.specs.Private.SetLaws.{SetLaws}
use Rattle.source_feed.proofs.Options.{option_or-nothing, option_or-assoc}
use Rattle.source_feed.proofs.OrderLaws.{ends_well, grown}
use Rattle.source_feed.proofs.GrammarLaws.{block_grammar}
use Rattle.run_says.specs.Positions.{IsPositionText}
use Rattle.run_says.specs.Transactions.{position_text, HasLast, AreInner, AreBlocks, no_more, committed, rolled_back, lone_position, anything_else, IsRepeat, AreChanges, no_block, left_out, fresh}
use Rattle.run_says.proofs.PositionLaws.{position_says}

-- ---- the position that an event carries

-- an event carries no position, or one that can be read
data Carries (source : SourceValue) (event : EventValue) : Type 0 where
  carries_none : position_text source event ≡ None → position_of source event ≡ None → Carries source event
  carries_one : (text : List ℕ) (position : Position) → position_text source event ≡ Some text → position_of_text text ≡ Ok position → position_of source event ≡ Some position → Carries source event

carried : (source : SourceValue) (earlier : PastEvents) (event : EventValue) (text : List ℕ) (r : Result Position GtidFault) → position_text source event ≡ Some text → position_of source event ≡ past_set (position_of_text text) → position_of_text text ≡ r
    → position_fault source earlier r ≡ None → Carries source event
carried source earlier event text (Ok position) carries at is e = carries_one text position carries is (at ∙ ap past_set is)
carried source earlier event text (Err fault) carries at is e = absurd cc

own_carried : (source : SourceValue) (earlier : PastEvents) (event : EventValue) (text : Option (List ℕ)) → position_text source event ≡ text → position_of source event ≡ past_set_of_text text → entry_fault source earlier text ≡ None → Carries source event
own_carried source earlier event None carries at e = absurd cc
own_carried source earlier event (Some text) carries at e = carried source earlier event text (position_of_text text) carries at refl e

carries : (source : SourceValue) (earlier : PastEvents) (event : EventValue) → fault_at source earlier event ≡ None → Carries source event
carries source earlier (Gtid text) e = carried source earlier (Gtid text) text (position_of_text text) refl refl refl e
carries source earlier (Vgtid entries) e = own_carried source earlier (Vgtid entries) (own_gtid source entries) refl refl e
carries source earlier Begin e = carries_none refl refl
carries source earlier Commit e = carries_none refl refl
carries source earlier Rollback e = carries_none refl refl
carries source earlier (Row name changes) e = carries_none refl refl
carries source earlier (Field name columns) e = carries_none refl refl
carries source earlier (Ignored which) e = carries_none refl refl

none_of : (source : SourceValue) (event : EventValue) → Carries source event → position_of source event ≡ None → position_text source event ≡ None
none_of source event (carries_none text position) e = text
none_of source event (carries_one text position carries is at) e = absurd cc

none_carried : (source : SourceValue) (body : List EventValue) → AllByRecursion (Carries source) body → last_position_in source body ≡ None → AllByRecursion (λ event. position_text source event ≡ None) body
none_carried source [] all e = tt
none_carried source (event ∷ body) (here, others) e =
    let both = option_or-nothing (last_position_in source body) (position_of source event) e in
    (none_of source event here both.1, none_carried source body others both.0)

last_here : (source : SourceValue) (event : EventValue) (body : List EventValue) (position : Position) → Carries source event → position_of source event ≡ Some position → AllByRecursion (λ later. position_text source later ≡ None) body → HasLast source (event ∷ body) position
last_here source event body position (carries_none text at) e none = absurd cc
last_here source event body position (carries_one text read carries is at) e none =
    let both : Some read ≡ Some position = sym at ∙ e in
    let same : read ≡ position = cc in
    record { before = []; event = event; behind = body; split = refl; text = text; carries = carries; says = subst (IsPositionText text) same (position_says text read is); last = none }

last_later : (source : SourceValue) (event : EventValue) (body : List EventValue) (position : Position) → HasLast source body position → HasLast source (event ∷ body) position
last_later source event body position h = record { before = event ∷ h.before; event = h.event; behind = h.behind; split = ap (λ xs. event ∷ xs) h.split; text = h.text; carries = h.carries; says = h.says; last = h.last }

has_last : (source : SourceValue) (body : List EventValue) (position : Position) → AllByRecursion (Carries source) body → last_position_in source body ≡ Some position → HasLast source body position
has_last source [] position all e = absurd cc
has_last source (event ∷ body) position (here, others) e = of_rest (last_position_in source body) refl e (λ p is. has_last source body p others is)
  where
    of_rest : (rest : Option Position) → last_position_in source body ≡ rest → option_or rest (position_of source event) ≡ Some position → ((p : Position) → last_position_in source body ≡ Some p → HasLast source body p) → HasLast source (event ∷ body) position
    of_rest (Some p) is both later = let same : p ≡ position = cc in last_later source event body position (subst (HasLast source body) same (later p is))
    of_rest None is both later = last_here source event body position here both (none_carried source body others is)

-- ---- an open transaction

still_open : (event : EventValue) (past : PastEvents) → is_inner event ≡ true → is_open (event ∷ past) ≡ is_open past
still_open Begin past e = absurd cc
still_open Commit past e = absurd cc
still_open Rollback past e = absurd cc
still_open (Gtid text) past e = refl
still_open (Vgtid entries) past e = refl
still_open (Row name changes) past e = refl
still_open (Field name columns) past e = refl
still_open (Ignored which) past e = refl

position_behind : (source : SourceValue) (event : EventValue) (past : PastEvents) → is_inner event ≡ true → body_position source (event ∷ past) ≡ option_or (position_of source event) (body_position source past)
position_behind source Begin past e = absurd cc
position_behind source Commit past e = absurd cc
position_behind source Rollback past e = absurd cc
position_behind source (Gtid text) past e = refl
position_behind source (Vgtid entries) past e = refl
position_behind source (Row name changes) past e = refl
position_behind source (Field name columns) past e = refl
position_behind source (Ignored which) past e = refl

opened_aux : (body : List EventValue) (past : PastEvents) → AreInner body → is_open past ≡ true → is_open (reverse_aux body past) ≡ true
opened_aux [] past all e = e
opened_aux (event ∷ body) past (here, others) e = opened_aux body (event ∷ past) others (still_open event past here ∙ e)

position_aux : (source : SourceValue) (body : List EventValue) (past : PastEvents) → AreInner body → body_position source (reverse_aux body past) ≡ option_or (last_position_in source body) (body_position source past)
position_aux source [] past all = refl
position_aux source (event ∷ body) past (here, others) =
    position_aux source body (event ∷ past) others ∙ ap (option_or (last_position_in source body)) (position_behind source event past here)
    ∙ option_or-assoc (last_position_in source body) (position_of source event) (body_position source past)

is_opened : (body : List EventValue) (earlier : PastEvents) → AreInner body → is_open (inside earlier body) ≡ true
is_opened body earlier all = ap is_open (sym (reverse_aux-eq body (Begin ∷ earlier))) ∙ opened_aux body (Begin ∷ earlier) all refl

position_inside : (source : SourceValue) (body : List EventValue) (earlier : PastEvents) → AreInner body → body_position source (inside earlier body) ≡ last_position_in source body
position_inside source body earlier all = ap (body_position source) (sym (reverse_aux-eq body (Begin ∷ earlier))) ∙ position_aux source body (Begin ∷ earlier) all ∙ or_none (last_position_in source body)

-- ---- a feed from its front: outside of a transaction, or inside of one with these events behind its BEGIN

abbrev State : Type 0
State = Option (List EventValue)

abbrev history : State → PastEvents → PastEvents
history None earlier = earlier
history (Some body) earlier = inside earlier body

abbrev written : State → List EventValue → List EventValue
written None later = later
written (Some body) later = Begin ∷ body ++ later

abbrev IsState : SourceValue → State → Type 0
IsState source None = Unit {0}
IsState source (Some body) = AreInner body × AllByRecursion (Carries source) body

record Sound (source : SourceValue) (past : PastEvents) : Type 0 where
  faultless : first_fault source past ≡ None
  shut : is_open past ≡ false

record Grouped (source : SourceValue) (events : List EventValue) (earlier behind : PastEvents) : Type 0 where
  all : List Block
  are : AreBlocks source events all
  same : blocks source behind ≡ blocks source earlier ++ all

abbrev Goes : SourceValue → List EventValue → Type 0
Goes source later = (state : State) (earlier : PastEvents) → IsState source state → is_open earlier ≡ false → Sound source (reverse_aux later (history state earlier)) → Grouped source (written state later) earlier (reverse_aux later (history state earlier))

-- what is sound at its end has no fault before it
front_faultless : (source : SourceValue) (later : List EventValue) (past : PastEvents) → first_fault source (reverse_aux later past) ≡ None → first_fault source past ≡ None
front_faultless source [] past e = e
front_faultless source (event ∷ later) past e = (option_or-nothing (first_fault source past) (fault_at source past event) (front_faultless source later (event ∷ past) e)).0

fault_here : (source : SourceValue) (later : List EventValue) (past : PastEvents) (event : EventValue) → Sound source (reverse_aux later (event ∷ past)) → fault_at source past event ≡ None
fault_here source later past event sound = (option_or-nothing (first_fault source past) (fault_at source past event) (front_faultless source later (event ∷ past) sound.faultless)).1

-- ---- outside

behind_nothing : (source : SourceValue) (event : EventValue) (more : List EventValue) (earlier : PastEvents) → Goes source more → is_open earlier ≡ false → is_open (event ∷ earlier) ≡ false → event ≢ Begin → position_text source event ≡ None → position_of source event ≡ None
    → Sound source (reverse_aux more (event ∷ earlier)) → Grouped source (event ∷ more) earlier (reverse_aux more (event ∷ earlier))
behind_nothing source event more earlier goes shut closes begin text none sound =
    let rest = goes None (event ∷ earlier) tt closes sound in
    let here : blocks source (event ∷ earlier) ≡ blocks source earlier = (block_grammar source).outside earlier event shut ∙ ap (λ p. blocks source earlier ++ option_to_list (block_at_position p [])) none ∙ append-nil (blocks source earlier) in
    record { all = rest.all; are = anything_else event more rest.all begin text rest.are; same = rest.same ∙ ap (λ bs. bs ++ rest.all) here }

behind_position : (source : SourceValue) (event : EventValue) (more : List EventValue) (earlier : PastEvents) → Goes source more → is_open earlier ≡ false → is_open (event ∷ earlier) ≡ false → event ≢ Begin → Carries source event
    → Sound source (reverse_aux more (event ∷ earlier)) → Grouped source (event ∷ more) earlier (reverse_aux more (event ∷ earlier))
behind_position source event more earlier goes shut closes begin (carries_none text none) sound = behind_nothing source event more earlier goes shut closes begin text none sound
behind_position source event more earlier goes shut closes begin (carries_one text position carries is at) sound =
    let rest = goes None (event ∷ earlier) tt closes sound in
    let block : Block = record { position = position; changes = [] } in
    let here : blocks source (event ∷ earlier) ≡ blocks source earlier ++ block ∷ [] = (block_grammar source).outside earlier event shut ∙ ap (λ p. blocks source earlier ++ option_to_list (block_at_position p [])) at in
    record {
      all = block ∷ rest.all;
      are = lone_position event more text position rest.all carries (position_says text position is) rest.are;
      same = rest.same ∙ ap (λ bs. bs ++ rest.all) here ∙ append_assoc (blocks source earlier) (block ∷ []) rest.all;
    }

row_outside : (opened : Bool) (o : Option FeedFault) → opened ≡ false → cond opened o (Some Misplaced) ≡ None → ⊥
row_outside true o e f = absurd cc
row_outside false o e f = absurd cc

go_outside : (source : SourceValue) (event : EventValue) (more : List EventValue) (earlier : PastEvents) → Goes source more → is_open earlier ≡ false → Sound source (reverse_aux more (event ∷ earlier)) → Grouped source (event ∷ more) earlier (reverse_aux more (event ∷ earlier))
go_outside source (Gtid text) more earlier goes shut sound = behind_position source (Gtid text) more earlier goes shut shut (λ e. cc) (carries source earlier (Gtid text) (fault_here source more earlier (Gtid text) sound)) sound
go_outside source (Vgtid entries) more earlier goes shut sound = behind_position source (Vgtid entries) more earlier goes shut shut (λ e. cc) (carries source earlier (Vgtid entries) (fault_here source more earlier (Vgtid entries) sound)) sound
go_outside source Begin more earlier goes shut sound = goes (Some []) earlier (tt, tt) shut sound
go_outside source Commit more earlier goes shut sound = behind_nothing source Commit more earlier goes shut refl (λ e. cc) refl refl sound
go_outside source Rollback more earlier goes shut sound = behind_nothing source Rollback more earlier goes shut refl (λ e. cc) refl refl sound
go_outside source (Row name changes) more earlier goes shut sound = absurd (row_outside (is_open earlier) (row_fault (width_of source earlier (table_in_source source name)) changes) shut (fault_here source more earlier (Row name changes) sound))
go_outside source (Field name columns) more earlier goes shut sound = behind_nothing source (Field name columns) more earlier goes shut shut (λ e. cc) refl refl sound
go_outside source (Ignored which) more earlier goes shut sound = behind_nothing source (Ignored which) more earlier goes shut shut (λ e. cc) refl refl sound

-- ---- inside

all_behind : (P : EventValue → Type 0) (xs : List EventValue) (x : EventValue) → AllByRecursion P xs → P x → AllByRecursion P (xs ++ x ∷ [])
all_behind P [] x h k = (k, tt)
all_behind P (y ∷ xs) x (one, others) k = (one, all_behind P xs x others k)

inside_more : (body : List EventValue) (event : EventValue) (earlier : PastEvents) → inside earlier (body ++ event ∷ []) ≡ event ∷ inside earlier body
inside_more body event earlier = ap (λ xs. xs ++ Begin ∷ earlier) (reverse-append body (event ∷ []))

go_inner : (source : SourceValue) (event : EventValue) (more body : List EventValue) (earlier : PastEvents) → Goes source more → IsState source (Some body) → is_open earlier ≡ false → is_inner event ≡ true
    → Sound source (reverse_aux more (event ∷ inside earlier body)) → Grouped source (Begin ∷ body ++ event ∷ more) earlier (reverse_aux more (event ∷ inside earlier body))
go_inner source event more body earlier goes state shut inner sound =
    let past = inside_more body event earlier in
    let one = carries source (inside earlier body) event (fault_here source more (inside earlier body) event sound) in
    let grown : IsState source (Some (body ++ event ∷ [])) = (all_behind (λ e. IsTrue (is_inner e)) body event state.0 inner, all_behind (Carries source) body event state.1 one) in
    let rest = goes (Some (body ++ event ∷ [])) earlier grown shut (subst (λ (h : PastEvents). Sound source (reverse_aux more h)) (sym past) sound) in
    let split : Begin ∷ (body ++ event ∷ []) ++ more ≡ Begin ∷ body ++ event ∷ more = ap (λ xs. Begin ∷ xs) (append_assoc body (event ∷ []) more) in
    record {
      all = rest.all;
      are = subst (λ (es : List EventValue). AreBlocks source es rest.all) split rest.are;
      same = ap (λ (h : PastEvents). blocks source (reverse_aux more h)) (sym past) ∙ rest.same;
    }

open_fault : (opened : Bool) → opened ≡ true → cond opened (Some Misplaced) None ≡ None → ⊥
open_fault true e f = absurd cc
open_fault false e f = absurd cc

commit_said : (source : SourceValue) (past : PastEvents) (opened : Bool) (o : Option Position) → opened ≡ true → cond opened (commit_fault source past o) None ≡ None → (position : Position) × (o ≡ Some position)
commit_said source past true None e f = absurd cc
commit_said source past true (Some position) e f = (position, refl)
commit_said source past false o e f = absurd cc

go_commit : (source : SourceValue) (more body : List EventValue) (earlier : PastEvents) → Goes source more → IsState source (Some body) → is_open earlier ≡ false
    → Sound source (reverse_aux more (Commit ∷ inside earlier body)) → Grouped source (Begin ∷ body ++ Commit ∷ more) earlier (reverse_aux more (Commit ∷ inside earlier body))
go_commit source more body earlier goes state shut sound =
    let opened = is_opened body earlier state.0 in
    let at = position_inside source body earlier state.0 in
    let said = commit_said source (inside earlier body) (is_open (inside earlier body)) (body_position source (inside earlier body)) opened (fault_here source more (inside earlier body) Commit sound) in
    let last : last_position_in source body ≡ Some said.0 = sym at ∙ said.1 in
    let block : Block = record { position = said.0; changes = flat_map (changes_at source) body } in
    let rest = goes None (Commit ∷ inside earlier body) tt refl sound in
    let here : blocks source (Commit ∷ inside earlier body) ≡ blocks source earlier ++ block ∷ [] = (block_grammar source).committed earlier body state.0 ∙ ap (λ p. blocks source earlier ++ option_to_list (block_at_position p (flat_map (changes_at source) body))) last in
    record {
      all = block ∷ rest.all;
      are = committed body more said.0 rest.all state.0 (has_last source body said.0 state.1 last) rest.are;
      same = rest.same ∙ ap (λ bs. bs ++ rest.all) here ∙ append_assoc (blocks source earlier) (block ∷ []) rest.all;
    }

go_rollback : (source : SourceValue) (more body : List EventValue) (earlier : PastEvents) → Goes source more → IsState source (Some body) → is_open earlier ≡ false
    → Sound source (reverse_aux more (Rollback ∷ inside earlier body)) → Grouped source (Begin ∷ body ++ Rollback ∷ more) earlier (reverse_aux more (Rollback ∷ inside earlier body))
go_rollback source more body earlier goes state shut sound =
    let rest = goes None (Rollback ∷ inside earlier body) tt refl sound in
    record { all = rest.all; are = rolled_back body more rest.all state.0 rest.are; same = rest.same ∙ ap (λ bs. bs ++ rest.all) ((block_grammar source).rolled_back earlier body state.0) }

go_inside : (source : SourceValue) (event : EventValue) (more body : List EventValue) (earlier : PastEvents) → Goes source more → IsState source (Some body) → is_open earlier ≡ false
    → Sound source (reverse_aux more (event ∷ inside earlier body)) → Grouped source (Begin ∷ body ++ event ∷ more) earlier (reverse_aux more (event ∷ inside earlier body))
go_inside source Begin more body earlier goes state shut sound = absurd (open_fault (is_open (inside earlier body)) (is_opened body earlier state.0) (fault_here source more (inside earlier body) Begin sound))
go_inside source Commit more body earlier goes state shut sound = go_commit source more body earlier goes state shut sound
go_inside source Rollback more body earlier goes state shut sound = go_rollback source more body earlier goes state shut sound
go_inside source (Gtid text) more body earlier goes state shut sound = go_inner source (Gtid text) more body earlier goes state shut refl sound
go_inside source (Vgtid entries) more body earlier goes state shut sound = go_inner source (Vgtid entries) more body earlier goes state shut refl sound
go_inside source (Row name changes) more body earlier goes state shut sound = go_inner source (Row name changes) more body earlier goes state shut refl sound
go_inside source (Field name columns) more body earlier goes state shut sound = go_inner source (Field name columns) more body earlier goes state shut refl sound
go_inside source (Ignored which) more body earlier goes state shut sound = go_inner source (Ignored which) more body earlier goes state shut refl sound

goes_on : (source : SourceValue) (later : List EventValue) → Goes source later
goes_on source [] None earlier state shut sound = record { all = []; are = no_more; same = sym (append-nil (blocks source earlier)) }
goes_on source [] (Some body) earlier state shut sound = absurd (false≢true (sym sound.shut ∙ is_opened body earlier state.0))
goes_on source (event ∷ later) None earlier state shut sound = go_outside source event later earlier (goes_on source later) shut sound
goes_on source (event ∷ later) (Some body) earlier state shut sound = go_inside source event later body earlier (goes_on source later) state shut sound

pub are_blocks : (source : SourceValue) (events : List EventValue) → first_fault source (reverse events) ≡ None → is_open (reverse events) ≡ false → AreBlocks source events (blocks source (reverse events))
are_blocks source events faultless shut =
    let all = goes_on source events None [] tt refl (record { faultless = faultless; shut = shut }) in
    subst (AreBlocks source events) (sym all.same) all.are

-- ---- what stands in a feed whose groups are given

pub record IsDefined (source : SourceValue) (feed : List ℕ) (all : List GroupValue) : Type 0 where
  pub read : (events_of_feed feed).fault ≡ None
  pub faultless : first_fault source (reverse (events_of_feed feed).items) ≡ None
  pub shut : is_open (reverse (events_of_feed feed).items) ≡ false
  pub groups_are : groups_of source (reverse (events_of_feed feed).items) ≡ all

-- what is given of a history that ends so
record IsClosed (source : SourceValue) (past : PastEvents) (first end : Option FeedFault) (all : List GroupValue) : Type 0 where
  first_is : first ≡ None
  end_is : end ≡ None
  shut : is_open past ≡ false
  groups_are : groups_of source past ≡ all

shut_if : (source : SourceValue) (past : PastEvents) (opened : Bool) (all : List GroupValue) → is_open past ≡ opened → cond opened (Err OpenAtEnd) (Ok (groups_of source past)) ≡ Ok all → IsClosed source past None None all
shut_if source past true all is e = absurd cc
shut_if source past false all is e = let same : groups_of source past ≡ all = cc in record { first_is = refl; end_is = refl; shut = is; groups_are = same }

is_closed : (source : SourceValue) (past : PastEvents) (first end : Option FeedFault) (all : List GroupValue) → closed source past (option_or first end) ≡ Ok all → IsClosed source past first end all
is_closed source past (Some fault) end all e = absurd cc
is_closed source past None (Some fault) all e = absurd cc
is_closed source past None None all e = shut_if source past (is_open past) all refl e

groups_if : (source : SourceValue) (feed : List ℕ) (short : Bool) (all : List GroupValue) → cond short (groups_in source (events_of_feed feed)) (Err FeedTooLong) ≡ Ok all → groups_in source (events_of_feed feed) ≡ Ok all
groups_if source feed true all e = e
groups_if source feed false all e = absurd cc

pub is_defined : (source : SourceValue) (feed : List ℕ) (all : List GroupValue) → groups feed source ≡ Ok all → IsDefined source feed all
is_defined source feed all e =
    let past = reverse (events_of_feed feed).items in
    let is = is_closed source past (first_fault source past) (events_of_feed feed).fault all (groups_if source feed (nat_lt (length feed) (2 ^ 31)) all e) in
    record { read = is.end_is; faultless = is.first_is; shut = is.shut; groups_are = is.groups_are }

-- ---- the changes of blocks, repeats aside

set_laws : SetLaws
set_laws = record {
  subset = λ a b c d within. within-pairs a b within;
  computed = λ a b c d inside. pairs-within a b (canonical-intervals a c) d inside;
  union_around = λ a b c d within. (union-superset a b c d (within-pairs a b within)).0;
  union_within = λ a b c d within. (union-superset a b c d (within-pairs a b within)).1;
  canonical = position-canonical;
}

-- the changes of a block that lies before the end
abbrev changes_before : Option Position → Block → List TableChangeValue
changes_before None block = block.changes
changes_before (Some end) block = cond (within_of block.position end) block.changes []

-- the changes of blocks behind what was seen
abbrev kept : Option Position → Position → List Block → List TableChangeValue
kept end before [] = []
kept end before (block ∷ more) = cond (within_of block.position before) [] (changes_before end block) ++ kept end (union_of before block.position) more

-- what was seen behind blocks
abbrev reached : Position → List Block → Position
reached before [] = before
reached before (block ∷ more) = reached (union_of before block.position) more

kept_more : (end : Option Position) (before : Position) (all : List Block) (block : Block) → kept end before (all ++ block ∷ []) ≡ kept end before all ++ cond (within_of block.position (reached before all)) [] (changes_before end block)
kept_more end before [] block = append-nil (cond (within_of block.position before) [] (changes_before end block))
kept_more end before (first ∷ all) block =
    ap (λ xs. cond (within_of first.position before) [] (changes_before end first) ++ xs) (kept_more end (union_of before first.position) all block)
    ∙ sym (append_assoc (cond (within_of first.position before) [] (changes_before end first)) (kept end (union_of before first.position) all) (cond (within_of block.position (reached (union_of before first.position) all)) [] (changes_before end block)))

reached_more : (before : Position) (all : List Block) (block : Block) → reached before (all ++ block ∷ []) ≡ union_of (reached before all) block.position
reached_more before [] block = refl
reached_more before (first ∷ all) block = reached_more (union_of before first.position) all block

abbrev pub changes_in_groups : List GroupValue → List TableChangeValue
changes_in_groups all = flat_map (λ (g : GroupValue). g.changes) all

-- the groups that lie before the end
abbrev pub groups_before : Option Position → List GroupValue → List GroupValue
groups_before None all = all
groups_before (Some end) all = filter (λ (g : GroupValue). within_of g.position end) all

before_append : (end : Option Position) (xs ys : List GroupValue) → groups_before end (xs ++ ys) ≡ groups_before end xs ++ groups_before end ys
before_append None xs ys = refl
before_append (Some end) [] ys = refl
before_append (Some end) (x ∷ xs) ys = of_test (within_of x.position end) (before_append (Some end) xs ys)
  where
    of_test : (t : Bool) → groups_before (Some end) (xs ++ ys) ≡ groups_before (Some end) xs ++ groups_before (Some end) ys → cond t (x ∷ groups_before (Some end) (xs ++ ys)) (groups_before (Some end) (xs ++ ys)) ≡ cond t (x ∷ groups_before (Some end) xs) (groups_before (Some end) xs) ++ groups_before (Some end) ys
    of_test true e = ap (λ zs. x ∷ zs) e
    of_test false e = e

-- what a history's blocks and groups have in common
record Agree (end : Option Position) (source : SourceValue) (past : PastEvents) : Type 0 where
  seen_is : seen source past ≡ reached [] (blocks source past)
  changes : changes_in_groups (groups_before end (groups_of source past)) ≡ kept end [] (blocks source past)
  canonical : AllByRecursion (λ block. IsCanonical block.position) (blocks source past)

one_group : (end : Option Position) (number : ℕ) (block : Block) → changes_in_groups (groups_before end (record { number = number; position = block.position; changes = block.changes } ∷ [])) ≡ changes_before end block
one_group None number block = append-nil block.changes
one_group (Some end) number block = of_test (within_of block.position end)
  where
    of_test : (t : Bool) → changes_in_groups (cond t (record { number = number; position = block.position; changes = block.changes } ∷ []) []) ≡ cond t block.changes []
    of_test true = append-nil block.changes
    of_test false = refl

none_before : (end : Option Position) → groups_before end [] ≡ []
none_before None = refl
none_before (Some end) = refl

group_changes : (end : Option Position) (before : Position) (number : ℕ) (block : Block) → changes_in_groups (groups_before end (group_of_block before number (Some block))) ≡ cond (within_of block.position before) [] (changes_before end block)
group_changes end before number block = of_test (within_of block.position before)
  where
    of_test : (t : Bool) → changes_in_groups (groups_before end (cond t [] (record { number = number; position = block.position; changes = block.changes } ∷ []))) ≡ cond t [] (changes_before end block)
    of_test true = ap changes_in_groups (none_before end)
    of_test false = one_group end number block

block_behind : (P : Block → Type 0) (xs : List Block) (x : Block) → AllByRecursion P xs → P x → AllByRecursion P (xs ++ x ∷ [])
block_behind P [] x h k = (k, tt)
block_behind P (y ∷ xs) x (front, others) k = (front, block_behind P xs x others k)

agree_more : (end : Option Position) (source : SourceValue) (earlier : PastEvents) (event : EventValue) (o : Option Block) → block_at source earlier event ≡ o → fault_at source earlier event ≡ None → Agree end source earlier → Agree end source (event ∷ earlier)
agree_more end source earlier event None is fault before =
    let same : blocks source (event ∷ earlier) ≡ blocks source earlier = ap (λ b. blocks source earlier ++ option_to_list b) is ∙ append-nil (blocks source earlier) in
    record {
      seen_is = ap (with_block (seen source earlier)) is ∙ before.seen_is ∙ ap (reached []) (sym same);
      changes = ap (λ b. changes_in_groups (groups_before end (groups_of source earlier ++ group_of_block (seen source earlier) (length (groups_of source earlier) + 1) b))) is ∙ ap (λ gs. changes_in_groups (groups_before end gs)) (append-nil (groups_of source earlier)) ∙ before.changes ∙ ap (kept end []) (sym same);
      canonical = subst (AllByRecursion (λ (block : Block). IsCanonical block.position)) (sym same) before.canonical;
    }
agree_more end source earlier event (Some block) is fault before =
    let same : blocks source (event ∷ earlier) ≡ blocks source earlier ++ block ∷ [] = ap (λ b. blocks source earlier ++ option_to_list b) is in
    let new = group_of_block (seen source earlier) (length (groups_of source earlier) + 1) (Some block) in
    record {
      seen_is = ap (with_block (seen source earlier)) is ∙ ap (λ p. union_of p block.position) before.seen_is ∙ sym (reached_more [] (blocks source earlier) block) ∙ ap (reached []) (sym same);
      changes = ap (λ b. changes_in_groups (groups_before end (groups_of source earlier ++ group_of_block (seen source earlier) (length (groups_of source earlier) + 1) b))) is
          ∙ ap changes_in_groups (before_append end (groups_of source earlier) new)
          ∙ flat_map-append (λ (g : GroupValue). g.changes) (groups_before end (groups_of source earlier)) (groups_before end new)
          ∙ ap (λ xs. changes_in_groups (groups_before end (groups_of source earlier)) ++ xs) (group_changes end (seen source earlier) (length (groups_of source earlier) + 1) block)
          ∙ ap (λ xs. xs ++ cond (within_of block.position (seen source earlier)) [] (changes_before end block)) before.changes
          ∙ ap (λ p. kept end [] (blocks source earlier) ++ cond (within_of block.position p) [] (changes_before end block)) before.seen_is
          ∙ sym (kept_more end [] (blocks source earlier) block) ∙ ap (kept end []) (sym same);
      canonical = subst (AllByRecursion (λ (b : Block). IsCanonical b.position)) (sym same) (block_behind (λ (b : Block). IsCanonical b.position) (blocks source earlier) block before.canonical (ends_well set_laws source earlier event block is fault).canonical);
    }

agree : (end : Option Position) (source : SourceValue) (past : PastEvents) → first_fault source past ≡ None → Agree end source past
agree end source [] e = record { seen_is = refl; changes = ap changes_in_groups (none_before end); canonical = tt }
agree end source (event ∷ earlier) e =
    let both = option_or-nothing (first_fault source earlier) (fault_at source earlier event) e in
    agree_more end source earlier event (block_at source earlier event) refl both.1 (agree end source earlier both.0)

abbrev one_has : List Block → ℕ → ℕ → Bool
one_has earlier uuid number = list_any (λ (block : Block). has block.position uuid number) earlier

or_swap : (a b : Bool) → (a || b) ≡ (b || a)
or_swap true true = refl
or_swap true false = refl
or_swap false true = refl
or_swap false false = refl

-- an end that is given is a set
abbrev pub IsEnd : Option Position → Type 0
IsEnd None = Unit {0}
IsEnd (Some end) = IsCanonical end

-- a block that is no repeat, by whether it lies before the end
end_if : (end : Option Position) (earlier all : List Block) (block : Block) (others : List TableChangeValue) → IsEnd end → IsCanonical block.position → ¬ IsRepeat earlier block → AreChanges end (block ∷ earlier) all others → AreChanges end earlier (block ∷ all) (changes_before end block ++ others)
end_if None earlier all block others set canonical new rest = fresh earlier block all others new tt rest
end_if (Some end) earlier all block others set canonical new rest = of_test (within_of block.position end) refl
  where
    of_test : (t : Bool) → within_of block.position end ≡ t → AreChanges (Some end) earlier (block ∷ all) (cond t block.changes [] ++ others)
    of_test true is = fresh earlier block all others new (within-pairs block.position end is) rest
    of_test false is = left_out earlier block all others (inr (λ inside. false≢true (sym is ∙ pairs-within block.position end (canonical-intervals block.position canonical) set inside))) rest

changes_from : (end : Option Position) (before : Position) (earlier all : List Block) → IsEnd end → IsCanonical before → AllByRecursion (λ block. IsCanonical block.position) all → ((uuid number : ℕ) → has before uuid number ≡ one_has earlier uuid number)
    → AreChanges end earlier all (kept end before all)
changes_from end before earlier [] set canonical each same = no_block earlier
changes_from end before earlier (block ∷ all) set canonical (here, others) same =
    let rest = changes_from end (union_of before block.position) (block ∷ earlier) all set (canonical-union before block.position canonical here) others
    (λ u n. union-pairs before block.position canonical here u n ∙ ap (λ b. b || has block.position u n) (same u n) ∙ or_swap (one_has earlier u n) (has block.position u n)) in
    of_test (within_of block.position before) refl rest
  where
    of_test : (t : Bool) → within_of block.position before ≡ t → AreChanges end (block ∷ earlier) all (kept end (union_of before block.position) all) → AreChanges end earlier (block ∷ all) (cond t [] (changes_before end block) ++ kept end (union_of before block.position) all)
    of_test true is rest = left_out earlier block all (kept end (union_of before block.position) all) (inl (λ u n h. sym (same u n) ∙ within-pairs block.position before is u n h)) rest
    of_test false is rest =
        end_if end earlier all block (kept end (union_of before block.position) all) set here
        (λ repeats. false≢true (sym is ∙ pairs-within block.position before (canonical-intervals block.position here) canonical (λ u n h. same u n ∙ repeats u n h))) rest

pub are_changes : (end : Option Position) (source : SourceValue) (past : PastEvents) → IsEnd end → first_fault source past ≡ None → AreChanges end [] (blocks source past) (changes_in_groups (groups_before end (groups_of source past)))
are_changes end source past set e =
    let both = agree end source past e in
    subst (AreChanges end [] (blocks source past)) (sym both.changes) (changes_from end [] [] (blocks source past) set tt both.canonical (λ u n. refl))

-- ---- the groups up to an end are the first ones

-- what isn't so at the front isn't so behind it
none_later : {A : Type 0} (p : A → Bool) (x : A) (xs : List A) → p x ≡ false → ((j : ℕ) (y : A) → slice_get xs j ≡ Some y → p y ≡ true → p x ≡ true) → filter p xs ≡ []
none_later p x [] e h = refl
none_later {A} p x (y ∷ xs) e h = of_test (p y) refl (none_later p x xs e (λ j z is. h (suc j) z is))
  where
    of_test : (t : Bool) → p y ≡ t → filter p xs ≡ [] → cond t (y ∷ filter p xs) (filter p xs) ≡ []
    of_test true is rest = absurd (false≢true (sym e ∙ h 0 y refl is))
    of_test false is rest = rest

first_ones : {A : Type 0} (p : A → Bool) (xs : List A) → ((i j : ℕ) (x y : A) → i < j → slice_get xs i ≡ Some x → slice_get xs j ≡ Some y → p y ≡ true → p x ≡ true) → take (length (filter p xs)) xs ≡ filter p xs
first_ones p [] h = refl
first_ones {A} p (x ∷ xs) h = of_test (p x) refl (first_ones p xs (λ i j a b less. h (suc i) (suc j) a b (omega (arith, less))))
  where
    of_test : (t : Bool) → p x ≡ t → take (length (filter p xs)) xs ≡ filter p xs → take (length (cond t (x ∷ filter p xs) (filter p xs))) (x ∷ xs) ≡ cond t (x ∷ filter p xs) (filter p xs)
    of_test true is rest = ap (λ ys. x ∷ ys) rest
    of_test false is rest =
        let empty : filter p xs ≡ [] = none_later p x xs is (λ j y y_is. h 0 (suc j) x y (omega arith) refl y_is) in
        ap (λ (ys : List A). take (length ys) (x ∷ xs)) empty ∙ sym empty

pub groups_are_first : (source : SourceValue) (past : PastEvents) (end : Position) → IsCanonical end → first_fault source past ≡ None → take (length (filter (λ (g : GroupValue). within_of g.position end) (groups_of source past))) (groups_of source past) ≡ groups_before (Some end) (groups_of source past)
groups_are_first source past end set e =
    let order = (grown set_laws source past e).order in
    first_ones (λ (g : GroupValue). within_of g.position end) (groups_of source past) (λ i j x y less x_is y_is inside.
    pairs-within x.position end (canonical-intervals x.position (order.canonical i x x_is)) set (λ u n h. within-pairs y.position end inside u n ((order.growing i j x y less x_is y_is).0 u n h)))
