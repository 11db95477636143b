-- Feeds that grow by what has come, one after another.
use Rattle.std.proofs.Common.{◌≡◌, ◌≢◌, ◌⊎◌, inl, inr, ℕ, zero, suc, ◌+◌, ◌<◌, Bool, true, false, Option, ◌≤◌, List, map, get_or, [], ◌∷◌, ◌++◌, length, take, drop, append_assoc, length-append, None, Some, slice_get, set, refl, sym, ap, subst, ◌∙◌, arith}
use Rattle.std.proofs.lemmas.List.{take-append-drop}
use Rattle.std.proofs.Math.Nat.{eq-or-lt_of_le}
use Rattle.std.proofs.lemmas.Option.{get_or_from_slice_get, same_Some, slice_get_within}
use Rattle.list_laws.proofs.Places.{slice_get-set_other, slice_get-set_same}
use Rattle.source_feed.specs.Planned.{FeedValue, PlannedGroupValue}
use Rattle.apply_core.specs.Growing.{IsLonger}
use Rattle.source_feed.specs.declared.fault.FeedFault.{FeedFault}
use Rattle.live_core.specs.Live.{IsPieceAtFault, LiveValue, TakesPiece}
use Rattle.live_session.specs.Answered.{AreStepped, unstepped}
use Rattle.live_session.specs.Growths.{AreFollowed, HasGrown, HaveCome, HaveGrown, IsAsked, IsNoted, IsStill, IsThereLonger, is_closed, total}
use Rattle.live_session.specs.declared.arrivals.ArrivalFault.{ArrivalFault}
use Rattle.live_session.specs.declared.seat.Seat.{Seat}
use Rattle.live_session.specs.declared.seat.Stopped.{Stopped}
use Rattle.live_session.specs.declared.seat.Stopped.TheVariants.{File, Bytes}

none-behind : {A : Type 0} (xs : List A) → xs ++ [] ≡ xs
none-behind [] = refl
none-behind {A} (x ∷ xs) = ap (λ (rest : List A). x ∷ rest) (none-behind xs)

-- ---- bytes

still : (bytes : List ℕ) (all : List (List ℕ)) (s : ℕ) → slice_get all s ≡ Some bytes → AreFollowed bytes all s
still bytes all s known = record { more = []; known = known ∙ ap Some (sym (none-behind bytes)) }

followed-more : (bytes : List ℕ) (between all : List (List ℕ)) (s : ℕ) (first : AreFollowed bytes between s) → AreFollowed (bytes ++ first.more) all s → AreFollowed bytes all s
followed-more bytes between all s first second = record { more = first.more ++ second.more; known = second.known ∙ ap Some (append_assoc bytes first.more second.more) }

followed-set : (all : List (List ℕ)) (s t : ℕ) (bytes more one : List ℕ) → slice_get all s ≡ Some bytes → slice_get all t ≡ Some one → AreFollowed one (set all s (bytes ++ more)) t
followed-set [] s t bytes more one known there = cc
followed-set (b ∷ bs) zero zero bytes more one known there = record { more = more; known = ap (λ (xs : List ℕ). Some (xs ++ more)) (same_Some bytes one (sym known ∙ there)) }
followed-set (b ∷ bs) zero (suc t) bytes more one known there = record { more = []; known = there ∙ ap Some (sym (none-behind one)) }
followed-set (b ∷ bs) (suc s) zero bytes more one known there = record { more = []; known = there ∙ ap Some (sym (none-behind one)) }
followed-set (b ∷ bs) (suc s) (suc t) bytes more one known there = let later = followed-set bs s t bytes more one known there in record { more = later.more; known = later.known }

total-set : (all : List (List ℕ)) (s : ℕ) (bytes more : List ℕ) → slice_get all s ≡ Some bytes → total (set all s (bytes ++ more)) ≡ total all + length more
total-set [] s bytes more known = cc
total-set (b ∷ bs) zero bytes more known =
    let same : b ≡ bytes = same_Some b bytes known in
    let size : length b ≡ length bytes = ap length same in
    omega (arith, length-append bytes more, size)
total-set (b ∷ bs) (suc s) bytes more known = let later = total-set bs s bytes more known in omega (arith, later)

-- ---- feeds

feed-still : (feed : FeedValue) (feeds : List FeedValue) (s : ℕ) → slice_get feeds s ≡ Some feed → IsThereLonger feed feeds s
feed-still feed feeds s there = record { after = feed; there = there; plan = refl; more = []; groups = sym (none-behind feed.groups) }

longer-more : (feed : FeedValue) (between all : List FeedValue) (s : ℕ) (first : IsThereLonger feed between s) → IsThereLonger first.after all s → IsThereLonger feed all s
longer-more feed between all s first second = record {
  after = second.after;
  there = second.there;
  plan = second.plan ∙ first.plan;
  more = first.more ++ second.more;
  groups = second.groups ∙ ap (λ (gs : List PlannedGroupValue). gs ++ second.more) first.groups ∙ append_assoc feed.groups first.more second.more;
}

behind : (old new : FeedValue) → IsLonger old new → new.groups ≡ old.groups ++ drop (length old.groups) new.groups
behind old new longer =
    sym (take-append-drop (length old.groups) new.groups) ∙ ap (λ (gs : List PlannedGroupValue). gs ++ drop (length old.groups) new.groups) longer.begins

longer-set : (feeds : List FeedValue) (s t : ℕ) (before after one : FeedValue) → IsLonger before after → slice_get feeds s ≡ Some before → slice_get feeds t ≡ Some one → IsThereLonger one (set feeds s after) t
longer-set [] s t before after one longer known there = cc
longer-set (f ∷ fs) zero zero before after one longer known there =
    let same : before ≡ one = same_Some before one (sym known ∙ there) in
    record {
      after = after;
      there = refl;
      plan = longer.plan ∙ ap (λ (feed : FeedValue). feed.plan) same;
      more = drop (length before.groups) after.groups;
      groups = behind before after longer ∙ ap (λ (feed : FeedValue). feed.groups ++ drop (length before.groups) after.groups) same;
    }
longer-set (f ∷ fs) zero (suc t) before after one longer known there = record { after = one; there = there; plan = refl; more = []; groups = sym (none-behind one.groups) }
longer-set (f ∷ fs) (suc s) zero before after one longer known there = record { after = one; there = there; plan = refl; more = []; groups = sym (none-behind one.groups) }
longer-set (f ∷ fs) (suc s) (suc t) before after one longer known there =
    let later = longer-set fs s t before after one longer known there in
    record { after = later.after; there = later.there; plan = later.plan; more = later.more; groups = later.groups }

length-put : {A : Type 0} (xs : List A) (s : ℕ) (x : A) → length (set xs s x) ≡ length xs
length-put [] s x = refl
length-put (y ∷ ys) zero x = refl
length-put (y ∷ ys) (suc s) x = ap suc (length-put ys s x)

length-front : {A : Type 0} (n : ℕ) (xs : List A) → n ≤ length xs → length (take n xs) ≡ n
length-front zero xs h = refl
length-front (suc n) [] h = absurd (omega (arith, h))
length-front (suc n) (x ∷ xs) h = ap suc (length-front n xs (omega (arith, h)))

-- ---- all

pub come_none : (old new : LiveValue) → new ≡ old → HaveCome 0 old new
come_none old new same = record {
  board = ap (λ (live : LiveValue). live.fed.board) same;
  told = ap (λ (live : LiveValue). live.told) same;
  number = ap (λ (live : LiveValue). length live.fed.feeds) same;
  many = let eq : total new.bytes ≡ total old.bytes = ap (λ (live : LiveValue). total live.bytes) same in omega (arith, eq);
  bytes = λ s bytes known. still bytes new.bytes s (ap (λ (live : LiveValue). slice_get live.bytes s) same ∙ known);
  feeds = λ s feed there. feed-still feed new.fed.feeds s (ap (λ (live : LiveValue). slice_get live.fed.feeds s) same ∙ there);
}

pub come-more : (n m k : ℕ) (old between new : LiveValue) → HaveCome n old between → HaveCome m between new → k ≡ n + m → HaveCome k old new
come-more n m k old between new first second sum = record {
  board = second.board ∙ first.board;
  told = second.told ∙ first.told;
  number = second.number ∙ first.number;
  many = omega (arith, first.many, second.many, sum);
  bytes = λ s bytes known. let one = first.bytes s bytes known in followed-more bytes between.bytes new.bytes s one (second.bytes s (bytes ++ one.more) one.known);
  feeds = λ s feed there. let one = first.feeds s feed there in longer-more feed between.fed.feeds new.fed.feeds s one (second.feeds s one.after one.there);
}

pub come-one : (s : ℕ) (piece : List ℕ) (taken : ℕ) (old new : LiveValue) → TakesPiece s piece taken old.fed.feeds new.fed.feeds old.bytes new.bytes → new.fed.board ≡ old.fed.board → new.told ≡ old.told → HaveCome taken old new
come-one s piece taken old new took board told = record {
  board = board;
  told = told;
  number = ap length took.feeds ∙ length-put old.fed.feeds s took.after;
  many =
      let size : length (take taken piece) ≡ taken = length-front taken piece took.within in
      let whole : total new.bytes ≡ total old.bytes + length (take taken piece) = ap total took.grown ∙ total-set old.bytes s took.bytes (take taken piece) took.known in
      omega (arith, size, whole);
  bytes = λ t bytes known. subst (λ (all : List (List ℕ)). AreFollowed bytes all t) (sym took.grown) (followed-set old.bytes s t took.bytes (take taken piece) bytes took.known known);
  feeds = λ t feed there. subst (λ (all : List FeedValue). IsThereLonger feed all t) (sym took.feeds) (longer-set old.fed.feeds s t took.before took.after feed took.longer took.there there);
}

-- ---- what there is

-- there is an item at each place within a list
pub is_there : {A : Type 0} (X : Type 0) (xs : List A) (s : ℕ) → slice_get xs s ≡ None → s < length xs → X
is_there X [] s none within = absurd (omega (arith, within))
is_there X (x ∷ xs) zero none within = cc
is_there X (x ∷ xs) (suc s) none within = is_there X xs s none (omega (arith, within))

-- ---- what is still

still-same : (s : ℕ) (old new : LiveValue) → new ≡ old → IsStill s old new
still-same s old new same = record { bytes = ap (λ (live : LiveValue). slice_get live.bytes s) same; feed = ap (λ (live : LiveValue). slice_get live.fed.feeds s) same }

still-on : (s : ℕ) (old between new : LiveValue) → IsStill s old between → IsStill s between new → IsStill s old new
still-on s old between new first second = record { bytes = second.bytes ∙ first.bytes; feed = second.feed ∙ first.feed }

-- the others are still where a piece is taken
still-taken : (s : ℕ) (piece : List ℕ) (taken : ℕ) (old new : LiveValue) → TakesPiece s piece taken old.fed.feeds new.fed.feeds old.bytes new.bytes → (t : ℕ) → t ≢ s → IsStill t old new
still-taken s piece taken old new took t other = record {
  bytes = ap (λ (all : List (List ℕ)). slice_get all t) took.grown ∙ slice_get-set_other old.bytes s (took.bytes ++ take taken piece) t other;
  feed = ap (λ (feeds : List FeedValue). slice_get feeds t) took.feeds ∙ slice_get-set_other old.fed.feeds s took.after t other;
}

pub others_same : (s : ℕ) (old new : LiveValue) → new ≡ old → (t : ℕ) → t ≢ s → IsStill t old new
others_same s old new same t other = still-same t old new same

pub others_noted : (s : ℕ) (piece : List ℕ) (taken : ℕ) (stopped : Option Stopped) (old new : LiveValue) → IsNoted s piece taken stopped old new → (t : ℕ) → t ≢ s → IsStill t old new
others_noted s piece taken None old new noted = still-taken s piece taken old new noted
others_noted s piece taken (Some (Bytes fault)) old new noted = others_same s old new noted.0
others_noted s piece taken (Some (File fault)) old new noted = absurd noted

-- the same fault behind the same bytes
at-fault-same : (s : ℕ) (piece : List ℕ) (old new : LiveValue) (fault : FeedFault) → IsStill s new old → IsPieceAtFault s piece old.fed.feeds old.bytes fault → IsPieceAtFault s piece new.fed.feeds new.bytes fault
at-fault-same s piece old new fault same h = record { bytes = h.bytes; known = sym same.bytes ∙ h.known; feed = h.feed; there = sym same.feed ∙ h.there; why = h.why }

-- ---- what is noted

-- what is noted of a piece is noted of a feed that was asked
pub asked_by : (s : ℕ) (piece : List ℕ) (taken : ℕ) (stopped : Option Stopped) (old new : LiveValue) → IsNoted s piece taken stopped old new → IsAsked s stopped old new
asked_by s piece taken None old new noted = tt
asked_by s piece taken (Some (Bytes fault)) old new noted = record { still = still-same s old new noted.0; piece = piece; why = noted.1 }
asked_by s piece taken (Some (File fault)) old new noted = absurd noted

pub asked_in_vain : (s : ℕ) (fault : ArrivalFault) (old new : LiveValue) → new ≡ old → IsAsked s (Some (File fault)) old new
asked_in_vain s fault old new same = still-same s old new same

pub grown_closed : (closed : Bool) (s : ℕ) (before after : Seat) (old new : LiveValue) → closed ≡ true → after ≡ before → new ≡ old → HasGrown closed s before after old new
grown_closed true s before after old new is seat live = record { still = still-same s old new live; stopped = ap (λ (one : Seat). one.stopped) seat; tail = ap (λ (one : Seat). one.tail) seat }
grown_closed false s before after old new is seat live = cc

pub grown_asked : (closed : Bool) (s : ℕ) (before after : Seat) (old new : LiveValue) → closed ≡ false → IsAsked s after.stopped old new → HasGrown closed s before after old new
grown_asked true s before after old new is asked = cc
grown_asked false s before after old new is asked = asked

-- ---- one feed after another

asked-on : (s : ℕ) (stopped : Option Stopped) (old between new : LiveValue) → IsAsked s stopped old between → IsStill s between new → IsAsked s stopped old new
asked-on s None old between new asked still_on = tt
asked-on s (Some (Bytes fault)) old between new asked still_on = record { still = still-on s old between new asked.still still_on; piece = asked.piece; why = asked.why }
asked-on s (Some (File fault)) old between new asked still_on = still-on s old between new asked still_on

grown-on : (closed : Bool) (s : ℕ) (before after : Seat) (old between new : LiveValue) → HasGrown closed s before after old between → IsStill s between new → HasGrown closed s before after old new
grown-on true s before after old between new grown still_on = record { still = still-on s old between new grown.still still_on; stopped = grown.stopped; tail = grown.tail }
grown-on false s before after old between new grown still_on = asked-on s after.stopped old between new grown still_on

asked-later : (s : ℕ) (stopped : Option Stopped) (old between new : LiveValue) → IsStill s old between → IsAsked s stopped between new → IsAsked s stopped old new
asked-later s None old between new first asked = tt
asked-later s (Some (Bytes fault)) old between new first asked = record { still = still-on s old between new first asked.still; piece = asked.piece; why = at-fault-same s asked.piece between old fault first asked.why }
asked-later s (Some (File fault)) old between new first asked = still-on s old between new first asked

grown-later : (closed : Bool) (s : ℕ) (before after : Seat) (old between new : LiveValue) → IsStill s old between → HasGrown closed s before after between new → HasGrown closed s before after old new
grown-later true s before after old between new first grown = record { still = still-on s old between new first grown.still; stopped = grown.stopped; tail = grown.tail }
grown-later false s before after old between new first grown = asked-later s after.stopped old between new first grown

-- the first n feeds have grown, and the others stand with their seats as they stood
pub record HaveGrownTo (n : ℕ) (starts seats : List Seat) (old new : LiveValue) : Type 0 where
  pub grown : (t : ℕ) (before after : Seat) → t < n → slice_get starts t ≡ Some before → slice_get seats t ≡ Some after → HasGrown (is_closed before) t before after old new
  pub still : (t : ℕ) → n ≤ t → IsStill t old new
  pub same : (t : ℕ) → n ≤ t → slice_get seats t ≡ slice_get starts t

pub grown-none : (seats : List Seat) (live : LiveValue) → HaveGrownTo 0 seats seats live live
grown-none seats live = record {
  grown = λ t before after less at found. absurd (omega (arith, less));
  still = λ t later. still-same t live live refl;
  same = λ t later. refl;
}

pub grown-one : (s : ℕ) (starts seats : List Seat) (item after : Seat) (old between new : LiveValue) → item ≡ get_or seats s item → HasGrown (is_closed item) s item after between new → ((t : ℕ) → t ≢ s → IsStill t between new) → HaveGrownTo s starts seats old between
    → HaveGrownTo (s + 1) starts (set seats s after) old new
grown-one s starts seats item after old between new is here others before = record {
  grown = λ t b a less at found. by t b a at found (eq-or-lt_of_le (let within : t ≤ s = omega (arith, less) in within));
  still = λ t later. still-on t old between new (before.still t (omega (arith, later))) (others t (λ e. omega (arith, e, later)));
  same = λ t later. slice_get-set_other seats s after t (λ e. omega (arith, e, later)) ∙ before.same t (omega (arith, later));
}
  where
    by : (t : ℕ) (b a : Seat) → slice_get starts t ≡ Some b → slice_get (set seats s after) t ≡ Some a → (t ≡ s) ⊎ (t < s) → HasGrown (is_closed b) t b a old new
    by t b a at found (inr earlier) =
        grown-on (is_closed b) t b a old between new (before.grown t b a earlier at (sym (slice_get-set_other seats s after t (λ e. omega (arith, e, earlier))) ∙ found)) (others t (λ e. omega (arith, e, earlier)))
    by t b a at found (inl same) =
        let place : slice_get seats s ≡ Some b = before.same s (omega arith) ∙ (ap (λ n. slice_get starts n) (sym same) ∙ at) in
        let item_is : item ≡ b = is ∙ get_or_from_slice_get seats s b item place in
        let end_is : after ≡ a = same_Some after a (sym (slice_get-set_same seats s after b place) ∙ (ap (λ n. slice_get (set seats s after) n) (sym same) ∙ found)) in
        let here_all : HasGrown (is_closed item) s item after old new = grown-later (is_closed item) s item after old between new (before.still s (omega arith)) here in
        subst (λ n. HasGrown (is_closed b) n b a old new) (sym same)
        (subst (λ (one : Seat). HasGrown (is_closed b) s b one old new) end_is (subst (λ (one : Seat). HasGrown (is_closed one) s one after old new) item_is here_all))

pub grown-all : (n : ℕ) (starts seats : List Seat) (old new : LiveValue) → length starts ≤ n → HaveGrownTo n starts seats old new → HaveGrown starts seats old new
grown-all n starts seats old new all so_far s before after at found = so_far.grown s before after (let within = slice_get_within starts s before at in omega (arith, within, all)) at found

-- ---- behind the steps

-- what stands at a place, but for the step, stood there
stepped-at : (befores afters : List Seat) (s : ℕ) (after : Seat) → AreStepped befores afters → slice_get afters s ≡ Some after → (before : Seat) × (slice_get befores s ≡ Some before) × (unstepped after ≡ unstepped before)
stepped-at befores [] s after is found = cc
stepped-at [] (a ∷ later) s after is found = cc
stepped-at (b ∷ bs) (a ∷ later) zero after is found =
    let first : unstepped a ≡ unstepped b = cc in
    (b, refl, ap unstepped (sym (same_Some a after found)) ∙ first)
stepped-at (b ∷ bs) (a ∷ later) (suc s) after is found =
    let others : map unstepped later ≡ map unstepped bs = cc in
    stepped-at bs later s after others found

grown-as : (closed : Bool) (s : ℕ) (before between after : Seat) (old new : LiveValue) → unstepped after ≡ unstepped between → HasGrown closed s before between old new → HasGrown closed s before after old new
grown-as true s before between after old new same grown = record {
  still = grown.still;
  stopped = ap (λ (seat : Seat). seat.stopped) same ∙ grown.stopped;
  tail = ap (λ (seat : Seat). seat.tail) same ∙ grown.tail;
}
grown-as false s before between after old new same grown = subst (λ (stopped : Option Stopped). IsAsked s stopped old new) (sym (ap (λ (seat : Seat). seat.stopped) same)) grown

-- the feeds have grown, where then steps are noted and neither bytes nor feeds change
pub grown-stepped : (starts betweens seats : List Seat) (old between new : LiveValue) → HaveGrown starts betweens old between → AreStepped betweens seats → new.bytes ≡ between.bytes → new.fed.feeds ≡ between.fed.feeds → HaveGrown starts seats old new
grown-stepped starts betweens seats old between new grown stepped bytes feeds s before after at found =
    let mid = stepped-at betweens seats s after stepped found in
    grown-on (is_closed before) s before after old between new (grown-as (is_closed before) s before mid.0 after old between mid.2 (grown s before mid.0 at mid.1))
    (record { bytes = ap (λ (all : List (List ℕ)). slice_get all s) bytes; feed = ap (λ (all : List FeedValue). slice_get all s) feeds })
