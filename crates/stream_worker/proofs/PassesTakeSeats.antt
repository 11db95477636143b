-- What a pass knows that takes the streams of seats, one after another.
use Rattle.std.proofs.Common.{◌≡◌, ◌≢◌, ◌⊎◌, ◌==◌, ℕ, zero, suc, ◌+◌, ◌<◌, ◌≤◌, Bool, true, false, true≢false, List, [], ◌∷◌, ◌++◌, length, length-append, take, Option, Some, None, IsSome, is_some, MatchOption, slice_get, inl, inr, ⊎_elim, refl, sym, ap, ◌∙◌, subst, arith}
use Rattle.std.proofs.lemmas.Bool.{or_left, or_from, eqb-false}
use Rattle.std.proofs.lemmas.Option.{same_Some}
use Rattle.std.specs.Option.{option_map, option_and_then}
use Rattle.std.proofs.lemmas.List.{take-take}
use borrow.Author.Tests.{eqb-true, eq-eqb, ne_eqb}
use Rattle.crossbeam_channel.specs.Claims.{view}
use Rattle.board_laws.specs.Meaning.{State}
use Rattle.board_laws.specs.Lawful.{standing_of}
use Rattle.stream_worker.specs.declared.seat.Seat.{Seat}
use Rattle.stream_worker.specs.declared.shared.Shared.{Shared}
use Rattle.stream_worker.specs.Knowing.{Laid, Knows, IsAmong, boards_of, names, with_states, states_joined, states_seen, joined_knowing, state_seen}
use Rattle.stream_worker.specs.Rule.{IsSaid, IsBoardTaken}
use Rattle.stream_worker.specs.SeatOf.{known, seat_state, IsSeatOf, AreSeatsOf, AreApartSeats, AreStatesOf, AreAllKnown, AllGoOnFromSeen, SawAsMany}
use Rattle.stream_worker.proofs.FactsOfPasses.{named_before, named_behind}
use Rattle.stream_worker.proofs.BoardsTold.{among_before, among_behind, saw_among, told_among, from_boards}
use Rattle.stream_worker.proofs.StreamsGoOn.{joined_theirs, joined_ours}

-- ---- one seat

some_of : {A B : Type 0} (f : A → B) (o : Option A) (y : B) → option_map f o ≡ Some y → (x : A) × (o ≡ Some x)
some_of f None y e = cc
some_of f (Some x) y e = (x, refl)

-- a seat knows its stream's state
pub seat_has : (seat : Seat) → (state : State) × (seat_state seat ≡ Some state)
seat_has seat = some_of standing_of (seat_state seat) seat.cursor seat.numbers

-- a pass that knows a state saw a board
pub seat_saw : (seat : Seat) → IsSome (view seat.pass).seen
seat_saw seat = by (view seat.pass).seen (seat_has seat).1
  where
    by : (o : Option Laid) → option_and_then (λ (laid : Laid). slice_get laid.board seat.stream) o ≡ Some (seat_has seat).0 → IsSome o
    by None e = cc
    by (Some laid) e = refl

seat_names : (seat : Seat) → names (view seat.pass).streams seat.stream ≡ true
seat_names seat = ap (λ (l : List ℕ). names l seat.stream) seat.own ∙ or_left (seat.stream == seat.stream) false (eq-eqb seat.stream seat.stream refl)

seat_names_not : (seat : Seat) (s : ℕ) → s ≢ seat.stream → names (view seat.pass).streams s ≡ false
seat_names_not seat s ne = ap (λ (l : List ℕ). names l s) seat.own ∙ or_from (seat.stream == s) false (ne_eqb seat.stream s (λ e. ne (sym e))) refl

-- seats in the order of the streams are apart
pub apart_in_order : (shared : Shared) (seats : List Seat) → AreSeatsOf shared seats → AreApartSeats shared seats
apart_in_order shared seats all =
    record {
      each = λ k seat at. (all k seat at).0;
      apart = λ j k one other at there e. sym (all j one at).1 ∙ e ∙ (all k other there).1;
    }

-- ---- the first seat

pub first_known : (seats : List Seat) (n : ℕ) (seat : Seat) → length seats ≤ n + 1 → slice_get seats n ≡ Some seat → AreAllKnown seats n (view seat.pass)
first_known seats n seat last there =
    record {
      holds = seat.free;
      seen = seat_saw seat;
      own = λ k other le at. let is = same k other le at in subst (λ (one : Seat). names (view seat.pass).streams one.stream ≡ true) is (seat_names seat);
      states = λ k other le at. let is = same k other le at in subst (λ (one : Seat). state_seen (view seat.pass) one.stream ≡ seat_state one) is refl;
      told = λ k other laid le at saw. let is = same k other le at in saw_among (view seat.pass) laid (ap (λ (one : Seat). (known one).seen) is ∙ saw);
    }
  where
    within : {A : Type 0} (xs : List A) (k : ℕ) (x : A) → slice_get xs k ≡ Some x → k < length xs
    within [] k x e = cc
    within (y ∷ xs) zero x e = omega arith
    within (y ∷ xs) (suc k) x e = let less = within xs k x e in omega arith

    same : (k : ℕ) (other : Seat) → n ≤ k → slice_get seats k ≡ Some other → seat ≡ other
    same k other le at =
        let less = within seats k other at in
        let is : k ≡ n = omega (arith, last) in
        same_Some seat other (sym there ∙ sym (ap (slice_get seats) is) ∙ at)

-- ---- one seat more

-- the states that a joined pass saw
joined_state : (v w : Knows) (mine : Laid) (s : ℕ) → v.seen ≡ Some mine → state_seen (joined_knowing v w) s ≡ slice_get (states_joined w.streams 0 (states_seen w.seen) mine.board) s
joined_state v w mine s e = ap (λ (o : Option Laid). option_and_then (λ (laid : Laid). slice_get laid.board s) (option_map {T = Laid} (with_states w.streams w.seen) o)) e

seen_states : (o : Option Laid) (s : ℕ) (state : State) → option_and_then (λ (laid : Laid). slice_get laid.board s) o ≡ Some state → slice_get (states_seen o) s ≡ Some state
seen_states None s state e = cc
seen_states (Some laid) s state e = e

start : (s : ℕ) → s ≡ 0 + s
start s = omega arith

takes_theirs : (v w : Knows) (s : ℕ) (state : State) → IsSome v.seen → names w.streams s ≡ true → state_seen w s ≡ Some state → state_seen (joined_knowing v w) s ≡ Some state
takes_theirs v w s state some name there = by v.seen refl some
  where
    by : (o : Option Laid) → v.seen ≡ o → IsSome o → state_seen (joined_knowing v w) s ≡ Some state
    by None e h = absurd (true≢false (sym h))
    by (Some mine) e h =
        joined_state v w mine s e ∙ joined_theirs w.streams 0 (states_seen w.seen) mine.board s s state (start s) name (seen_states w.seen s state there)

keeps_ours : (v w : Knows) (s : ℕ) (state : State) → names w.streams s ≡ false → state_seen v s ≡ Some state → state_seen (joined_knowing v w) s ≡ Some state
keeps_ours v w s state name there = by v.seen refl there
  where
    by : (o : Option Laid) → v.seen ≡ o → option_and_then (λ (laid : Laid). slice_get laid.board s) o ≡ Some state → state_seen (joined_knowing v w) s ≡ Some state
    by None e h = cc
    by (Some mine) e h = joined_state v w mine s e ∙ joined_ours w.streams 0 (states_seen w.seen) mine.board s s state (start s) name h

pub joined_known : (shared : Shared) (seats : List Seat) (n : ℕ) (v : Knows) (seat : Seat) → AreApartSeats shared seats → AreAllKnown seats (n + 1) v → slice_get seats n ≡ Some seat
    → AreAllKnown seats n (joined_knowing v (view seat.pass))
joined_known shared seats n v seat all known_before there =
    record {
      holds = known_before.holds;
      seen = saw v.seen known_before.seen;
      own = own;
      states = states;
      told = told;
    }
  where
    w : Knows
    w = view seat.pass

    saw : (o : Option Laid) → IsSome o → IsSome (option_map {T = Laid} (with_states w.streams w.seen) o)
    saw None h = absurd (true≢false (sym h))
    saw (Some mine) h = refl

    here : (k : ℕ) (other : Seat) → k ≡ n → slice_get seats k ≡ Some other → seat ≡ other
    here k other is at = same_Some seat other (sym there ∙ sym (ap (slice_get seats) is) ∙ at)

    apart : (k : ℕ) (other : Seat) → n + 1 ≤ k → slice_get seats k ≡ Some other → names w.streams other.stream ≡ false
    apart k other le at =
        seat_names_not seat other.stream
        (λ e. absurd (let same : k ≡ n = all.apart k n other seat at there e in omega arith))

    at_or_behind : (k : ℕ) → n ≤ k → (k ≡ n) ⊎ (n + 1 ≤ k)
    at_or_behind k le = by (k == n) refl
      where
        by : (b : Bool) → (k == n) ≡ b → (k ≡ n) ⊎ (n + 1 ≤ k)
        by true e = inl (eqb-true k n e)
        by false e = inr (let ne : k ≢ n = eqb-false k n e in omega arith)

    own : (k : ℕ) (other : Seat) → n ≤ k → slice_get seats k ≡ Some other → names (v.streams ++ w.streams) other.stream ≡ true
    own k other le at =
        ⊎_elim (λ (is : k ≡ n). subst (λ (one : Seat). names (v.streams ++ w.streams) one.stream ≡ true) (here k other is at) (named_behind v.streams w.streams seat.stream (seat_names seat)))
        (λ (past : n + 1 ≤ k). named_before v.streams w.streams other.stream (known_before.own k other past at)) (at_or_behind k le)

    states : (k : ℕ) (other : Seat) → n ≤ k → slice_get seats k ≡ Some other → state_seen (joined_knowing v w) other.stream ≡ seat_state other
    states k other le at =
        ⊎_elim
        (λ (is : k ≡ n).
        subst (λ (one : Seat). state_seen (joined_knowing v w) one.stream ≡ seat_state one) (here k other is at)
        (takes_theirs v w seat.stream (seat_has seat).0 known_before.seen (seat_names seat) (seat_has seat).1 ∙ sym (seat_has seat).1))
        (λ (past : n + 1 ≤ k).
        keeps_ours v w other.stream (seat_has other).0 (apart k other past at) (known_before.states k other past at ∙ (seat_has other).1) ∙ sym (seat_has other).1)
        (at_or_behind k le)

    told : (k : ℕ) (other : Seat) (laid : Laid) → n ≤ k → slice_get seats k ≡ Some other → (known other).seen ≡ Some laid → IsAmong laid.board (boards_of (joined_knowing v w))
    told k other laid le at saw =
        told_among (joined_knowing v w) laid.board
        (⊎_elim (λ (is : k ≡ n). among_behind (boards_of v) (boards_of w) laid.board (saw_among w laid (ap (λ (one : Seat). (known one).seen) (here k other is at) ∙ saw)))
        (λ (past : n + 1 ≤ k). among_before (boards_of v) (boards_of w) laid.board (known_before.told k other laid past at saw)) (at_or_behind k le))

-- ---- the end

-- the board that such a pass takes has the states that the seats know
pub ended : (seats : List Seat) (v holding : Knows) (deal : Laid) → AreAllKnown seats 0 v → IsBoardTaken v deal holding → AreStatesOf seats deal.board
ended seats v holding deal all h k seat at = by v.seen refl h.says
  where
    zero_le : 0 ≤ k
    zero_le = omega arith

    by : (o : Option Laid) → v.seen ≡ o → MatchOption o (v.streams ≡ []) (λ seen. IsSaid v.streams seen deal) → slice_get deal.board seat.stream ≡ seat_state seat
    by None e says = absurd (true≢false (sym all.seen ∙ ap is_some e))
    by (Some seen) e says =
        says.own seat.stream (all.own k seat zero_le at)
        ∙ sym (ap (λ (o : Option Laid). option_and_then (λ (laid : Laid). slice_get laid.board seat.stream) o) e)
        ∙ all.states k seat zero_le at

-- it goes on from what each of them saw
pub ended_on : (seats : List Seat) (v holding : Knows) (deal : Laid) → AreAllKnown seats 0 v → IsBoardTaken v deal holding → AllGoOnFromSeen seats deal.board
ended_on seats v holding deal all h k seat laid at saw = (from_boards v deal h.says h.told laid.board (all.told k seat laid (omega arith) at saw)).every

pub ended_many : (seats : List Seat) (v holding : Knows) (deal : Laid) → AreAllKnown seats 0 v → IsBoardTaken v deal holding → SawAsMany seats (length deal.board)
ended_many seats v holding deal all h k seat laid at saw = sym (from_boards v deal h.says h.told laid.board (all.told k seat laid (omega arith) at saw)).long

-- ---- seats taken off the end

front-get : {A : Type 0} (n : ℕ) (xs : List A) → slice_get (take (suc n) xs) n ≡ slice_get xs n
front-get n [] = refl
front-get zero (x ∷ xs) = refl
front-get (suc n) (x ∷ xs) = front-get n xs

last-get : {A : Type 0} (ys : List A) (x : A) (n : ℕ) → length ys ≡ n → slice_get (ys ++ x ∷ []) n ≡ Some x
last-get [] x zero e = refl
last-get [] x (suc n) e = absurd (omega arith)
last-get (y ∷ ys) x zero e = absurd (omega arith)
last-get (y ∷ ys) x (suc n) e = last-get ys x n (omega arith)

front-of : {A : Type 0} (ys : List A) (x : A) (n : ℕ) → length ys ≡ n → take n (ys ++ x ∷ []) ≡ ys
front-of [] x zero e = refl
front-of [] x (suc n) e = absurd (omega arith)
front-of (y ∷ ys) x zero e = absurd (omega arith)
front-of {A} (y ∷ ys) x (suc n) e = ap (λ (zs : List A). y ∷ zs) (front-of ys x n (omega arith))

-- the last of all seats, and those before it
pub first_popped : (shared : Shared) (all rest : List Seat) (n : ℕ) (x : Seat) → AreApartSeats shared all → all ≡ rest ++ x ∷ [] → length rest ≡ n
    → (rest ≡ take n all) × IsSeatOf shared x × AreAllKnown all n (view x.pass)
first_popped shared all rest n x each split long =
    let there : slice_get all n ≡ Some x = ap (λ (l : List Seat). slice_get l n) split ∙ last-get rest x n long in
    let few : length all ≤ n + 1 = let sum = ap length split ∙ length-append rest (x ∷ []) in omega (arith, long) in
    (sym (front-of rest x n long) ∙ ap (take n) (sym split), each.each n x there, first_known all n x few there)

-- the last of the first seats, and those before it
pub next_popped : (shared : Shared) (all items rest : List Seat) (m n : ℕ) (x : Seat) (v : Knows) → AreApartSeats shared all → items ≡ take m all → items ≡ rest ++ x ∷ [] → m ≡ n + 1 → length rest ≡ n
    → AreAllKnown all m v → IsSeatOf shared x × (rest ≡ take n all) × AreAllKnown all n (joined_knowing v (view x.pass))
next_popped shared all items rest m n x v each front split more long all_known =
    let is : m ≡ suc n = omega (arith, more) in
    let cut : items ≡ take (suc n) all = front ∙ ap (λ (k : ℕ). take k all) is in
    let there : slice_get all n ≡ Some x = sym (front-get n all) ∙ ap (λ (l : List Seat). slice_get l n) (sym cut ∙ split) ∙ last-get rest x n long in (
      each.each n x there,
      sym (front-of rest x n long) ∙ ap (take n) (sym split ∙ cut) ∙ take-take n (suc n) all (omega arith),
      joined_known shared all n v x each (subst (λ (k : ℕ). AreAllKnown all k v) more all_known) there,
    )
