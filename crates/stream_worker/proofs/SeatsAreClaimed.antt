-- What claiming a seat owes and gains.
use Rattle.std.proofs.Common.{◌≡◌, ℕ, zero, suc, ◌+◌, ◌<◌, List, [], ◌∷◌, ◌++◌, length, map, Option, Some, IsSome, slice_get, refl, sym, ap, ◌∙◌, subst, arith}
use Rattle.std.proofs.lemmas.List.{length-map}
use Rattle.std.proofs.lemmas.Option.{same_Some}
use Rattle.std.specs.Option.{option_map, option_and_then}
use Rattle.board_laws.specs.Meaning.{State}
use Rattle.stream_worker.specs.declared.seat.Seat.{Seat}
use Rattle.stream_worker.specs.declared.shared.Shared.{Shared}
use Rattle.stream_worker.specs.Knowing.{Laid, Knows, SawStreams, state_seen}
use Rattle.stream_worker.specs.Rule.{IsOwnChange, IsBoardPut}
use Rattle.stream_worker.specs.Outlines.{Outlined, outline_of, AreOutlinesSeen}
use Rattle.stream_worker.specs.SeatOf.{known, seat_state, IsSeatOf, AreSeatsOf, AreStatesSeen, SawAsMany, IsOpened}
use Rattle.stream_worker.proofs.StreamsGoOn.{all_go_on-same}

-- ---- the opener

pub opener_saw : (v after : Knows) (board : Laid) (k : ℕ) → IsBoardPut v board after → state_seen after k ≡ slice_get board.board k
opener_saw v after board k put = ap (λ (o : Option Laid). option_and_then (λ (laid : Laid). slice_get laid.board k) o) put.seen

within : {A : Type 0} (xs : List A) (k : ℕ) → k < length xs → IsSome (slice_get xs k)
within [] k h = absurd (omega (arith, h))
within (x ∷ xs) zero h = refl
within (x ∷ xs) (suc k) h = within xs k (omega (arith, h))

pub opener_saw_streams : (v after : Knows) (board : Laid) → IsBoardPut v board after → SawStreams after (length board.board)
opener_saw_streams v after board put laid e = ap (λ (x : Laid). length x.board) (same_Some laid board (sym e ∙ put.seen))

mapped : (streams : List State) (k : ℕ) (outline : Outlined) → slice_get (map outline_of streams) k ≡ Some outline → option_map outline_of (slice_get streams k) ≡ Some outline
mapped [] k outline e = cc
mapped (x ∷ xs) zero outline e = e
mapped (x ∷ xs) (suc k) outline e = mapped xs k outline e

-- the outlines of a board's streams are of what its opener saw
pub opener_outlines : (v after : Knows) (laid : Laid) (streams : List State) (outlines : List Outlined) → IsBoardPut v laid after → laid.board ≡ streams → outlines ≡ map outline_of streams → AreOutlinesSeen outlines after
opener_outlines v after laid streams outlines put same each k outline at =
    ap (option_map outline_of) (opener_saw v after laid k put ∙ ap (λ (board : List State). slice_get board k) same)
    ∙ mapped streams k outline (sym (ap (λ (l : List Outlined). slice_get l k) each) ∙ at)

-- a board is opened, where each seat knows what its opener saw
pub opened : (v after : Knows) (laid : Laid) (streams : List State) (outlines : List Outlined) (shared : Shared) (seats : List Seat) → IsBoardPut v laid after → laid.board ≡ streams → outlines ≡ map outline_of streams
    → length seats ≡ length outlines → AreSeatsOf shared seats → AreStatesSeen seats after → ((n : ℕ) → SawStreams after n → SawAsMany seats n) → IsOpened streams shared seats
opened v after laid streams outlines shared seats put same each count of_this seen many =
    record {
      count = count ∙ ap length each ∙ length-map streams outline_of;
      each = of_this;
      states = λ k seat at. sym (seen k seat at ∙ opener_saw v after laid seat.stream put ∙ ap (λ (board : List State). slice_get board seat.stream) same);
      many = many (length streams) (subst (λ (board : List State). SawStreams after (length board)) same (opener_saw_streams v after laid put));
    }

-- ---- a claim

unchanged : (streams : List ℕ) (deal left : Laid) → left.board ≡ deal.board → IsOwnChange streams deal left
unchanged streams deal left same =
    record {
      others = λ s e. ap (λ (board : List State). slice_get board s) same;
      every = all_go_on-same deal.board left.board same;
      long = ap length same;
    }

-- ---- a list of seats

-- a fact of each element, and of one more
pub each_pushed : {A : Type 0} (P : ℕ → A → Type 0) (xs : List A) (x : A) → ((k : ℕ) (y : A) → slice_get xs k ≡ Some y → P k y) → P (length xs) x
    → (k : ℕ) (y : A) → slice_get (xs ++ x ∷ []) k ≡ Some y → P k y
each_pushed P [] x old new zero y e = subst (P 0) (same_Some x y e) new
each_pushed P [] x old new (suc k) y e = cc
each_pushed P (z ∷ xs) x old new zero y e = old zero y e
each_pushed P (z ∷ xs) x old new (suc k) y e = each_pushed (λ n. P (suc n)) xs x (λ n. old (suc n)) new k y e

pub seats_pushed : (shared : Shared) (seats more : List Seat) (seat : Seat) (k : ℕ) → more ≡ seats ++ seat ∷ [] → length seats ≡ k → AreSeatsOf shared seats → IsSeatOf shared seat → seat.stream ≡ k
    → AreSeatsOf shared more
seats_pushed shared seats more seat k is long each one at =
    subst (λ (l : List Seat). AreSeatsOf shared l) (sym is)
    (each_pushed (λ i other. IsSeatOf shared other × (other.stream ≡ i)) seats seat each (one, at ∙ sym long))

pub states_pushed : (seats more : List Seat) (seat : Seat) (k : ℕ) (v u : Knows) → more ≡ seats ++ seat ∷ [] → AreStatesSeen seats v → u ≡ v → seat_state seat ≡ state_seen u k → seat.stream ≡ k
    → AreStatesSeen more v
states_pushed seats more seat k v u is each same one at =
    subst (λ (l : List Seat). AreStatesSeen l v) (sym is)
    (each_pushed (λ i other. seat_state other ≡ state_seen v other.stream) seats seat each (one ∙ ap (λ (w : Knows). state_seen w k) same ∙ sym (ap (state_seen v) at)))

pub many_pushed : (seats more : List Seat) (seat : Seat) (v u : Knows) → more ≡ seats ++ seat ∷ [] → ((n : ℕ) → SawStreams v n → SawAsMany seats n) → u ≡ v
    → ((n : ℕ) → SawStreams u n → SawStreams (known seat) n) → (n : ℕ) → SawStreams v n → SawAsMany more n
many_pushed seats more seat v u is each same one n saw =
    subst (λ (l : List Seat). SawAsMany l n) (sym is)
    (λ k other laid at. each_pushed (λ i x. SawStreams (known x) n) seats seat (λ i x at laid. each n saw i x laid at) (one n (subst (λ (w : Knows). SawStreams w n) (sym same) saw)) k other at laid)
