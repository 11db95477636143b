-- What a call of a seat owes and gains, from the board that it took to the one that it put back.
use Rattle.std.proofs.Common.{◌≡◌, ◌==◌, ℕ, true, false, List, [], ◌∷◌, length, Option, Some, None, Result, MatchOption, slice_get, inl, refl, sym, ap, ◌∙◌, subst}
use Rattle.std.proofs.lemmas.Bool.{or_left}
use Rattle.std.proofs.lemmas.Option.{same_Some}
use Rattle.std.specs.Option.{option_map, option_and_then}
use borrow.Author.Tests.{eq-eqb}
use Rattle.stream_core.specs.Standing.{Standing}
use Rattle.board_laws.specs.declared.answer.Answer.{Answer}
use Rattle.board_laws.specs.declared.refusal.Refusal.{Refusal}
use Rattle.board_laws.specs.Lawful.{standing_of}
use Rattle.board_laws.specs.Meaning.{State}
use Rattle.board_laws.specs.Event.{Event}
use Rattle.stream_worker.specs.Knowing.{Laid, Knows, SawStreams, names, state_seen}
use Rattle.stream_worker.specs.Rule.{IsSaid, SaysOfBoard, IsBoardTaken, IsOwnChange, CountsSeats, MayPut, IsBoardPut}
use Rattle.stream_worker.specs.Seats.{IsBoardStep, IsSeatStep}
use Rattle.stream_worker.proofs.StepsOfOneStream.{step_changes}

-- a change of the board that was taken may be put back
pub may_put_change : (before holding : Knows) (taken left : Laid) → IsBoardTaken before taken holding → IsOwnChange before.streams taken left → CountsSeats before.streams taken left → MayPut holding left
may_put_change before holding taken left h change counts = subst (λ (v : Knows). MayPut v left) (sym h.view) (change, counts)

-- behind a step on the seat's stream
pub may_put : (before holding : Knows) (s : ℕ) (taken left : Laid) (event : Event) (result : Result Answer Refusal) → before.streams ≡ s ∷ [] → IsBoardTaken before taken holding
    → IsBoardStep taken s event result left → MayPut holding left
may_put before holding s taken left event result own h step =
    may_put_change before holding taken left h (subst (λ (l : List ℕ). IsOwnChange l taken left) (sym own) (step_changes taken left s event result step)) (inl step.given)

pub named_itself : (s : ℕ) → names (s ∷ []) s ≡ true
named_itself s = or_left (s == s) false (eq-eqb s s refl)

-- the seat's own stream is as the seat knew it
pub own_as_seen : (before : Knows) (s : ℕ) (taken : Laid) (standing : Standing) → before.streams ≡ s ∷ [] → SaysOfBoard before taken
    → option_map standing_of (state_seen before s) ≡ Some standing → slice_get taken.board s ≡ state_seen before s
own_as_seen before s taken standing own says numbers = by before.seen says numbers
  where
    by : (o : Option Laid) → MatchOption o (before.streams ≡ []) (λ seen. IsSaid before.streams seen taken) → option_map standing_of (option_and_then (λ (laid : Laid). slice_get laid.board s) o) ≡ Some standing
        → slice_get taken.board s ≡ option_and_then (λ (laid : Laid). slice_get laid.board s) o
    by None said e = cc
    by (Some seen) said e = said.own s (ap (λ (l : List ℕ). names l s) own ∙ named_itself s)

-- ---- what the seat then is

pub put_numbers : (holding after : Knows) (s : ℕ) (left : Laid) (standing : Standing) → IsBoardPut holding left after → option_map standing_of (slice_get left.board s) ≡ Some standing
    → option_map standing_of (state_seen after s) ≡ Some standing
put_numbers holding after s left standing put numbers =
    ap (λ (o : Option Laid). option_map standing_of (option_and_then (λ (laid : Laid). slice_get laid.board s) o)) put.seen ∙ numbers

pub seat_step : (before holding after : Knows) (s : ℕ) (taken left : Laid) (event : Event) (result : Result Answer Refusal) → IsBoardTaken before taken holding → IsBoardStep taken s event result left
    → IsBoardPut holding left after → IsSeatStep before s event result after
seat_step before holding after s taken left event result h step put = record { taken = taken; left = left; says = h.says; step = step; seen = put.seen }

-- a board that was put back as it was has as many streams as the seat saw before
pub still-many : (before holding after : Knows) (s : ℕ) (taken : Laid) (standing : Standing) → option_map standing_of (state_seen before s) ≡ Some standing → IsBoardTaken before taken holding
    → IsBoardPut holding taken after → (n : ℕ) → SawStreams before n → SawStreams after n
still-many before holding after s taken standing numbers h put n many laid e =
    ap (λ (l : Laid). length l.board) (sym (same_Some taken laid (sym put.seen ∙ e))) ∙ by before.seen refl h.says numbers
  where
    by : (o : Option Laid) → before.seen ≡ o → MatchOption o (before.streams ≡ []) (λ seen. IsSaid before.streams seen taken)
        → option_map standing_of (option_and_then (λ (laid : Laid). slice_get laid.board s) o) ≡ Some standing → length taken.board ≡ n
    by None is said num = cc
    by (Some seen) is said num = said.long ∙ many seen is

-- what is so of a seat's stream is so of it on the board that was taken
pub as-taken : (before : Knows) (s : ℕ) (taken : Laid) (holding : Knows) (standing : Standing) → before.streams ≡ s ∷ [] → IsBoardTaken before taken holding
    → option_map standing_of (state_seen before s) ≡ Some standing → (P : Option State → Type 0) → P (state_seen before s) → P (slice_get taken.board s)
as-taken before s taken holding standing own h numbers P of = subst P (sym (own_as_seen before s taken standing own h.says numbers)) of
