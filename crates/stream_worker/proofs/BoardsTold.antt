-- The boards that a pass saw, or was told of.
use Rattle.std.proofs.Common.{◌≡◌, ◌⊎◌, ℕ, List, [], ◌∷◌, ◌++◌, Option, Some, None, MatchOption, inl, inr, ⊎_elim, refl, sym, ◌∙◌, subst}
use Rattle.std.specs.Option.{option_map_or}
use Rattle.board_laws.specs.Meaning.{State}
use Rattle.stream_worker.specs.Knowing.{Laid, Knows, IsAmong, boards_of, joined_knowing}
use Rattle.stream_worker.specs.Rule.{BoardGoesOn, GoesOnFromAll, IsSaid, SaysOfBoard, ToldOf, IsOwnChange}
use Rattle.stream_worker.proofs.StreamsGoOn.{all_go_on-trans}

-- ---- boards among others

pub among_before : (xs ys : List (List State)) (board : List State) → IsAmong board xs → IsAmong board (xs ++ ys)
among_before [] ys board h = absurd h
among_before (x ∷ xs) ys board h = ⊎_elim (λ (e : x ≡ board). inl e) (λ (later : IsAmong board xs). inr (among_before xs ys board later)) h

pub among_behind : (xs ys : List (List State)) (board : List State) → IsAmong board ys → IsAmong board (xs ++ ys)
among_behind [] ys board h = h
among_behind (x ∷ xs) ys board h = inr (among_behind xs ys board h)

among_either : (xs ys : List (List State)) (board : List State) → IsAmong board (xs ++ ys) → IsAmong board xs ⊎ IsAmong board ys
among_either [] ys board h = inr h
among_either (x ∷ xs) ys board h =
    ⊎_elim (λ (e : x ≡ board). inl (inl e))
    (λ (later : IsAmong board (xs ++ ys)). ⊎_elim (λ (one : IsAmong board xs). inl (inr one)) (λ (two : IsAmong board ys). inr two) (among_either xs ys board later)) h

-- the board that a pass saw
pub saw_among : (v : Knows) (laid : Laid) → v.seen ≡ Some laid → IsAmong laid.board (boards_of v)
saw_among v laid e = subst (λ (o : Option Laid). IsAmong laid.board (option_map_or (λ (x : Laid). x.board ∷ v.told) o v.told)) (sym e) (inl refl)

-- and one that it was told of
pub told_among : (v : Knows) (board : List State) → IsAmong board v.told → IsAmong board (boards_of v)
told_among v board h = by v.seen
  where
    by : (o : Option Laid) → IsAmong board (option_map_or (λ (x : Laid). x.board ∷ v.told) o v.told)
    by None = h
    by (Some laid) = inr h

-- ---- what they go on to

-- no board was told of
pub from_none : (told : List (List State)) (now : List State) → told ≡ [] → GoesOnFromAll told now
from_none told now e = subst (λ (l : List (List State)). GoesOnFromAll l now) (sym e) (λ earlier among. absurd among)

-- where nothing was told it is so, whatever the board is
pub told_nothing : (v : Knows) (now : Option Laid) → v.told ≡ [] → ToldOf v now
told_nothing v None e = e
told_nothing v (Some laid) e = from_none v.told laid.board e

-- a change of the board leaves what was told so
pub from_further : (told : List (List State)) (streams : List ℕ) (taken left : Laid) → IsOwnChange streams taken left → GoesOnFromAll told taken.board → GoesOnFromAll told left.board
from_further told streams taken left change from earlier among =
    let before : BoardGoesOn earlier taken.board = from earlier among in
    record { every = all_go_on-trans earlier taken.board left.board before.every change.every; long = change.long ∙ before.long }

-- the board goes on from all that a pass saw or was told of
pub from_boards : (v : Knows) (now : Laid) → SaysOfBoard v now → GoesOnFromAll v.told now.board → GoesOnFromAll (boards_of v) now.board
from_boards v now says told = by v.seen says
  where
    by : (o : Option Laid) → MatchOption o (v.streams ≡ []) (λ seen. IsSaid v.streams seen now) → GoesOnFromAll (option_map_or (λ (x : Laid). x.board ∷ v.told) o v.told) now.board
    by None said = told
    by (Some seen) said =
        λ earlier among.
        ⊎_elim (λ (e : seen.board ≡ earlier). subst (λ (board : List State). BoardGoesOn board now.board) e (record { every = said.every; long = said.long }))
        (λ (later : IsAmong earlier v.told). told earlier later) among

-- and from what two passes saw
pub from_joined : (v w : Knows) (now : Laid) → GoesOnFromAll (boards_of v) now.board → GoesOnFromAll (boards_of w) now.board → GoesOnFromAll (joined_knowing v w).told now.board
from_joined v w now mine theirs earlier among =
    ⊎_elim (λ (one : IsAmong earlier (boards_of v)). mine earlier one) (λ (two : IsAmong earlier (boards_of w)). theirs earlier two) (among_either (boards_of v) (boards_of w) earlier among)
