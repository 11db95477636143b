-- What a list of steps that was taken says of other lists: that nothing but the steps, the feeds and the board before
-- decides it, and of each stream nothing but its own (this profile).
use Rattle.std.specs.Prelude.{◌≡◌, ℕ, List, slice_get}
use Rattle.stream_core.specs.declared.step.Step.{Step}
use Rattle.source_feed.specs.Planned.{FeedValue}
use Rattle.board_laws.specs.Agreement.{IsShownAlike, TookTheSame}
use Rattle.board_laws.specs.Lone.{lone_steps, lone_replies, IsAloneAs}
use Rattle.board_laws.specs.Meaning.{Meaning}
use Rattle.board_laws.specs.RunLaws.{NoneWantsMemory, NoneClashes}
use Rattle.board_laws.specs.Runs.{AreDisjoint}
use Rattle.board_laws.specs.Schedule.{Reply, IsRun}

-- ---- the whole run

-- these steps on this board, taken anew, have these replies and leave this board, where no step of either wants memory
abbrev pub IsDetermined : List FeedValue → Meaning → List (ℕ × Step) → List Reply → Meaning → Type 0
IsDetermined feeds old steps replies new =
    (others : List Reply) (other : Meaning) → IsRun feeds old steps others other → NoneWantsMemory replies → NoneWantsMemory others
    → (others ≡ replies) × (other ≡ new)

-- and other steps on it in which each stream takes those that it took here, in its order, leave this board
abbrev pub IsOfAnyOrder : List FeedValue → Meaning → List (ℕ × Step) → List Reply → Meaning → Type 0
IsOfAnyOrder feeds old steps replies new =
    (others : List (ℕ × Step)) (answers : List Reply) (other : Meaning) → IsRun feeds old others answers other → TookTheSame steps replies others answers
    → other ≡ new

-- where no key is touched in two feeds no step is refused since another stream's row stands at a key
abbrev pub DoesntClash : List FeedValue → List Reply → Type 0
DoesntClash feeds replies = AreDisjoint feeds → NoneClashes replies

-- ---- each stream

-- The steps of stream s, those aside that another stream's row or want of memory hindered, taken alone on this board:
-- they have the same replies, and leave a board where no other stream has a row and this one is shown alike.
pub record RunsAlone (feeds : List FeedValue) (old : Meaning) (steps : List (ℕ × Step)) (replies : List Reply) (new : Meaning) (s : ℕ) : Type 0 where
  pub left : Meaning
  pub run : IsRun feeds old (lone_steps s steps replies) (lone_replies s steps replies) left
  pub alone : IsAloneAs s new left
  pub alike : IsShownAlike s new left

-- each stream can be run alone
abbrev pub AllRunAlone : List FeedValue → Meaning → List (ℕ × Step) → List Reply → Meaning → Type 0
AllRunAlone feeds old steps replies new = (s : ℕ) → RunsAlone feeds old steps replies new s

-- and where the board before has rows, on each board where the stream stands as it stood and no other one has a row
abbrev pub AllRunAloneOn : List FeedValue → Meaning → List (ℕ × Step) → List Reply → Meaning → Type 0
AllRunAloneOn feeds old steps replies new = (s : ℕ) (alone : Meaning) → IsAloneAs s old alone → RunsAlone feeds alone steps replies new s

-- What a stream replies and shows is of its own feed and steps alone: wherever these steps are taken, on a board where
-- the stream stands as it stood and no other stream has a row, over whatever other feeds, they have these replies and
-- the stream is shown alike, if none of them wants memory.
abbrev pub AllAreIsolated : List FeedValue → Meaning → List (ℕ × Step) → List Reply → Meaning → Type 0
AllAreIsolated feeds old steps replies new =
    (s : ℕ) (others : List FeedValue) (alone left : Meaning) (answers : List Reply) → slice_get feeds s ≡ slice_get others s → IsAloneAs s old alone
    → IsRun others alone (lone_steps s steps replies) answers left → NoneWantsMemory answers
    → (answers ≡ lone_replies s steps replies) × IsShownAlike s new left
