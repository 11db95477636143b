-- Two lists of steps that agree: in what each stream took, or in all steps of one stream (this profile).
use Rattle.std.specs.Prelude.{◌≡◌, ℕ, ◌==◌, ◌≤◌, List, [], ◌∷◌, Some, length, slice_get, if◌then◌else◌}
use Rattle.std.specs.List.{filter}
use Rattle.pk_copy.specs.KeyOrder.{key_cmp}
use Rattle.pk_copy.specs.KeyValue.{KeyValue}
use Rattle.stream_core.specs.declared.step.Step.{Step}
use Rattle.target_tables.specs.Contents.{value_at}
use Rattle.source_feed.specs.Planned.{FeedValue}
use Rattle.board_laws.specs.Meaning.{State, Meaning}
use Rattle.board_laws.specs.Cut.{own_row}
use Rattle.board_laws.specs.Lawful.{IsLawful}
use Rattle.board_laws.specs.Lone.{lone_steps, lone_replies, IsAloneAs}
use Rattle.board_laws.specs.Runs.{own, AreDisjoint}
use Rattle.board_laws.specs.Schedule.{Reply, IsRun}
use Rattle.board_laws.specs.Reading.{AllReadTheirFeeds}
use Rattle.board_laws.specs.RunLaws.{NoneWantsMemory}

-- ---- the same steps taken

-- each stream took the same steps in both lists, in the same order; refused steps don't count
abbrev pub TookTheSame : List (ℕ × Step) → List Reply → List (ℕ × Step) → List Reply → Type 0
TookTheSame steps replies others answers = (s : ℕ) → own s steps replies ≡ own s others answers

-- two runs from one lawful board with a feed for each stream, in which each stream took the same steps, end in the
-- same board, in whatever order the streams' steps stood
abbrev pub SameStepsSameBoard : Type 0
SameStepsSameBoard =
    (feeds : List FeedValue) (old one other : Meaning) (steps others : List (ℕ × Step)) (replies answers : List Reply) → IsLawful old → length old.streams ≤ length feeds
    → IsRun feeds old steps replies one → IsRun feeds old others answers other → TookTheSame steps replies others answers
    → one ≡ other

-- ---- one stream in two runs

-- the steps on stream s, refused ones too
abbrev pub steps_on : ℕ → List (ℕ × Step) → List (ℕ × Step)
steps_on s steps = filter (λ step. step.0 == s) steps

-- and their replies
abbrev pub replies_on : ℕ → List (ℕ × Step) → List Reply → List Reply
replies_on s [] replies = []
replies_on s (step ∷ steps) [] = []
replies_on s (step ∷ steps) (reply ∷ replies) = if step.0 == s then reply ∷ replies_on s steps replies else replies_on s steps replies

-- a run on a lawful board whose streams read their feeds, where no key is touched in two feeds
pub record IsDisjointRun (feeds : List FeedValue) (old : Meaning) (steps : List (ℕ × Step)) (replies : List Reply) (new : Meaning) : Type 0 where
  pub lawful : IsLawful old
  pub reads : AllReadTheirFeeds feeds old
  pub disjoint : AreDisjoint feeds
  pub run : IsRun feeds old steps replies new

-- two boards show stream s alike: in the same state, with the same rows of its own
pub record IsShownAlike (s : ℕ) (one other : Meaning) : Type 0 where
  pub state : slice_get one.streams s ≡ slice_get other.streams s
  pub rows : (key : KeyValue) → own_row s (value_at key_cmp one.rows key) ≡ own_row s (value_at key_cmp other.rows key)

-- where no key is touched in two feeds, a stream with the same feed, state and steps in two runs, whatever the other
-- streams are and do, has the same replies and is shown alike, if none of its steps wanted memory
abbrev pub DisjointRunsShowAlike : Type 0
DisjointRunsShowAlike =
    (feeds others : List FeedValue) (old new start end : Meaning) (steps later : List (ℕ × Step)) (replies answers : List Reply)
    → IsDisjointRun feeds old steps replies new → IsDisjointRun others start later answers end
    → (s : ℕ) (state : State) → slice_get feeds s ≡ slice_get others s → slice_get old.streams s ≡ Some state → slice_get start.streams s ≡ Some state
    → steps_on s steps ≡ steps_on s later → NoneWantsMemory (replies_on s steps replies) → NoneWantsMemory (replies_on s later answers)
    → (replies_on s steps replies ≡ replies_on s later answers) × IsShownAlike s new end

-- A stream doesn't notice the others: where its own steps, those aside that another stream's row or want of memory
-- hindered, are taken on a board where no other stream has a row, they have the same replies and the stream is shown
-- alike, if none of them wants memory there.
abbrev pub LoneRunsShowAlike : Type 0
LoneRunsShowAlike =
    (feeds : List FeedValue) (old new alone left : Meaning) (steps : List (ℕ × Step)) (replies others : List Reply) → IsLawful old → IsRun feeds old steps replies new
    → (s : ℕ) → IsAloneAs s old alone → IsRun feeds alone (lone_steps s steps replies) others left → NoneWantsMemory others
    → (others ≡ lone_replies s steps replies) × IsShownAlike s new left
