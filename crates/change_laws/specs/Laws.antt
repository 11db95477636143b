-- Laws of changes, as statements: each is the contract of a function without a body.
use Rattle.std.specs.Prelude.{◌≡◌, ◌≢◌, true, ℕ, List, [], slice_get}
use Rattle.std.specs.List.{list_any}
use Rattle.std.specs.List.Sorted.{IsStrictlySortedBy}
use Rattle.std.specs.Ordering.{eq_by_cmp}
use Rattle.pk_copy.specs.KeyOrder.{key_cmp}
use Rattle.pk_copy.specs.KeyValue.{KeyValue}
use Rattle.stream_core.specs.declared.step.Step.{Step}
use Rattle.target_tables.specs.Contents.{value_at}
use Rattle.target_tables.specs.Rising.{IsRising}
use Rattle.source_feed.specs.Planned.{FeedValue}
use Rattle.board_laws.specs.Lawful.{IsLawful}
use Rattle.board_laws.specs.Meaning.{TargetRows, Meaning}
use Rattle.board_laws.specs.Schedule.{Reply, IsReply}
use Rattle.change_laws.specs.Changes.{LeadOn, changes_at, all_changes}
use Rattle.change_laws.specs.Since.{HaveGoneOn, IsTouchedSince, GoesOnBy, HasMoved}

-- ---- streams that go on

-- a board goes on from itself, and no step is a move
abbrev pub BoardsStandStill : Type 0
BoardsStandStill = (feeds : List FeedValue) (board : Meaning) → HaveGoneOn board board × HasMoved feeds board board

-- a step that reads a group or applies one is a move, whatever it replies
abbrev pub StepsAreMoves : Type 0
StepsAreMoves = (feeds : List FeedValue) (old new : Meaning) (s : ℕ) (step : Step) (reply : Reply) → GoesOnBy step → IsReply feeds old (s, step) reply new → HasMoved feeds old new

-- and leaves every other stream as it was
abbrev pub StepsAreOfOneStream : Type 0
StepsAreOfOneStream =
    (feeds : List FeedValue) (old new : Meaning) (s : ℕ) (step : Step) (reply : Reply) → IsReply feeds old (s, step) reply new → (t : ℕ) → t ≢ s → slice_get new.streams t ≡ slice_get old.streams t

-- one move and then another are a move
abbrev pub MovesAddUp : Type 0
MovesAddUp = (feeds : List FeedValue) (old between new : Meaning) → HasMoved feeds old between → HasMoved feeds between new → HasMoved feeds old new

-- by a move a lawful board goes on
abbrev pub MovesGoOn : Type 0
MovesGoOn = (feeds : List FeedValue) (old new : Meaning) → IsLawful old → HasMoved feeds old new → HaveGoneOn old new

-- boards that go on one from another
abbrev pub BoardsGoOnAndOn : Type 0
BoardsGoOnAndOn = (old between new : Meaning) → HaveGoneOn old between → HaveGoneOn between new → HaveGoneOn old new

-- ---- keys

-- a key that no stream has touched since stands as it stood
abbrev pub UntouchedKeysStand : Type 0
UntouchedKeysStand =
    (old new : Meaning) (key : KeyValue) → IsLawful old → IsLawful new → HaveGoneOn old new → ¬ IsTouchedSince old new key → value_at key_cmp new.rows key ≡ value_at key_cmp old.rows key

-- of rising keys, those among them that were touched since, what stands there leads on
abbrev pub ChangesLeadOn : Type 0
ChangesLeadOn =
    (old new : Meaning) (keys : List KeyValue) → IsLawful old → IsLawful new → HaveGoneOn old new → IsStrictlySortedBy key_cmp keys
    → ((key : KeyValue) → IsTouchedSince old new key → list_any (eq_by_cmp key_cmp key) keys ≡ true)
    → LeadOn old.rows (changes_at new.rows keys) new.rows

-- all rows lead on from none
abbrev pub AllRowsLeadOn : Type 0
AllRowsLeadOn = (rows : TargetRows) → IsRising key_cmp rows → LeadOn [] (all_changes rows) rows
