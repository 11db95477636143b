-- What a step puts into the target, before it is put there (this profile).
use Rattle.std.specs.Prelude.{◌≡◌, List, Option}
use Rattle.pk_copy.specs.KeyOrder.{key_cmp}
use Rattle.pk_copy.specs.KeyValue.{KeyValue}
use Rattle.target_tables.specs.Touches.{last_at}
use Rattle.source_feed.specs.History.{RowValue}
use Rattle.board_laws.specs.Meaning.{State}
use Rattle.board_laws.specs.Event.{Event}
use Rattle.board_laws.specs.Touching.{touch_of}

-- these changes do at every key what the event does on a stream in this state
abbrev pub DoAsStep : State → Event → List (KeyValue × Option RowValue) → Type 0
DoAsStep state event puts = (key : KeyValue) → last_at key_cmp puts key ≡ touch_of state event key
