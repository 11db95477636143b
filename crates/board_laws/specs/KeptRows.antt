-- The rows of a history that pass the filter, as a list: the keys that it touches, by rising key, each with
-- what stands there; and the same with the columns that a target keeps of them (this profile).
use Rattle.std.specs.Prelude.{ℕ, List, [], ◌∷◌, map, take}
use Rattle.std.specs.List.{filter_map}
use Rattle.std.specs.Option.{option_map}
use Rattle.std.specs.Ordering.{match_ordering}
use Rattle.filter_rule.specs.PlanValue.{PlanValue}
use Rattle.pk_copy.specs.KeyOrder.{key_cmp}
use Rattle.pk_copy.specs.KeyValue.{KeyValue}
use Rattle.source_feed.specs.History.{RowValue, KeptRow, touches_in, passed_at, kept_of}
use Rattle.source_feed.specs.Image.{ImageRows}
use Rattle.source_feed.specs.Touches.{TouchValue, PreparedValue}

-- rising keys and one key more
abbrev pub with_key : KeyValue → List KeyValue → List KeyValue
with_key key [] = key ∷ []
with_key key (first ∷ later) = match_ordering (key_cmp key first) (key ∷ first ∷ later) (first ∷ later) (first ∷ with_key key later)

-- the keys of touches, rising, each once
abbrev pub touched_keys : List TouchValue → List KeyValue
touched_keys [] = []
touched_keys (touch ∷ later) = with_key touch.0 (touched_keys later)

-- the rows that the first n groups left and that pass the filter, by rising key
abbrev pub passed_rows : List PreparedValue → ℕ → ImageRows
passed_rows history n = filter_map (λ key. option_map (λ row. (key, row)) (passed_at history n key)) (touched_keys (touches_in (take n history)))

-- a row with its kept columns alone
abbrev pub kept_row : PlanValue → KeyValue × RowValue → KeyValue × KeptRow
kept_row plan row = (row.0, kept_of plan row.0 row.1)

-- the kept columns of these rows, by rising key
abbrev pub kept_rows : PlanValue → List PreparedValue → ℕ → ImageRows
kept_rows plan history n = map (kept_row plan) (passed_rows history n)
