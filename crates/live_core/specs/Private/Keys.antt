-- Keys among others.
use Rattle.std.specs.Prelude.{◌<◌, ℕ, Bool, List}
use Rattle.std.specs.List.{list_any}
use Rattle.std.specs.Ordering.{eq_by_cmp}
use Rattle.pk_copy.specs.KeyOrder.{key_cmp}
use Rattle.pk_copy.specs.KeyValue.{KeyValue}
use Rattle.source_feed.specs.Touches.{TouchValue}
use Rattle.board_laws.specs.Meaning.{Meaning}
use Rattle.change_laws.specs.Since.{HasTouched}

-- the key is one of these
abbrev pub has_key : List KeyValue → KeyValue → Bool
has_key keys key = list_any (eq_by_cmp key_cmp key) keys

-- a touch has the key
abbrev pub is_touched : List TouchValue → KeyValue → Bool
is_touched touches key = list_any (λ touch. eq_by_cmp key_cmp key touch.0) touches

-- one of the first so many streams has touched the key since
abbrev pub IsTouchedBelow : Meaning → Meaning → KeyValue → ℕ → Type 0
IsTouchedBelow told board key count = (s : ℕ) × (s < count) × HasTouched told board key s
