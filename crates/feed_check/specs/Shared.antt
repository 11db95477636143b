-- The least key that two feeds touch: where it has a row of one of the two streams, a row of the other one isn't put
-- (this profile).
use Rattle.std.specs.Prelude.{◌≡◌, ℕ, ◌+◌, ◌<◌, List, [], ◌∷◌, map, slice_get, Bool, Option, Some, None, is_some, if◌then◌else◌}
use Rattle.std.specs.Option.{option_map}
use Rattle.std.specs.Ordering.{is_lt}
use Rattle.std.specs.declared.cmp.Ordering.TheVariants.{Less}
use Rattle.board_laws.specs.Runs.{IsTouchedIn}
use Rattle.pk_copy.specs.KeyOrder.{key_cmp}
use Rattle.pk_copy.specs.KeyValue.{KeyValue}
use Rattle.target_tables.specs.Touches.{last_at}
use Rattle.source_feed.specs.History.{touches_in}
use Rattle.source_feed.specs.Touches.{TouchValue, PreparedValue}
use Rattle.feed_check.specs.Checked.{CheckedValue}

abbrev pub History : Type 0
History = List PreparedValue

-- a key that two feeds touch, and their streams, the lower one first
pub record SharedValue : Type 0 where
  pub key : KeyValue
  pub one : ℕ
  pub other : ℕ

-- a group touches the key
abbrev pub touches_key : History → KeyValue → Bool
touches_key history key = is_some (last_at key_cmp (touches_in history) key)

-- the first of some feeds that touches a key, these being numbered from one on
abbrev pub first_touching : ℕ → List History → KeyValue → Option ℕ
first_touching i [] key = None
first_touching i (history ∷ later) key = if touches_key history key then Some i else first_touching (i + 1) later key

-- the one with the lesser key; of one key the second
abbrev pub lesser : Option SharedValue → Option SharedValue → Option SharedValue
lesser best None = best
lesser None (Some found) = Some found
lesser (Some best) (Some found) = if is_lt (key_cmp best.key found.key) then Some best else Some found

-- a key that stream i's feed touches, where another one is told for it
abbrev pub shared_at : (KeyValue → Option ℕ) → ℕ → KeyValue → Option SharedValue
shared_at others i key = option_map (λ other. record { key = key; one = i; other = other }) (others key)

-- the least of one and those of touches
abbrev pub shared_among : (KeyValue → Option ℕ) → ℕ → Option SharedValue → List TouchValue → Option SharedValue
shared_among others i best [] = best
shared_among others i best (touch ∷ later) = shared_among others i (lesser best (shared_at others i touch.0)) later

-- the least of some feeds, which are numbered from one on: of the later ones, and of those of this one's touches that a
-- later one touches too
abbrev pub shared_from : ℕ → List History → Option SharedValue
shared_from i [] = None
shared_from i (history ∷ later) = shared_among (first_touching (i + 1) later) i (shared_from (i + 1) later) (touches_in history)

abbrev pub histories_of : List CheckedValue → List History
histories_of checks = map (λ check. check.history) checks

-- that of feeds that were checked
abbrev pub shared_of : List CheckedValue → Option SharedValue
shared_of checks = shared_from 0 (histories_of checks)

-- ---- the same as a relation

-- the feed of stream s touches the key
pub record TouchesKey (feeds : List History) (s : ℕ) (key : KeyValue) : Type 0 where
  pub history : History
  pub fed : slice_get feeds s ≡ Some history
  pub touched : IsTouchedIn history key

-- no two feeds touch the key
abbrev pub IsOfOne : List History → KeyValue → Type 0
IsOfOne feeds key = (s t : ℕ) → TouchesKey feeds s key → TouchesKey feeds t key → s ≡ t

-- the feeds of the two streams touch the key, and no two feeds touch a lesser one
pub record IsLeastShared (feeds : List History) (shared : SharedValue) : Type 0 where
  pub apart : shared.one < shared.other
  pub one : TouchesKey feeds shared.one shared.key
  pub other : TouchesKey feeds shared.other shared.key
  pub none_less : (key : KeyValue) → key_cmp key shared.key ≡ Less → IsOfOne feeds key

-- what is told of feeds: nothing where no key is touched in two of them, else the least such key
abbrev pub IsTold : List History → Option SharedValue → Type 0
IsTold feeds None = (key : KeyValue) → IsOfOne feeds key
IsTold feeds (Some shared) = IsLeastShared feeds shared
