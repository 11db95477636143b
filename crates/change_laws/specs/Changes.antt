-- What changed in the rows of a target: for some keys what stands there now (this profile).
use Rattle.std.specs.Prelude.{◌≡◌, ℕ, List, map, Option, Some, unwrap_or}
use Rattle.std.specs.Map.{lookup}
use Rattle.std.specs.Ordering.{eq_by_cmp}
use Rattle.pk_copy.specs.KeyOrder.{key_cmp}
use Rattle.pk_copy.specs.KeyValue.{KeyValue}
use Rattle.target_tables.specs.Contents.{value_at}
use Rattle.target_tables.specs.Rising.{IsRising}
use Rattle.source_feed.specs.History.{KeptRow}
use Rattle.board_laws.specs.Meaning.{TargetRows}
use Rattle.change_laws.specs.declared.changed_keys.ChangedKeys.{ChangedKeys}
use Rattle.change_laws.specs.declared.changed_keys.ChangedKeys.TheVariants.{All, Touched}

-- a key, with the stream and the row that stand there, or with nothing
abbrev pub Change : Type 0
Change = KeyValue × Option (ℕ × KeptRow)

-- what stands at a key where changes are made to rows: what the change of the key says, and else what stood there
abbrev pub changed_at : List Change → TargetRows → KeyValue → Option (ℕ × KeptRow)
changed_at changes rows key = unwrap_or (lookup (eq_by_cmp key_cmp key) changes) (value_at key_cmp rows key)

-- Who makes the changes to the rows that stood has the rows that stand. No key is changed twice.
pub record LeadOn (stood : TargetRows) (changes : List Change) (stand : TargetRows) : Type 0 where
  pub rising : IsRising key_cmp changes
  pub each_key : (key : KeyValue) → value_at key_cmp stand key ≡ changed_at changes stood key

-- what stands at some keys, as changes
abbrev pub changes_at : TargetRows → List KeyValue → List Change
changes_at rows keys = map (λ key. (key, value_at key_cmp rows key)) keys

-- all rows, as changes
abbrev pub all_changes : TargetRows → List Change
all_changes rows = map (λ entry. (entry.0, Some entry.1)) rows

-- what stands at the keys that have changed
abbrev pub changes_in : TargetRows → ChangedKeys → List Change
changes_in rows All = all_changes rows
changes_in rows (Touched keys) = changes_at rows keys.keys
