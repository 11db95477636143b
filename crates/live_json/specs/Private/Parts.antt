-- What is told, as plain values; and members that may not be there, as text.
use Rattle.std.specs.Prelude.{ℕ, List, [], ◌∷◌, ◌++◌, map, Option, None, Some, codes, string_bytes}
use Rattle.std.specs.Option.{option_copied, option_map}
use Rattle.json.specs.Print.{quoted}
use Rattle.pk_copy.specs.MarkView.{mark_value}
use Rattle.serde_json.specs.Data.{Data, string}
use Rattle.serde_json.specs.Written.{compact_text}
use Rattle.live_json.specs.Answers.{CopiedValue, RefusalValue, StreamValue, TableCounts, count_data, key_data}
use Rattle.live_json.specs.declared.counts.CountsTold.{CountsTold}
use Rattle.live_json.specs.declared.refusal.RefusalTold.{RefusalTold}
use Rattle.live_json.specs.declared.streams.CopiedTold.{CopiedTold}
use Rattle.live_json.specs.declared.streams.StreamTold.{StreamTold}

-- ---- what is told

abbrev pub refusal_value : RefusalTold → RefusalValue
refusal_value told = record {
  refused = told.number;
  words = told.words.now;
  cause = told.cause;
  file = option_map (λ file. file.now) told.file;
  group = told.group;
  key = option_copied told.key;
  owner = told.owner;
  stream = told.stream;
  table = option_map (λ table. table.now) told.table;
  column_type = told.column_type;
}

abbrev pub copied_value : CopiedTold → CopiedValue
copied_value told = record { table = told.table.now; mark = mark_value told.mark }

abbrev pub stream_value : StreamTold → StreamValue
stream_value told = record {
  stream = told.stream;
  phase = told.phase;
  read = told.read;
  applied = told.applied;
  groups = told.groups;
  bytes = told.bytes;
  tail = told.tail;
  position = option_map string_bytes told.position;
  marks = map copied_value told.copied.items;
  refused = option_map refusal_value told.refused;
}

abbrev pub counts_value : CountsTold → TableCounts
counts_value told = record { table = told.table.now; rows = told.rows.items }

-- ---- members that may not be there

-- with a comma behind it
abbrev pub before_text : {X : Type 0} → List ℕ → (X → Data) → Option X → List ℕ
before_text name data_of None = []
before_text name data_of (Some x) = quoted name ++ 58 ∷ (compact_text (data_of x) ++ 44 ∷ [])

-- with a comma before it
abbrev pub behind_text : {X : Type 0} → List ℕ → (X → Data) → Option X → List ℕ
behind_text name data_of None = []
behind_text name data_of (Some x) = 44 ∷ (quoted name ++ 58 ∷ compact_text (data_of x))

-- those before the number of a refusal, and those behind it
abbrev pub first_texts : RefusalValue → List ℕ
first_texts refusal =
    before_text (codes "cause") count_data refusal.cause
    ++ (before_text (codes "file") string refusal.file ++ (before_text (codes "group") count_data refusal.group ++ before_text (codes "key") key_data refusal.key))

abbrev pub last_texts : RefusalValue → List ℕ
last_texts refusal =
    behind_text (codes "owner") count_data refusal.owner
    ++ (behind_text (codes "stream") count_data refusal.stream ++ (behind_text (codes "table") string refusal.table ++ behind_text (codes "type") count_data refusal.column_type))
