-- The plans that a workflow file says, or the first of its faults. The order is: the text is JSON, the
-- document has its shape, the counts are within their limits and its further vindexes are known, then table by table its columns and types,
-- then stream by stream and rule by rule the rule's form and what it decides, and at last table by table
-- that all streams with a rule for it keep the same columns.
use Rattle.std.specs.Prelude.{◌≡◌, ◌<◌, IsUtf8, ℕ, ◌+◌, length, List, [], ◌∷◌, map, slice_get, Bool, true, Option, Some, None, option_and_then, Result, Ok, Err, if◌then◌else◌}
use Rattle.std.specs.List.{list_all}
use Rattle.std.specs.Option.{ok_or, option_or, option_map_or}
use Rattle.std.specs.Str.{bytes_eq, is_utf8}
use Rattle.serde_json.specs.Data.{Data}
use Rattle.serde_json.specs.Read.{read}
use Rattle.filter_rule.specs.Document.{RuleSaid, StreamSaid, DocumentSaid, document_of}
use Rattle.list_laws.specs.Outcome.{◌>>=◌, each}
use Rattle.filter_rule.specs.Faults.{Fault, json, columns_differ}
use Rattle.filter_rule.specs.Limits.{known_vindexes, within_limits}
use Rattle.filter_rule.specs.PlanTable.{TableValue, keeping}
use Rattle.filter_rule.specs.PlanValue.{PlanValue, kept_under_rule}
use Rattle.filter_rule.specs.Resolving.{resolved}
use Rattle.filter_rule.specs.Rules.{form_of, decide_each}
use Rattle.filter_rule.specs.declared.decision.Decision.{Decision}
use Rattle.filter_rule.specs.declared.decision.Decision.TheVariants.{NoRule}

-- one rule over all tables
abbrev pub rule_over : ℕ → ℕ → List TableValue → RuleSaid → List Decision → Result (List Decision) Fault
rule_over stream n tables r decisions = form_of stream n r >>= λ form. decide_each stream n form tables decisions

-- one rule after another, the first of these numbered n
unfoldable pub decide_in_turn : ℕ → List TableValue → ℕ → List RuleSaid → List Decision → Result (List Decision) Fault
decide_in_turn stream tables n [] decisions = Ok decisions
decide_in_turn stream tables n (r ∷ rs) decisions = rule_over stream n tables r decisions >>= λ decided. decide_in_turn stream tables (n + 1) rs decided

-- no table is decided yet
abbrev pub undecided : List TableValue → List Decision
undecided tables = map (λ _. NoRule) tables

abbrev pub decisions_of : ℕ → List TableValue → List RuleSaid → Result (List Decision) Fault
decisions_of stream tables rules = decide_in_turn stream tables 0 rules (undecided tables)

-- a stream's shard, and what its rules decide of each table
pub record Decided : Type 0 where
  pub shard : List ℕ
  pub decisions : List Decision

unfoldable pub decided_by : List TableValue → ℕ → StreamSaid → Result Decided Fault
decided_by tables n stream = do
  decisions ← decisions_of n tables stream.rules
  Ok (record { shard = stream.shard; decisions = decisions })

-- what each stream decides, the first of these numbered n
unfoldable pub decided_from : List TableValue → ℕ → List StreamSaid → Result (List Decided) Fault
decided_from tables n [] = Ok []
decided_from tables n (s ∷ ss) = decided_by tables n s >>= λ one. decided_from tables (n + 1) ss >>= λ others. Ok (one ∷ others)

-- ---- the columns that all streams keep

-- the columns that a stream keeps of table t, if a rule of it matches the table
abbrev pub kept_in : ℕ → Decided → Option (List ℕ)
kept_in t stream = option_and_then kept_under_rule (slice_get stream.decisions t)

-- the columns that the first stream with a rule for table t keeps of it
abbrev pub first_kept : ℕ → List Decided → Option (List ℕ)
first_kept t [] = None
first_kept t (s ∷ ss) = option_or (kept_in t s) (first_kept t ss)

-- a stream keeps these columns of table t, or no rule of it matches the table
abbrev pub keeps_these : ℕ → List ℕ → Decided → Bool
keeps_these t kept stream = option_map_or (λ others. bytes_eq others kept) (kept_in t stream) true

-- the columns of a table that streams keep, of which the first with a rule for it keeps these: what it has
-- where no stream has a rule
abbrev pub agreed : List Decided → ℕ → TableValue → Option (List ℕ) → Result (List ℕ) Fault
agreed streams t table None = Ok table.kept
agreed streams t table (Some kept) = if list_all (keeps_these t kept) streams then Ok kept else Err (columns_differ table.name)

-- the tables with the columns that all streams keep, the first of these numbered t
unfoldable pub closed_from : List Decided → ℕ → List TableValue → Result (List TableValue) Fault
closed_from streams t [] = Ok []
closed_from streams t (table ∷ tables) =
    agreed streams t table (first_kept t streams) >>= λ kept. closed_from streams (t + 1) tables >>= λ others. Ok (keeping table kept ∷ others)

-- a stream's plan
abbrev pub plan_over : List ℕ → List TableValue → Decided → PlanValue
plan_over keyspace tables stream = record { keyspace = keyspace; shard = stream.shard; tables = tables; decisions = stream.decisions }

-- ---- the whole file

-- a text that isn't UTF-8 is no JSON
unfoldable pub json_of : List ℕ → Result Data Fault
json_of text = if is_utf8 text then ok_or (read text) json else Err json

-- a text in UTF-8 that isn't empty
pub record IsSomeText (text : List ℕ) : Type 0 where
  pub utf8 : IsUtf8 text
  pub some : 0 < length text

-- neither a text nor one that `serde_json` reads
abbrev pub IsNoJson : List ℕ → Type 0
IsNoJson text = IsUtf8 text → read text ≡ None

unfoldable pub plans_of_document : DocumentSaid → Result (List PlanValue) Fault
plans_of_document d = do
  tables ← each resolved d.tables
  streams ← decided_from tables 0 d.streams
  closed ← closed_from streams 0 tables
  Ok (map (plan_over d.keyspace closed) streams)

-- the plans that a JSON value says
abbrev pub plans_of_value : Data → Result (List PlanValue) Fault
plans_of_value value = do
  document ← document_of value
  known ← known_vindexes document
  within ← within_limits document
  plans_of_document within

-- the plans that a text says, one a stream, or its first fault
unfoldable pub plans_of : List ℕ → Result (List PlanValue) Fault
plans_of text = json_of text >>= plans_of_value
