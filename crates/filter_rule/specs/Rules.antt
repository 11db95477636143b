-- Filter rules: which tables a rule matches, what its filter says, and what it decides of a table: which
-- of its rows pass, and which of its columns are kept.
use Rattle.std.specs.Prelude.{ℕ, ◌&&◌, Bool, true, List, [], ◌∷◌, Option, Some, None, Result, Ok, Err, if◌then◌else◌}
use Rattle.std.specs.Option.{ok_or}
use Rattle.vindex.specs.Bounds.{Bounds}
use Rattle.vindex.specs.declared.vindexes.Vindex.{Vindex}
use Rattle.filter_text.specs.FilterText.{RowsSaid, every_row, in_own_range, in_range_of, FilterMeaning, filter_of}
use Rattle.filter_text.specs.RuleScope.{TablesSaid, scope_of, is_for, agrees}
use Rattle.filter_rule.specs.Document.{RuleSaid, may_name}
use Rattle.list_laws.specs.Outcome.{◌>>=◌, each}
use Rattle.filter_rule.specs.Faults.{Fault, bad_rule}
use Rattle.filter_rule.specs.PlanTable.{TableValue}
use Rattle.filter_rule.specs.Resolving.{place_in, all_places, lists_key, vindex_type}
use Rattle.filter_rule.specs.declared.decision.Decision.{Decision}
use Rattle.filter_rule.specs.declared.decision.Decision.TheVariants.{NoRule, EveryRow, InRange}

-- a rule that has a lawful form: the tables that it is for, the names of the columns that its filter
-- lists, none where it keeps all, and the rows that it names
pub record RuleForm : Type 0 where
  pub scope : TablesSaid
  pub columns : Option (List (List ℕ))
  pub rows : RowsSaid

-- the rows are under a vindex that may be named, if they are under one that the rule names
abbrev pub may_say : Bool → RowsSaid → Bool
may_say hash every_row = true
may_say hash (in_own_range range) = true
may_say hash (in_range_of column vindex range) = may_name hash vindex

module _ (stream rule : ℕ) where
  -- the refusal of this rule
  abbrev pub or_bad : {A : Type 0} → Option A → Result A Fault
  or_bad o = ok_or o (bad_rule stream rule)

  -- a filter that selects from a table stands under that table's name, and its vindex may be named
  abbrev pub agreeing : Bool → TablesSaid → FilterMeaning → Result FilterMeaning Fault
  agreeing hash scope filter = if agrees scope filter.table && may_say hash filter.rows then Ok filter else Err (bad_rule stream rule)

  -- the form of a rule
  unfoldable pub form_of : RuleSaid → Result RuleForm Fault
  form_of r = do
    scope ← or_bad (scope_of r.matches)
    filter ← or_bad (filter_of r.filter)
    same ← agreeing r.uses_hash scope filter
    Ok (record { scope = scope; columns = filter.columns; rows = filter.rows })

  -- the places of the columns that a rule keeps of a table; a list has each key column
  abbrev pub kept_by : Option (List (List ℕ)) → TableValue → Result (List ℕ) Fault
  kept_by None t = Ok (all_places t.columns)
  kept_by (Some names) t = if lists_key names t.columns t.key then each (place_in t.name t.columns) names else Err (bad_rule stream rule)

  -- a key range alone is under the table's own vindex
  abbrev pub own_decision : Option (List (List ℕ)) → TableValue → Bounds → Option (ℕ × Vindex) → Result Decision Fault
  own_decision columns t range None = Err (bad_rule stream rule)
  own_decision columns t range (Some v) = kept_by columns t >>= λ kept. Ok (InRange v.0 v.1 range kept)

  -- what a rule decides of a table that it is first to match
  abbrev pub decide : Option (List (List ℕ)) → RowsSaid → TableValue → Result Decision Fault
  decide columns every_row t = kept_by columns t >>= λ kept. Ok (EveryRow kept)
  decide columns (in_own_range range) t = own_decision columns t range t.vindex
  decide columns (in_range_of column vindex range) t =
      kept_by columns t >>= λ kept. place_in t.name t.columns column >>= λ place. vindex_type t.name t.columns column vindex >>= λ _. Ok (InRange place vindex range kept)

  -- a table that an earlier rule matches stays decided
  abbrev pub decide_once : RuleForm → TableValue → Decision → Result Decision Fault
  decide_once form t NoRule = if is_for form.scope t.name then decide form.columns form.rows t else Ok NoRule
  decide_once form t (EveryRow kept) = Ok (EveryRow kept)
  decide_once form t (InRange column vindex range kept) = Ok (InRange column vindex range kept)

  -- one rule over all tables, in order
  unfoldable pub decide_each : RuleForm → List TableValue → List Decision → Result (List Decision) Fault
  decide_each form [] ds = Ok []
  decide_each form (t ∷ ts) [] = Ok []
  decide_each form (t ∷ ts) (d ∷ ds) = decide_once form t d >>= λ e. decide_each form ts ds >>= λ es. Ok (e ∷ es)
