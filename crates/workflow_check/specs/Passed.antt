-- The rows of each table that each stream passes, one by one (this profile).
use Rattle.std.specs.Prelude.{ℕ, ◌+◌, List, [], ◌∷◌, ◌++◌, map, codes, Option, None, Some}
use Rattle.serde_json.specs.Data.{Data}
use Rattle.filter_rule.specs.Document.{RuleSaid}
use Rattle.workflow_check.specs.File.{value_in}
use Rattle.workflow_check.specs.Json.{items_at, text_at}
use Rattle.workflow_check.specs.Passing.{table_words}
use Rattle.workflow_check.specs.Rules.{rules_in}

-- a stream by its number, a table by its name, and the rows of it that the stream passes, in words
pub record PassedValue : Type 0 where
  pub stream : ℕ
  pub table : List ℕ
  pub rows : List ℕ

abbrev pub passed_at : ℕ → List RuleSaid → Data → PassedValue
passed_at i rules table = record { stream = i; table = text_at (codes "name") table; rows = table_words rules table }

abbrev pub passed_by : ℕ → List RuleSaid → List Data → List PassedValue
passed_by i rules tables = map (passed_at i rules) tables

-- those of the streams, from one on
abbrev pub passed_from : List Data → ℕ → List Data → List PassedValue
passed_from tables i [] = []
passed_from tables i (stream ∷ streams) = passed_by i (rules_in stream) tables ++ passed_from tables (i + 1) streams

abbrev pub passed_in : Option Data → List PassedValue
passed_in None = []
passed_in (Some file) = passed_from (items_at (codes "tables") file) 0 (items_at (codes "streams") file)

-- those of a text
abbrev pub passed_of : List ℕ → List PassedValue
passed_of text = passed_in (value_in text)
