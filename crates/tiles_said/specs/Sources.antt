-- The source shards and the tables of which workflow files speak, each once (this profile).
use Rattle.std.specs.Prelude.{ℕ, ◌&&◌, Bool, List, [], ◌∷◌, ◌++◌, codes, if◌then◌else◌, unwrap_or}
use Rattle.std.specs.List.{list_any}
use Rattle.std.specs.Str.{bytes_eq}
use Rattle.serde_json.specs.Data.{Data, null}
use Rattle.workflow_check.specs.File.{value_in}
use Rattle.workflow_check.specs.Json.{items_at, text_at}

-- the JSON value of a workflow's text
abbrev pub file_in : List ℕ → Data
file_in text = unwrap_or (value_in text) null

-- ---- source shards

-- a shard of a keyspace
pub record SourceValue : Type 0 where
  pub keyspace : List ℕ
  pub shard : List ℕ

abbrev pub is_source : SourceValue → SourceValue → Bool
is_source one other = bytes_eq one.keyspace other.keyspace && bytes_eq one.shard other.shard

abbrev pub has_source : List SourceValue → SourceValue → Bool
has_source sources source = list_any (is_source source) sources

-- one more, unless it is there
abbrev pub with_source : List SourceValue → SourceValue → List SourceValue
with_source sources source = if has_source sources source then sources else sources ++ source ∷ []

abbrev pub source_in : List ℕ → Data → SourceValue
source_in keyspace stream = record { keyspace = keyspace; shard = text_at (codes "shard") stream }

-- those of a keyspace's streams more
abbrev pub with_streams : List ℕ → List SourceValue → List Data → List SourceValue
with_streams keyspace sources [] = sources
with_streams keyspace sources (stream ∷ streams) = with_streams keyspace (with_source sources (source_in keyspace stream)) streams

-- those of files more
abbrev pub sources_from : List SourceValue → List Data → List SourceValue
sources_from sources [] = sources
sources_from sources (file ∷ files) = sources_from (with_streams (text_at (codes "keyspace") file) sources (items_at (codes "streams") file)) files

-- ---- tables

abbrev pub has_name : List (List ℕ) → List ℕ → Bool
has_name names name = list_any (bytes_eq name) names

-- one more, unless it is there
abbrev pub with_name : List (List ℕ) → List ℕ → List (List ℕ)
with_name names name = if has_name names name then names else names ++ name ∷ []

-- those of tables more
abbrev pub with_tables : List (List ℕ) → List Data → List (List ℕ)
with_tables names [] = names
with_tables names (table ∷ tables) = with_tables (with_name names (text_at (codes "name") table)) tables

-- those of files more
abbrev pub tables_from : List (List ℕ) → List Data → List (List ℕ)
tables_from names [] = names
tables_from names (file ∷ files) = tables_from (with_tables names (items_at (codes "tables") file)) files
