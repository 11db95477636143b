-- What a statement that alters tables is to one table, by its text, without a grammar: it refuses rather too much than too
-- little (this profile).
use Rattle.std.specs.Prelude.{ℕ, ◌&&◌, ◌||◌, not, if◌then◌else◌, Bool, false, List, drop, codes, is_some, Option, None, Some, Result, Ok, Err}
use Rattle.std.specs.Option.{option_or}
use Rattle.std.specs.Str.{bytes_eq}
use Rattle.log_groups.specs.Body.{QueryValue}
use Rattle.log_feed.specs.declared.fault.Trouble.{Trouble}
use Rattle.log_feed.specs.declared.fault.Trouble.TheVariants.{Altered}
use Rattle.log_feed.specs.declared.table.Stage.{Stage}
use Rattle.log_feed.specs.declared.table.Stage.TheVariants.{Absent, Made, Filled}
use Rattle.log_feed.specs.Words.{begins_with, begins_by_word, has_word, behind_words, behind_name}

-- ---- the table that a CREATE TABLE makes

-- what stands behind its first words
unfoldable pub behind_create : List ℕ → Option (List ℕ)
behind_create text = option_or (behind_words (codes "CREATE TABLE IF NOT EXISTS") text) (option_or (behind_words (codes "CREATE OR REPLACE TABLE") text) (behind_words (codes "CREATE TABLE") text))

-- the table's own name stands there, of the statement's own schema
abbrev pub names_alone : Bool → Option (List ℕ) → Bool
names_alone same None = false
names_alone same (Some rest) = same && not (begins_with (codes ".") rest)

-- its name stands there behind the schema's
abbrev pub names_within : List ℕ → Option (List ℕ) → Bool
names_within name None = false
names_within name (Some rest) = begins_with (codes ".") rest && is_some (behind_name name (drop 1 rest))

-- either
unfoldable pub names_table : List ℕ → List ℕ → List ℕ → List ℕ → Bool
names_table schema name own text = names_alone (bytes_eq own schema) (behind_name name text) || names_within name (behind_name schema text)

abbrev pub names_made : List ℕ → List ℕ → List ℕ → Option (List ℕ) → Bool
names_made schema name own None = false
names_made schema name own (Some text) = names_table schema name own text

-- the statement makes the table
unfoldable pub makes : List ℕ → List ℕ → QueryValue → Bool
makes schema name q = names_made schema name q.schema (behind_create q.text)

-- ---- whether a statement may be of the table

-- it drops a schema of this name
unfoldable pub drops_schema : List ℕ → List ℕ → Bool
drops_schema schema text = begins_by_word (codes "DROP") text && (has_word (codes "DATABASE") text || has_word (codes "SCHEMA") text) && has_word schema text

-- it has the table's name, or drops its schema
unfoldable pub concerns : List ℕ → List ℕ → List ℕ → Bool
concerns schema name text = has_word name text || drops_schema schema text

-- it makes a table of rows that it selects
unfoldable pub selects : List ℕ → Bool
selects text = has_word (codes "CREATE") text && has_word (codes "TABLE") text && has_word (codes "SELECT") text

-- rows may come into the table that no event has: those of a table that is renamed, exchanged, imported or converted, or that
-- are selected
unfoldable pub moves_rows : List ℕ → Bool
moves_rows text = has_word (codes "RENAME") text || has_word (codes "EXCHANGE") text || has_word (codes "IMPORT") text || has_word (codes "CONVERT") text || selects text

-- ---- what the table is behind it

abbrev pub unfilled_to : List ℕ → List ℕ → QueryValue → Stage → Result Stage Trouble
unfilled_to schema name q stage = if moves_rows q.text then Err Altered else if makes schema name q then Ok Made else if begins_by_word (codes "DROP") q.text then Ok Absent else Ok stage

-- a table that had rows may not be altered
abbrev pub by_stage : List ℕ → List ℕ → QueryValue → Stage → Result Stage Trouble
by_stage schema name q Absent = unfilled_to schema name q Absent
by_stage schema name q Made = unfilled_to schema name q Made
by_stage schema name q Filled = Err Altered

unfoldable pub alters_to : List ℕ → List ℕ → QueryValue → Stage → Result Stage Trouble
alters_to schema name q stage = if concerns schema name q.text then by_stage schema name q stage else Ok stage
