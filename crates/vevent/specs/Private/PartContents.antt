-- What the walk over a checkpoint's part has met so far, and the fields that are still to come, are
-- together what the part holds.
use Rattle.std.specs.Prelude.{◌≡◌, ◌||◌, ◌&&◌, ℕ, List, [], ◌∷◌, unwrap_or}
use Rattle.std.specs.List.{filter_map, list_any, list_all}
use Rattle.std.specs.Option.{option_or}
use Rattle.proto_wire.specs.Field.{WireField}
use Rattle.proto_wire.specs.Parts.{part_in, last_of, text, parts, single, is_repeated}
use Rattle.vevent.specs.declared.part_contents.TableContents.{TableContents}
use Rattle.vevent.specs.declared.part_contents.StreamContents.{StreamContents}
use Rattle.vevent.specs.CheckpointPart.{repeats_in_table, are_table_texts, table_row_fault, repeats_in_stream, first_in_tables, stream_row_fault}
use Rattle.vevent.specs.Private.Singular.{message_behind, repeats_behind}
use Rattle.vevent.specs.Private.AnswerParts.{AreAllAnswerParts}

-- ---- a table's part

-- what was met, and these fields that are still to come, are the whole part; the first of its answers
-- was walked
pub record IsTable (part : List ℕ) (met : TableContents) (more : List WireField) : Type 0 where
  pub answer : message_behind met.answer (filter_map (part_in 2) more) ≡ single 2 part
  pub answers : repeats_behind met.answer (filter_map (part_in 2) more) ≡ is_repeated 2 part
  pub held : AreAllAnswerParts (unwrap_or (message_behind met.answer []) []) met.held

-- one more answer is met
pub record PutsAnswer (message : List ℕ) (old new : TableContents) : Type 0 where
  pub answer : (more : List (List ℕ)) → message_behind new.answer more ≡ message_behind old.answer (message ∷ more)
  pub answers : (more : List (List ℕ)) → repeats_behind new.answer more ≡ repeats_behind old.answer (message ∷ more)
  pub held : AreAllAnswerParts (unwrap_or (message_behind old.answer []) []) old.held → AreAllAnswerParts (unwrap_or (message_behind new.answer []) []) new.held

-- nothing of the part is still to come
abbrev pub IsWholeTable : List ℕ → TableContents → Type 0
IsWholeTable part met = IsTable part met []

-- ---- a stream's part

-- what was met, and these fields that are still to come, are the whole part
pub record IsStream (part : List ℕ) (met : StreamContents) (more : List WireField) : Type 0 where
  pub shard : last_of met.shard.now (filter_map (part_in 1) more) ≡ text 1 part
  pub repeats : (met.repeats || list_any repeats_in_table (filter_map (part_in 2) more)) ≡ repeats_in_stream part
  pub texts : (met.are_tables && list_all are_table_texts (filter_map (part_in 2) more)) ≡ list_all are_table_texts (parts 2 part)
  pub fault : option_or met.fault (first_in_tables (filter_map (part_in 2) more)) ≡ stream_row_fault part

-- one more table's part is met
pub record PutsTable (part : List ℕ) (old new : StreamContents) : Type 0 where
  pub shard : new.shard.now ≡ old.shard.now
  pub repeats : new.repeats ≡ (old.repeats || repeats_in_table part)
  pub texts : new.are_tables ≡ (old.are_tables && are_table_texts part)
  pub fault : new.fault ≡ option_or old.fault (table_row_fault part)

-- nothing of the part is still to come
abbrev pub IsWholeStream : List ℕ → StreamContents → Type 0
IsWholeStream part met = IsStream part met []
