-- What the walk over an answer has met so far, and the fields that are still to come, are together what
-- the answer holds.
use Rattle.std.specs.Prelude.{◌≡◌, ◌&&◌, ℕ, List, [], None}
use Rattle.std.specs.List.{filter_map, list_all}
use Rattle.std.specs.Option.{option_or}
use Rattle.std.specs.Str.{is_utf8}
use Rattle.proto_wire.specs.Field.{WireField}
use Rattle.proto_wire.specs.Parts.{part_in, last_of, text, single, is_repeated}
use Rattle.vevent.specs.declared.answer_parts.AnswerParts.{AnswerParts}
use Rattle.vevent.specs.Fault.{first_in}
use Rattle.vevent.specs.Answer.{are_names, in_rows, answer_row_fault}
use Rattle.vevent.specs.Private.Singular.{message_behind, repeats_behind}

-- what was met, and these fields that are still to come, are the whole answer
pub record AreAnswerParts (answer : List ℕ) (met : AnswerParts) (more : List WireField) : Type 0 where
  pub names : (met.are_names && (list_all (λ field. is_utf8 (text 1 field)) (filter_map (part_in 1) more) && list_all (λ field. is_utf8 (text 1 field)) (filter_map (part_in 2) more))) ≡ (are_names 1 answer && are_names 2 answer)
  pub gtid : last_of met.gtid.now (filter_map (part_in 3) more) ≡ text 3 answer
  pub fault : option_or met.fault (first_in in_rows more None) ≡ answer_row_fault answer
  pub lastpk : message_behind met.lastpk (filter_map (part_in 5) more) ≡ single 5 answer
  pub lastpks : repeats_behind met.lastpk (filter_map (part_in 5) more) ≡ is_repeated 5 answer

-- one more column is met
pub record PutsColumn (column : List ℕ) (old new : AnswerParts) : Type 0 where
  pub names : new.are_names ≡ (old.are_names && is_utf8 (text 1 column))
  pub gtid : new.gtid.now ≡ old.gtid.now
  pub fault : new.fault ≡ old.fault
  pub lastpk : new.lastpk ≡ old.lastpk

-- nothing of the answer is still to come
abbrev pub AreAllAnswerParts : List ℕ → AnswerParts → Type 0
AreAllAnswerParts answer met = AreAnswerParts answer met []
