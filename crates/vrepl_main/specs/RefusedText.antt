-- The replies to steps on a board that are refused, as text (this profile).
use Rattle.std.specs.Prelude.{ℕ, List, [], ◌++◌, Some, codes, decimal}
use Rattle.filter_rule.specs.PlanTable.{TableValue, name_of_table}
use Rattle.pk_copy.specs.KeyValue.{KeyValue}
use Rattle.stream_core.specs.declared.refusal.CoreRefusal.TheVariants.{Gap}
use Rattle.dump.specs.KeyText.{key_text}
use Rattle.source_feed.specs.declared.fault.FeedFault.{FeedFault}
use Rattle.source_feed.specs.declared.fault.FeedFault.TheVariants.{BadRow, NoGroup}
use Rattle.board_laws.specs.Refusals.{number_of_step}
use Rattle.board_laws.specs.declared.refusal.Refusal.TheVariants.{Core, OwnedByOther}
use Rattle.board_laws.specs.declared.step_refusal.StepRefusal.{StepRefusal}
use Rattle.board_laws.specs.declared.step_refusal.StepRefusal.TheVariants.{Unprepared, Refused}
use Rattle.vrepl_main.specs.RefusalLine.{line_of}
use Rattle.vrepl_main.specs.Refusals.{cause_text, feed_details}

-- ---- what stands behind the number

abbrev pub owner_text : ℕ → List ℕ
owner_text owner = codes " owner " ++ decimal owner

-- another stream's row stands at a key
abbrev pub clash_text : List TableValue → KeyValue → ℕ → List ℕ
clash_text tables key owner = codes " table " ++ name_of_table tables key.table ++ codes " key " ++ key_text key ++ owner_text owner

-- a row of a group has no key or no answer of the filter
abbrev pub bad_row_text : List TableValue → ℕ → ℕ → ℕ → List ℕ
bad_row_text tables group table cause = codes " group " ++ decimal group ++ codes " table " ++ name_of_table tables table ++ cause_text (Some cause)

-- a group isn't there, or isn't sound
abbrev pub unprepared_text : List TableValue → FeedFault → List ℕ
unprepared_text tables (BadRow group table cause) = bad_row_text tables group table cause
unprepared_text tables (NoGroup groups) = codes " groups " ++ decimal groups
unprepared_text tables fault = feed_details fault

abbrev pub step_details : List TableValue → StepRefusal → List ℕ
step_details tables (Unprepared fault) = unprepared_text tables fault
step_details tables (Refused (OwnedByOther key owner)) = clash_text tables key owner
step_details tables (Refused (Core (Gap expected))) = codes " expected " ++ decimal expected
step_details tables (Refused refusal) = []

-- the line of a refused step
abbrev pub refused_text : List TableValue → StepRefusal → List ℕ
refused_text tables refusal = line_of (number_of_step refusal) (step_details tables refusal)
