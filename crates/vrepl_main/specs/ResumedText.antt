-- The lines of checkpoints that aren't resumed (this profile).
use Rattle.std.specs.Prelude.{ℕ, List, [], ◌++◌, codes, decimal}
use Rattle.filter_rule.specs.PlanTable.{TableValue, name_of_table}
use Rattle.pk_copy.specs.KeyValue.{KeyValue}
use Rattle.dump.specs.KeyText.{key_text}
use Rattle.checkpoint_laws.specs.Faults.{number_of}
use Rattle.checkpoint_laws.specs.declared.fault.ResumeFault.{ResumeFault}
use Rattle.checkpoint_laws.specs.declared.fault.ResumeFault.TheVariants.{PositionUnknown, Unsound, CheckpointDiffers, OwnedByOther}
use Rattle.vrepl_main.specs.RefusalLine.{line_of}
use Rattle.vrepl_main.specs.RefusedText.{clash_text, unprepared_text}

-- the rows of a stream differ from its feed's at a key
abbrev pub differs_text : List TableValue → ℕ → KeyValue → List ℕ
differs_text tables stream key = codes " stream " ++ decimal stream ++ codes " table " ++ name_of_table tables key.table ++ codes " key " ++ key_text key

-- what stands behind the number
abbrev pub resume_details : List TableValue → ResumeFault → List ℕ
resume_details tables (PositionUnknown stream) = codes " stream " ++ decimal stream
resume_details tables (Unsound fault) = unprepared_text tables fault
resume_details tables (CheckpointDiffers stream key) = differs_text tables stream key
resume_details tables (OwnedByOther key owner) = clash_text tables key owner
resume_details tables fault = []

-- the line
abbrev pub resume_line : List TableValue → ResumeFault → List ℕ
resume_line tables fault = line_of (number_of fault) (resume_details tables fault)
