-- A checkpoint as it is written, stream by stream.
use Rattle.std.specs.Prelude.{ℕ, ◌+◌, List, [], ◌∷◌}
use Rattle.vevent.specs.CheckpointPart.{StreamPartValue}
use Rattle.board_laws.specs.Meaning.{State, TargetRows}
use Rattle.checkpoint_laws.specs.declared.version.Version.TheVariants.{Two}
use Rattle.checkpoint_laws.specs.Saved.{saved_stream}
use Rattle.checkpoint_laws.specs.Written.{stream_part}

-- the parts of streams s, s + 1, ..
abbrev pub parts_from : ℕ → List State → TargetRows → List StreamPartValue
parts_from s [] rows = []
parts_from s (state ∷ later) rows = stream_part Two state.plan (saved_stream s state rows) ∷ parts_from (s + 1) later rows
