use Rattle.std.proofs.Common.{◌≡◌, map, take}
use Rattle.log_tables.specs.Column.{wanted_value}
use Rattle.vrepl_transcribe.specs.Source.{wanted_of}
use Rattle.vrepl_transcribe.proofs.source.wanted_of.Given as goal

-- the columns so far are the first ones
abbrev pub invariant-loop-column : goal.invariant-loop-column
invariant-loop-column l = map wanted_value l.wanted.items ≡ map wanted_of (take l.column-index l.columns)
