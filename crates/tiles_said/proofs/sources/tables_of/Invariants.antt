use Rattle.std.proofs.Common.{◌≡◌, [], drop, map}
use Rattle.serde_json.specs.View.{view}
use Rattle.tiles_said.specs.Sources.{tables_from}
use Rattle.tiles_said.proofs.sources.tables_of.Given as goal

-- with those of the files that are left they are all
abbrev pub invariant-loop-file : goal.invariant-loop-file
invariant-loop-file l = tables_from l.names.items (map view (drop l.file-index l.files)) ≡ tables_from [] (map view l.files)
