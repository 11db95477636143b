use Rattle.std.proofs.Common.{◌≡◌, [], drop, map}
use Rattle.serde_json.specs.View.{view}
use Rattle.tiles_said.specs.Sources.{sources_from}
use Rattle.tiles_said.proofs.sources.sources_of.Given as goal

-- with those of the files that are left they are all
abbrev pub invariant-loop-file : goal.invariant-loop-file
invariant-loop-file l = sources_from l.sources.items (map view (drop l.file-index l.files)) ≡ sources_from [] (map view l.files)
