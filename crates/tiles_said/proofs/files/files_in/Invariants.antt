use Rattle.std.proofs.Common.{◌≡◌, take, map}
use Rattle.serde_json.specs.View.{view}
use Rattle.tiles_said.specs.Sources.{file_in}
use Rattle.tiles_said.proofs.files.files_in.Given as goal

-- the values so far are those of the first texts
abbrev pub invariant-loop-text : goal.invariant-loop-text
invariant-loop-text l = map view l.files.items ≡ map file_in (map (λ text. text.items) (take l.text-index l.texts))
