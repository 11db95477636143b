use Rattle.std.proofs.Common.{◌≡◌, take, map}
use Rattle.serde_json.specs.View.{view}
use Rattle.tiles_said.specs.Passing.{passings_of}
use Rattle.tiles_said.proofs.passing.passings_of.Given as goal

-- those so far are of the first files
abbrev pub invariant-loop-file : goal.invariant-loop-file
invariant-loop-file l = l.passings.items ≡ passings_of l.source l.name (map view (take l.file-index l.files))
