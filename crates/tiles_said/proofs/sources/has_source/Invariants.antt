use Rattle.std.proofs.Common.{◌≡◌, drop}
use Rattle.tiles_said.specs.Sources.{has_source}
use Rattle.tiles_said.proofs.sources.has_source.Given as goal

-- it is among those that are left, if among any
abbrev pub invariant-loop-other : goal.invariant-loop-other
invariant-loop-other l = has_source (drop l.other-index l.sources) l.source ≡ has_source l.sources l.source
