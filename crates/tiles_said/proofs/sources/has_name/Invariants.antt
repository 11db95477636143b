use Rattle.std.proofs.Common.{◌≡◌, drop}
use Rattle.tiles_said.specs.Sources.{has_name}
use Rattle.tiles_said.proofs.sources.has_name.Given as goal

-- it is among those that are left, if among any
abbrev pub invariant-loop-other : goal.invariant-loop-other
invariant-loop-other l = has_name (drop l.other-index l.names) l.name ≡ has_name l.names l.name
