use Rattle.std.proofs.Common.{◌≡◌, drop, map}
use Rattle.std.specs.List.{list_any}
use Rattle.std.specs.Str.{bytes_eq}
use Rattle.show_json.proofs.columns.is_among.Given as goal

-- the name is among all if it is among those still to come
abbrev pub invariant-loop-one : goal.invariant-loop-one
invariant-loop-one l = list_any (bytes_eq l.name) (map (λ one. one.now) (drop l.one-index l.names)) ≡ list_any (bytes_eq l.name) (map (λ one. one.now) l.names)
