use Rattle.std.proofs.Common.{◌≡◌, ◌++◌, drop}
use Rattle.std.specs.List.{flat_map}
use Rattle.vdiff_sql.specs.Literals.{name_byte}
use Rattle.vdiff_sql.proofs.names.push_name_bytes.Given as goal

-- the bytes so far and those that are left are the whole
abbrev pub invariant-loop-byte : goal.invariant-loop-byte
invariant-loop-byte l = l.text.items ++ flat_map name_byte (drop l.byte-index l.bytes) ≡ l.fn.text.items ++ flat_map name_byte l.bytes
