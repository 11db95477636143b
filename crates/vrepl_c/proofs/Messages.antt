-- Where the message at the front of some bytes stands in them.
use Rattle.std.proofs.Common.{◌≡◌, ℕ, ◌+◌, ◌-◌, ◌≤◌, List, length, take, ◌++◌, Ok, arith}
use Rattle.std.proofs.lemmas.List.{take_at, length-append}
use Rattle.proto_wire.specs.Varint.{IsVarint, varint_at}
use Rattle.proto_wire.proofs.VarintLaws.{varint_found}

front_is : (front rest : List ℕ) → take (length (front ++ rest) - length rest) (front ++ rest) ≡ front
front_is front rest = take_at front rest (length (front ++ rest) - length rest) (omega (arith, length-append front rest))

pub length_before : (bytes : List ℕ) (x : ℕ × List ℕ) → varint_at bytes ≡ Ok x → IsVarint (take (length bytes - length x.1) bytes) x.0
length_before bytes x e = let v = varint_found bytes x e in rw (v.1, front_is v.0 x.1) v.2

pub no_longer : (bytes : List ℕ) (x : ℕ × List ℕ) → varint_at bytes ≡ Ok x → length x.1 ≤ length bytes
no_longer bytes x e = let v = varint_found bytes x e in rw (v.1, length-append v.0 x.1) (omega arith)
