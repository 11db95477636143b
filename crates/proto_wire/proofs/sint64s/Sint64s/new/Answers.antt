use Rattle.std.proofs.Common.{◌≡◌, [], None, refl}
use Rattle.proto_wire.specs.Varint.{varint_at, varints_of}
use Rattle.proto_wire.proofs.ReadingLaws.{reading-none}
use Rattle.proto_wire.proofs.sint64s.Sint64s.new.Goals as goal

-- no bytes are no varints
varints_of-none : varints_of [] ≡ record { items = []; fault = None }
varints_of-none = reading-none varint_at

pub returns : goal.returns
returns c = rw (c.new.ensures.reading, c.new-2.ensures.reading, varints_of-none) refl
