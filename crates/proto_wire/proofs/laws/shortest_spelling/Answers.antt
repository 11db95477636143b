use Rattle.proto_wire.proofs.ShortestLaws.{shortest_is_varint, shortest_is_bytes, shortest_is_least, shortest_is_only}
use Rattle.proto_wire.proofs.laws.shortest_spelling.Goals as goal

pub returns-clause-varint : goal.returns-clause-varint
returns-clause-varint c = shortest_is_varint

pub returns-clause-bytes : goal.returns-clause-bytes
returns-clause-bytes c = shortest_is_bytes

pub returns-clause-least : goal.returns-clause-least
returns-clause-least c n other lt = shortest_is_least n other

pub returns-clause-only : goal.returns-clause-only
returns-clause-only c n other lt = shortest_is_only n other
