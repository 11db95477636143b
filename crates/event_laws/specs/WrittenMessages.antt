-- Messages of a feed as bytes: each a response with these events, behind its length (`binlogdata.proto`, VStreamResponse).
use Rattle.std.specs.Prelude.{ℕ, List, ◌++◌, length}
use Rattle.std.specs.List.{flat_map}
use Rattle.proto_wire.specs.Varint.{shortest}
use Rattle.proto_wire.specs.Writing.{written_fields}
use Rattle.vevent.specs.WrittenEvent.{message_fields}

-- a response of some events, each given as its bytes: events = 1
abbrev pub written_response : List (List ℕ) → List ℕ
written_response events = written_fields (message_fields 1 events)

-- a message behind its length
abbrev pub framed : List ℕ → List ℕ
framed message = shortest (length message) ++ message

-- messages one after another, each given as its events' bytes
abbrev pub written_messages : List (List (List ℕ)) → List ℕ
written_messages messages = flat_map (λ events. framed (written_response events)) messages
