-- Messages one after another, each behind its length as a varint.
use Rattle.std.specs.Prelude.{◌≡◌, ℕ, ◌-◌, ◌<◌, ◌⊎◌, List, ◌++◌, length, Result, Ok, Err}
use Rattle.proto_wire.specs.declared.fault.WireFault.{WireFault}
use Rattle.proto_wire.specs.declared.fault.WireFault.TheVariants.{Truncated}
use Rattle.proto_wire.specs.declared.fault.FrameFault.{FrameFault}
use Rattle.proto_wire.specs.Reading.{Reading, reading_of, Spells}
use Rattle.proto_wire.specs.Varint.{IsVarint, NoVarint}
use Rattle.proto_wire.specs.Field.{sized_at}

-- ---- as a relation

-- the bytes are the message behind its length
abbrev pub IsFrame : List ℕ → List ℕ → Type 0
IsFrame bytes message = (size : List ℕ) × IsVarint size (length message) × (bytes ≡ size ++ message)

-- Why no message stands at the front of what is left of a buffer of `total` bytes: its length is no
-- varint, or more bytes than are there. The fault's place is where what is left begins.
abbrev pub NoFrame : ℕ → List ℕ → FrameFault → Type 0
NoFrame total bytes f = (f.place ≡ total - length bytes) × (NoVarint bytes f.cause
    ⊎ ((f.cause ≡ Truncated) × ((size : List ℕ) × (rest : List ℕ) × (n : ℕ) × (bytes ≡ size ++ rest) × IsVarint size n × (length rest < n))))

-- the buffer is these messages, and then the end or this fault
abbrev pub AreFrames : List ℕ → Reading (List ℕ) FrameFault → Type 0
AreFrames bytes r = Spells IsFrame (NoFrame (length bytes)) bytes r.items r.fault

-- ---- as a function

-- what was read at a place
abbrev pub located : {A : Type 0} → ℕ → Result A WireFault → Result A FrameFault
located place (Ok x) = Ok x
located place (Err cause) = Err (record { place = place; cause = cause })

-- the message at the front of what is left of a buffer of `total` bytes, and the bytes after it
unfoldable pub frame_at : ℕ → List ℕ → Result (List ℕ × List ℕ) FrameFault
frame_at total bytes = located (total - length bytes) (sized_at bytes)

-- the messages of a buffer, and the fault that ends them
abbrev pub frames_of : List ℕ → Reading (List ℕ) FrameFault
frames_of bytes = reading_of (frame_at (length bytes)) bytes
