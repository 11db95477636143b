-- Parts that are written as a checkpoint are read again.
use Rattle.std.proofs.Common.{◌≡◌, ℕ, ◌+◌, ◌^◌, ◌<◌, List, [], ◌∷◌, length, map, None, Ok, refl, arith}
use Rattle.std.proofs.lemmas.List.{length-append}
use Rattle.std.specs.List.{AllByRecursion}
use Rattle.proto_wire.specs.Reading.{Spells}
use Rattle.proto_wire.specs.Varint.{shortest}
use Rattle.proto_wire.specs.Frame.{IsFrame, NoFrame, frame_at}
use Rattle.proto_wire.proofs.FieldLaws.{frame_reader}
use Rattle.proto_wire.proofs.ReadingLaws.{only_reading}
use Rattle.proto_wire.proofs.ShortestLaws.{shortest_is_varint}
use Rattle.vevent.specs.CheckpointPart.{StreamPartValue, stream_part_at}
use Rattle.vevent.specs.WrittenPart.{written_stream_part, IsSoundStream, StreamPartsAreReadAgain}
use Rattle.checkpoint_laws.specs.Written.{opening, framed, written_parts, written_checkpoint}
use Rattle.checkpoint_laws.specs.Laws.{CheckpointsAreReadAgain}

-- a part is no longer than all of them
shorter : (part : StreamPartValue) (parts : List StreamPartValue) (n : ℕ) → length (written_parts (part ∷ parts)) < n → (length (written_stream_part part) < n) × (length (written_parts parts) < n)
shorter part parts n h =
    let size : List ℕ = shortest (length (written_stream_part part)) in
    let whole : length (written_parts (part ∷ parts)) ≡ length (framed (written_stream_part part)) + length (written_parts parts) = length-append (framed (written_stream_part part)) (written_parts parts) in
    let front : length (framed (written_stream_part part)) ≡ length size + length (written_stream_part part) = length-append size (written_stream_part part) in
    (omega (arith, h, whole, front), omega (arith, h, whole, front))

spells : (total : ℕ) (parts : List StreamPartValue) → length (written_parts parts) < 2 ^ 64 → Spells IsFrame (NoFrame total) (written_parts parts) (map written_stream_part parts) None
spells total [] h = refl
spells total (part ∷ parts) h =
    let less : (length (written_stream_part part) < 2 ^ 64) × (length (written_parts parts) < 2 ^ 64) = shorter part parts (2 ^ 64) h in
    let size : List ℕ = shortest (length (written_stream_part part)) in
    (framed (written_stream_part part), written_parts parts, refl, (size, shortest_is_varint (length (written_stream_part part)) less.0, refl), spells total parts less.1)

read_each : StreamPartsAreReadAgain → (parts : List StreamPartValue) → AllByRecursion IsSoundStream parts → length (written_parts parts) < 2 ^ 64 → map stream_part_at (map written_stream_part parts) ≡ map Ok parts
read_each again [] sound h = refl
read_each again (part ∷ parts) sound h =
    let less : (length (written_stream_part part) < 2 ^ 64) × (length (written_parts parts) < 2 ^ 64) = shorter part parts (2 ^ 64) h in
    rw (again part sound.0 less.0) (rw (read_each again parts sound.1 less.1) refl)

pub checkpoints_read_again : StreamPartsAreReadAgain → CheckpointsAreReadAgain
checkpoints_read_again again version parts sound h =
    let whole : length (written_checkpoint version parts) ≡ length (opening version) + length (written_parts parts) = length-append (opening version) (written_parts parts) in
    let less : length (written_parts parts) < 2 ^ 64 = omega (arith, h, whole) in
    let total : ℕ = length (written_parts parts) in
    record {
      rest = written_parts parts;
      opened = refl;
      messages = map written_stream_part parts;
      framed = only_reading IsFrame (NoFrame total) (frame_at total) (frame_reader total) (written_parts parts) (map written_stream_part parts) None (spells total parts less);
      read = read_each again parts sound less;
    }
