use Rattle.std.proofs.Common.{length, sym}
use Rattle.proto_wire.specs.Frame.{IsFrame, NoFrame, frame_at}
use Rattle.proto_wire.proofs.ReadingLaws.{spells-reading, only_reading}
use Rattle.proto_wire.proofs.FieldLaws.{frame_reader}
use Rattle.proto_wire.proofs.frames.Frames.new.Goals as goal

pub returns-clause-spelled : goal.returns-clause-spelled
returns-clause-spelled c =
    let total = length c.args.bytes.now in
    spells-reading IsFrame (NoFrame total) (frame_at total) (frame_reader total) c.args.bytes.now

pub returns-clause-only : goal.returns-clause-only
returns-clause-only c other h =
    let total = length c.args.bytes.now in
    sym (only_reading IsFrame (NoFrame total) (frame_at total) (frame_reader total) c.args.bytes.now other.items other.fault h)
