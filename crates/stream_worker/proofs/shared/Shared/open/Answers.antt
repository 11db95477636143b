use Rattle.std.proofs.Common.{ap}
use Rattle.crossbeam_channel.specs.Claims.{view}
use Rattle.stream_worker.specs.Knowing.{Laid}
use Rattle.stream_worker.proofs.SeatsAreClaimed.{opener_outlines, opened}
use Rattle.stream_worker.proofs.shared.Shared.open.Goals as goal

pub seats-seats-requires-clause-outlined : goal.seats-seats-requires-clause-outlined
seats-seats-requires-clause-outlined g c =
    opener_outlines (view c.in-Ok-new.opener) (view c.put_back.new.pass) c.new-2.result c.args.board.streams c.in-Ok.outlines.items c.put_back.ensures.put (ap (λ (laid : Laid). laid.board) c.new-2.ensures) c.in-Ok.ensures

pub returns-clause-opened : goal.returns-clause-opened
returns-clause-opened g c =
    opened (view c.in-Ok-new.opener) (view c.put_back.new.pass) c.new-2.result c.args.board.streams c.in-Ok.outlines.items (record { lock = c.in-Ok-new.lock }) c.seats-seats.result.items c.put_back.ensures.put
    (ap (λ (laid : Laid). laid.board) c.new-2.ensures) c.in-Ok.ensures c.seats-seats.ensures.count c.seats-seats.ensures.seats c.seats-seats.ensures.states c.seats-seats.ensures.many
