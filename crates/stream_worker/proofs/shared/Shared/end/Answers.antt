use Rattle.std.proofs.Common.{List, length, slice_get, sym, ap, ◌∙◌, subst}
use Rattle.crossbeam_channel.specs.Claims.{view}
use Rattle.board_laws.specs.Meaning.{State}
use Rattle.stream_worker.specs.SeatOf.{AllGoOnFromSeen, SawAsMany}
use Rattle.stream_worker.proofs.PassesTakeSeats.{ended, ended_on, ended_many}
use Rattle.stream_worker.proofs.shared.Shared.end.Goals as goal

pub returns : goal.returns
returns g c =
    record {
      states =
          λ k seat at.
          ap (λ (board : List State). slice_get board seat.stream) c.into_board.ensures
          ∙ ended c.args.seats.items (view c.joined-pass.result) (view c.take-deal.new.pass) c.take-deal.result c.joined-pass.ensures.known c.take-deal.ensures.taken k seat at;
      seen =
          subst (λ (board : List State). AllGoOnFromSeen c.args.seats.items board) (sym c.into_board.ensures)
          (ended_on c.args.seats.items (view c.joined-pass.result) (view c.take-deal.new.pass) c.take-deal.result c.joined-pass.ensures.known c.take-deal.ensures.taken);
      many =
          subst (λ (board : List State). SawAsMany c.args.seats.items (length board)) (sym c.into_board.ensures)
          (ended_many c.args.seats.items (view c.joined-pass.result) (view c.take-deal.new.pass) c.take-deal.result c.joined-pass.ensures.known c.take-deal.ensures.taken);
    }
