use Rattle.std.specs.Arc.{arc_value}
use Rattle.crossbeam_channel.specs.Claims.{view}
use Rattle.stream_worker.proofs.ReadGroupsAreAnswered.{found_taken}
use Rattle.stream_worker.proofs.shared.Shared.answer_found.Goals as goal

-- what was found is so of the board that was taken
pub answer_found-result-requires : goal.answer_found-result-requires
answer_found-result-requires g c =
    found_taken (view c.args.seat.now.pass) c.args.seat.now.stream c.take-deal.result (view c.take-deal.new.pass) c.args.seat.now.cursor c.args.seat.now.outline (arc_value c.args.group.now) c.args.found c.args.seat.now.own
    c.take-deal.ensures.taken c.args.seat.now.numbers c.args.seat.now.outlined c.requires.found
