use Rattle.std.proofs.Common.{ap}
use Rattle.std.proofs.lemmas.List.{drop_all}
use Rattle.gtid_set.specs.declared.interval.Interval.{Interval}
use Rattle.gtid_set.specs.Printed.{printed_behind}
use Rattle.json.specs.Print.{escape}
use Rattle.json_pieces.proofs.TellLaws.{moves, ends}
use Rattle.json_pieces.proofs.TextLaws.{interval-at}
use Rattle.json_pieces.proofs.place.put_intervals.Goals as goal

abbrev nowhere : Interval
nowhere = record { uuid = 0; first = 0; last = 0 }

pub loop-interval-preserved : goal.loop-interval-preserved
loop-interval-preserved g c =
    moves _ _ _ _ _ _ _ (interval-at c.loop-interval.before c.intervals-interval-items.result.now c.loop-interval.interval-index nowhere c.loop-interval-test.true) c.loop-interval.invariant c.put_interval.ensures

pub returns : goal.returns
returns g c = ends _ _ _ _ (ap (λ l. escape (printed_behind c.loop-interval.before l)) (drop_all c.loop-interval.interval-index c.intervals-interval-items.result.now c.loop-interval-test.false)) c.loop-interval.invariant
