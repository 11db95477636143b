use Rattle.std.proofs.Common.{◌∙◌, sym, arith, get_or}
use Rattle.std.proofs.lemmas.Bool.{le-ltb}
use Rattle.std.proofs.lemmas.List.{get_or_default}
use Rattle.gtid_set.specs.declared.interval.Interval.{Interval}
use Rattle.gtid_set.proofs.Covered.{covered-at, covered-nowhere}
use Rattle.gtid_set.proofs.search.has_pair.Goals as goal

abbrev nowhere : Interval
nowhere = record { uuid = 0; first = 0; last = 0 }

pub returns-then-place-set : goal.returns-then-place-set
returns-then-place-set c =
    let set = c.args.set.now in
    let place = c.place_of-place.result in
    let pair : Interval = record { uuid = c.args.uuid; first = c.args.number; last = c.args.number } in
    let here : Interval = get_or set place nowhere in
    c.covers.ensures ∙ sym (covered-at set place here pair c.if-place-set.true (get_or_default set place nowhere here c.if-place-set.true) c.requires (omega arith) c.place_of-place.ensures.passed (c.place_of-place.ensures.stops c.if-place-set.true nowhere))

pub returns-else-place-set : goal.returns-else-place-set
returns-else-place-set c =
    let pair : Interval = record { uuid = c.args.uuid; first = c.args.number; last = c.args.number } in
    le-ltb _ _ c.if-place-set.false ∙ sym (covered-nowhere c.args.set.now c.place_of-place.result pair c.if-place-set.false (omega arith) c.place_of-place.ensures.passed)
