use Rattle.std.proofs.Common.{◌≡◌, ◌++◌, ap, List, Option, ℕ, get_or, drop, length, ◌<◌, ◌+◌, Some}
use Rattle.std.proofs.lemmas.List.{drop_more, drop_all}
use Rattle.gtid_set.specs.declared.interval.Interval.{Interval}
use Rattle.gtid_set.specs.Printed.{interval_text, printed_behind}
use Rattle.std.proofs.lemmas.Result.{err_from_is_err_and}
use Rattle.vrepl_main.proofs.AddLaws.{moves, stops, ends}
use Rattle.vrepl_main.proofs.shown.print_position.Goals as goal

-- the first interval of what is left
first_interval : (before : Option ℕ) (intervals : List Interval) (k : ℕ) (d : Interval) → k < length intervals
    → printed_behind before (drop k intervals) ≡ interval_text before (get_or intervals k d) ++ printed_behind (Some (get_or intervals k d).uuid) (drop (k + 1) intervals)
first_interval before intervals k d within = ap (printed_behind before) (drop_more intervals k d within)

abbrev nowhere : Interval
nowhere = record { uuid = 0; first = 0; last = 0 }

pub loop-interval-preserved : goal.loop-interval-preserved
loop-interval-preserved g c =
    let parts = first_interval c.loop-interval.before c.intervals-interval-items.result.now c.loop-interval.interval-index nowhere c.loop-interval-test.true in
    moves _ _ _ _ _ _ _ parts c.loop-interval.invariant c.in_ok-print_interval.ensures

pub returns-in_err-print_interval : goal.returns-in_err-print_interval
returns-in_err-print_interval g c =
    let parts = first_interval c.loop-interval.before c.intervals-interval-items.result.now c.loop-interval.interval-index nowhere c.loop-interval-test.true in
    let p = err_from_is_err_and c.from_residual.result c.from_residual.ensures.1 in
    rw p.1 (stops _ _ _ _ _ _ _ parts c.loop-interval.invariant c.in_err-print_interval.ensures)

pub returns : goal.returns
returns g c = ends _ _ _ _ (ap (printed_behind c.loop-interval.before) (drop_all c.loop-interval.interval-index c.intervals-interval-items.result.now c.loop-interval-test.false)) c.loop-interval.invariant
