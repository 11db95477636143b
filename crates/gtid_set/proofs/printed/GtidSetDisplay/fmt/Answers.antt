use Rattle.std.proofs.Common.{◌≡◌, ◌+◌, ◌++◌, ℕ, sym, ◌∙◌, ap, rules, Option, get_or, take}
use Rattle.std.proofs.Output.{has_written_append, has_written_of_eq}
use Rattle.std.proofs.lemmas.Grind.{take_at_read}
use Rattle.gtid_set.specs.declared.interval.Interval.{Interval}
use Rattle.gtid_set.specs.Printed.{interval_text, printed_position}
use Rattle.gtid_set.proofs.Printing.{last_uuid-push, printed-push}
use Rattle.gtid_set.proofs.printed.GtidSetDisplay.fmt.Goals as goal

pub loop-interval-preserved : goal.loop-interval-preserved
loop-interval-preserved g c =
    let items = c.intervals-interval-items.result.now in
    let k = c.loop-interval.interval-index in
    let nowhere : Interval = record { uuid = 0; first = 0; last = 0 } in
    let x : Interval = get_or items k nowhere in
    let t = (take_at_read items k nowhere c.loop-interval-test.true).1 in
    let text : printed_position (take k items) ++ interval_text c.loop-interval.before x ≡ printed_position (take (k + 1) items) =
    ap (λ (b : Option ℕ). printed_position (take k items) ++ interval_text b x) c.loop-interval.invariant.before ∙ printed-push (take k items) x ∙ ap printed_position (sym t) in
    record {
      before = rw t (sym (last_uuid-push (take k items) x));
      written = λ plain. has_written_of_eq _ _ _ _ _ text (has_written_append _ _ _ _ _ _ (c.loop-interval.invariant.written plain) (search rules));
    }
