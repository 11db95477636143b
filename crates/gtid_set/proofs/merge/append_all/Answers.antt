use Rattle.std.proofs.Common.{◌∙◌, get_or}
use Rattle.std.proofs.lemmas.List.{get_or_default}
use Rattle.gtid_set.specs.declared.interval.Interval.{Interval}
use Rattle.gtid_set.proofs.Merging.{next_of}
use Rattle.gtid_set.proofs.merge.append_all.Goals as goal

pub loop-next-preserved : goal.loop-next-preserved
loop-next-preserved c =
    let rising = c.args.rising.now in
    let k = c.loop-next.next-index in
    let x : Interval = get_or rising k (record { uuid = 0; first = 0; last = 0 }) in
    let lt = c.loop-next-test.true in
    let before = c.loop-next.invariant in
    let next = next_of c.loop-next.set.items rising c.append.new.set.items k x lt (get_or_default rising k _ x lt) before.canonical c.requires.each c.requires.rising before.starts c.in_ok-append.ensures.ok in
    record { canonical = next.0.canonical; starts = next.0.starts; union = next.1 ∙ before.union }
