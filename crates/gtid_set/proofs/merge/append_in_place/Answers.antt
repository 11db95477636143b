use Rattle.std.proofs.Common.{◌≡◌, ◌∙◌, ◌-◌, sym, arith, false}
use Rattle.std.proofs.lemmas.List.{get_or_default}
use Rattle.gtid_set.specs.Position.{ends_before}
use Rattle.gtid_set.proofs.Appended.{take-set_last-joined, take-set-joined, take-set-joined-none}
use Rattle.gtid_set.proofs.merge.append_in_place.Goals as goal
use Rattle.gtid_set.proofs.merge.append_in_place.Goals.{then-kept-gt0+else-not-ends_before, else-kept-gt0}

pub returns-then-not-ends_before-clause-joined : goal.returns-then-not-ends_before-clause-joined
returns-then-not-ends_before-clause-joined c =
    let set = c.args.set.now.items in
    let last = c.index.result.now in
    let same : c.index_mut.result.now ≡ last = c.index_mut.ensures.value ∙ get_or_default set (c.args.kept - 1) c.index_mut.result.now last (omega arith) ∙ sym c.index.ensures in
    let not_ends : ends_before last c.args.next ≡ false = cc in
    rw (same, c.max.ensures) (take-set_last-joined set c.args.kept last c.args.next (omega arith) (omega arith) c.index.ensures c.requires.canonical c.requires.interval c.requires.starts not_ends)

pub returns-clause-joined : goal.returns-clause-joined
returns-clause-joined c = elim c.if-kept-gt0.branch [
  | then-kept-gt0+else-not-ends_before w ↦ take-set-joined c.args.set.now.items c.args.kept w.index.result.now c.args.next (omega arith) c.requires.inside w.index.ensures c.requires.canonical cc
  | else-kept-gt0 w ↦ take-set-joined-none c.args.set.now.items c.args.kept c.args.next (omega arith) c.requires.inside
]
