use Rattle.std.proofs.Common.{◌∙◌, Err, refl, sym, ap, subst}
use Rattle.std.proofs.lemmas.Bool.{true≢false}
use Rattle.std.specs.Arc.{arc_value}
use Rattle.source_feed.specs.Prepared.{IsSameOn}
use Rattle.apply_core.proofs.AddLaws.{not_again_by}
use Rattle.apply_core.proofs.added_streams.group_again.Goals as goal

pub returns-in-Err-clause-err : goal.returns-in-Err-clause-err
returns-in-Err-clause-err c = not_again_by c.args.tables c.args.feed.now c.args.old.now c.args.number c.args.s c.in-Err.fault c.fault_of.result c.fault_of.ensures c.in-Err.ensures.exact
    (λ is. c.in-Err.ensures.memory (ap Err is))

pub returns-then-not-same_on-clause-err : goal.returns-then-not-same_on-clause-err
returns-then-not-same_on-clause-err c = (
  refl,
  (
    arc_value c.in-Ok.group,
    c.in-Ok.ensures.exact,
    λ same. true≢false (sym (c.same_on.ensures.1 (subst (IsSameOn c.args.tables c.args.old.now) (sym c.deref.ensures) same)) ∙ c.if-not-same_on.true),
  ),
)

pub returns-else-not-same_on-clause-ok : goal.returns-else-not-same_on-clause-ok
returns-else-not-same_on-clause-ok c = record { prepared_is = c.in-Ok.ensures.exact; same = subst (IsSameOn c.args.tables c.args.old.now) c.deref.ensures (c.same_on.ensures.0 c.if-not-same_on.false) }
