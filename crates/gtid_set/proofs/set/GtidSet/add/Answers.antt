use Rattle.std.proofs.Common.{◌≡◌, sym, ◌∙◌, subst, ap, List}
use Rattle.std.proofs.lemmas.Result.{err_from_is_err_and}
use Rattle.gtid_set.specs.declared.interval.Interval.{Interval}
use Rattle.gtid_set.specs.Inner.Kept.{intervals_listed}
use Rattle.gtid_set.specs.Position.{IsCanonical, IsInterval, HasPairMore, StandsApart, with_pair}
use Rattle.gtid_set.proofs.Joined.{joined-canonical}
use Rattle.gtid_set.proofs.Parsed.{pair_of, pair-interval, pair-more}
use Rattle.gtid_set.proofs.set.GtidSet.add.Goals as goal

pub invariant_of-self : goal.invariant_of-self
invariant_of-self c = subst (λ (s : List Interval). IsCanonical s) (sym c.in_err-add_pair.ensures.err) c.self.invariant

pub returns-in_err-add_pair-clause-apart : goal.returns-in_err-add_pair-clause-apart
returns-in_err-add_pair-clause-apart c =
    let p = err_from_is_err_and c.from_residual.result c.from_residual.ensures.1 in
    rw p.1 (rw (← c.from_be_bytes.ensures) (subst (λ (s : List Interval). StandsApart s c.from_be_bytes.result c.args.number) c.self.view_is c.in_err-add_pair.ensures.apart))

pub invariant_of-self-2 : goal.invariant_of-self-2
invariant_of-self-2 c =
    let old = intervals_listed c.self.inside.intervals in
    let uuid = c.from_be_bytes.result in
    let one : IsInterval (pair_of uuid c.args.number) = pair-interval uuid c.args.number c.from_be_bytes.type_inv c.requires.from_one c.requires.to_last in
    subst (λ (s : List Interval). IsCanonical s) (sym c.in_ok-add_pair.ensures.ok) (joined-canonical old (pair_of uuid c.args.number) c.self.invariant one)

pub returns-clause-pairs : goal.returns-clause-pairs
returns-clause-pairs c =
    let uuid = c.from_be_bytes.result in
    let one : IsInterval (pair_of uuid c.args.number) = pair-interval uuid c.args.number c.from_be_bytes.type_inv c.requires.from_one c.requires.to_last in
    let canonical : IsCanonical c.args.self.now = subst (λ (s : List Interval). IsCanonical s) c.self.view_is c.self.invariant in
    let is : intervals_listed c.add_pair.new.set ≡ with_pair c.args.self.now uuid c.args.number = c.in_ok-add_pair.ensures.ok ∙ ap (λ (s : List Interval). with_pair s uuid c.args.number) c.self.view_is in
    rw (← c.from_be_bytes.ensures) (subst (λ (s : List Interval). HasPairMore c.args.self.now uuid c.args.number s) (sym is) (pair-more c.args.self.now uuid c.args.number canonical one))
