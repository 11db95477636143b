use Rattle.std.proofs.Common.{◌≡◌, ap, sym, ◌∙◌, subst, List}
use Rattle.gtid_set.specs.declared.interval.Interval.{Interval}
use Rattle.gtid_set.specs.Inner.Kept.{intervals_listed}
use Rattle.gtid_set.specs.Position.{IsCanonical, HasBoth, union_of}
use Rattle.gtid_set.proofs.Within.{canonical-union, union-pairs}
use Rattle.gtid_set.proofs.set.GtidSet.union.Goals as goal

united : (c : goal.After-from_vec) → intervals_listed c.from_vec.result ≡ union_of (intervals_listed c.self.inside.intervals) (intervals_listed c.other.inside.intervals)
united c =
    c.from_vec.ensures
    ∙ c.in_ok-both.ensures
    ∙ ap (λ (s : List Interval). union_of s c.as_slice-2.result.now) c.as_slice.ensures
    ∙ ap (λ (s : List Interval). union_of (intervals_listed c.self.inside.intervals) s) c.as_slice-2.ensures

canonical_both : (c : goal.After-from_vec) → IsCanonical (intervals_listed c.from_vec.result)
canonical_both c =
    subst (λ (s : List Interval). IsCanonical s) (sym (united c)) (canonical-union (intervals_listed c.self.inside.intervals) (intervals_listed c.other.inside.intervals) c.self.invariant c.other.invariant)

pub invariant_of-result : goal.invariant_of-result
invariant_of-result c = canonical_both c

pub returns-clause-value : goal.returns-clause-value
returns-clause-value c =
    united c ∙ ap (λ (s : List Interval). union_of s (intervals_listed c.other.inside.intervals)) c.self.view_is ∙ ap (λ (s : List Interval). union_of c.args.self.now s) c.other.view_is

pub returns-clause-pairs : goal.returns-clause-pairs
returns-clause-pairs c =
    let one = c.args.self.now in
    let other = c.args.other.now in
    let canonical : IsCanonical one = subst (λ (s : List Interval). IsCanonical s) c.self.view_is c.self.invariant in
    let canonical' : IsCanonical other = subst (λ (s : List Interval). IsCanonical s) c.other.view_is c.other.invariant in
    subst (λ (s : List Interval). HasBoth one other s) (sym (returns-clause-value c)) (union-pairs one other canonical canonical')

pub returns-clause-canonical : goal.returns-clause-canonical
returns-clause-canonical c = canonical_both c
