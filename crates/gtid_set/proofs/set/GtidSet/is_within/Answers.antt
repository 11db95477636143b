use Rattle.std.proofs.Common.{◌≡◌, sym, ◌∙◌, subst, rules, Bool, IsTrue, List, ◌↔◌}
use Rattle.gtid_set.specs.declared.interval.Interval.{Interval}
use Rattle.gtid_set.specs.Position.{IsCanonical, IsWithin, within_of}
use Rattle.gtid_set.proofs.Joined.{canonical-intervals}
use Rattle.gtid_set.proofs.Within.{within-pairs, pairs-within}
use Rattle.gtid_set.proofs.set.GtidSet.is_within.Goals as goal

is_subset : (one other : List Interval) (result : Bool) → IsCanonical one → IsCanonical other → result ≡ within_of one other → IsTrue result ↔ IsWithin one other
is_subset one other result canonical canonical' answer = (λ t. within-pairs one other (sym answer ∙ t), λ w. answer ∙ pairs-within one other (canonical-intervals one canonical) canonical' w)

pub returns-in-One-One-clause-subset : goal.returns-in-One-One-clause-subset
returns-in-One-One-clause-subset c =
    let one = c.args.self.now in
    let other = c.args.other.now in
    let answer : c.covers.result ≡ within_of one other = search rules in
    is_subset one other c.covers.result (subst (λ (s : List Interval). IsCanonical s) c.self.view_is c.self.invariant) (subst (λ (s : List Interval). IsCanonical s) c.other.view_is c.other.invariant) answer

pub returns-in_default-clause-subset : goal.returns-in_default-clause-subset
returns-in_default-clause-subset c =
    let one = c.args.self.now in
    let other = c.args.other.now in
    let answer : c.are_within.result ≡ within_of one other = search rules in
    is_subset one other c.are_within.result (subst (λ (s : List Interval). IsCanonical s) c.self.view_is c.self.invariant) (subst (λ (s : List Interval). IsCanonical s) c.other.view_is c.other.invariant) answer
