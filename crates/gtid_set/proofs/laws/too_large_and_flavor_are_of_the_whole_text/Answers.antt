use Rattle.gtid_set.proofs.TextFaults.{too_large, at_large, flavor_is, is_flavor}
use Rattle.gtid_set.proofs.laws.too_large_and_flavor_are_of_the_whole_text.Goals as goal

pub returns : goal.returns
returns c = record {
  too_large = λ text. (λ e. too_large text e, λ lt. at_large text lt);
  flavor = λ text. (λ e. flavor_is text e, λ h. is_flavor text h);
}
