use Rattle.std.proofs.Common.{◌≡◌, rules, arith, Some, refl}
use Rattle.std.proofs.lemmas.Grind.{common_steps}
use Rattle.vindex.specs.RangeText.{key_range_of_text, IsBounded}
use Rattle.vindex.proofs.RangeAnswerLaws.{with_start}
use Rattle.vindex.proofs.RangeLemmas.{list_any-none}
use Rattle.vindex.proofs.key_ranges.range_of_text.Goals as goal

pub returns-in_default : goal.returns-in_default
unfolding key_range_of_text
returns-in_default c = grind (arith, common_steps, list_any-none)

pub returns-in_err-start-2 : goal.returns-in_err-start-2
unfolding key_range_of_text
returns-in_err-start-2 c =
    let written : key_range_of_text c.args.text.now ≡ Some (record { start = c.in-Some-Some.start; end = Some c.in-Some-Some.end }) = grind (arith, common_steps, list_any-none) in
    let apart = with_start c.in-Some-Some.start (Some c.in-Some-Some.end) (c.in_err-start-2.ensures.memory refl) in
    let wanted : IsBounded (key_range_of_text c.args.text.now) = rw written apart in
    search (rules, wanted)
