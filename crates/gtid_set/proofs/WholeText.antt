-- A whole text: its limit, its flavour and its parts.
use Rattle.std.proofs.Common.{◌≡◌, ℕ, ◌≤◌, refl, sym, ◌∙◌, ap, List, [], length, Result, Ok, Err, ltb}
use Rattle.std.proofs.lemmas.Bool.{cond-false, le-ltb}
use Rattle.gtid_set.specs.declared.interval.Interval.{Interval}
use Rattle.gtid_set.specs.declared.fault.GtidFault.{GtidFault}
use Rattle.list_laws.specs.Outcome.{◌>>=◌}
use Rattle.gtid_set.specs.Blank.{trimmed, parts_between}
use Rattle.gtid_set.specs.Text.{all_of, put_before, intervals_of_part, intervals_of_text, within_limit, without_flavor, text_limit}

behind-nothing : (r : Result (List Interval) GtidFault) → put_before [] r ≡ r
behind-nothing (Ok l) = refl
behind-nothing (Err e) = refl

pub whole-text : (text rest : List ℕ) → length text ≤ text_limit → without_flavor (trimmed text) ≡ Ok rest
    → put_before [] (all_of (λ part. intervals_of_part (trimmed part)) (parts_between 44 rest)) ≡ within_limit text
unfolding within_limit intervals_of_text
whole-text text rest le flavor =
    behind-nothing (all_of (λ part. intervals_of_part (trimmed part)) (parts_between 44 rest))
    ∙ sym (cond-false (ltb text_limit (length text)) _ _ (le-ltb text_limit (length text) le)
    ∙ ap (λ (r : Result (List ℕ) GtidFault). r >>= λ parts. all_of (λ part. intervals_of_part (trimmed part)) (parts_between 44 parts)) flavor)
