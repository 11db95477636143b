use Rattle.std.proofs.Common.{◌≡◌, ◌∙◌, ◌-◌, sym, refl, true, false, length, get_or}
use Rattle.gtid_set.specs.Blank.{is_blank}
use Rattle.gtid_set.proofs.Parts.{trimmed_end-last_blank, trimmed_end-last_other}
use Rattle.gtid_set.proofs.text.trimmed_end.Goals as goal

pub returns-then-not-is_blank : goal.returns-then-not-is_blank
returns-then-not-is_blank c =
    let rest = c.loop-rest.rest.now in
    let other : is_blank (get_or rest (length rest - 1) 0) ≡ false = cc in
    sym (trimmed_end-last_other rest (get_or rest (length rest - 1) 0) c.in-len1-up.len_at_least refl other) ∙ c.loop-rest.invariant

pub loop-rest-preserved : goal.loop-rest-preserved
loop-rest-preserved c =
    let rest = c.loop-rest.rest.now in
    let blank : is_blank (get_or rest (length rest - 1) 0) ≡ true = cc in
    trimmed_end-last_blank rest (get_or rest (length rest - 1) 0) c.in-len1-up.len_at_least refl blank ∙ c.loop-rest.invariant
