use Rattle.std.proofs.Common.{sym, ◌∙◌, arith}
use Rattle.std.proofs.lemmas.Grind.{common_steps}
use Rattle.std.proofs.lemmas.Bool.Decides.{nat_tests}
use Rattle.filter_text.proofs.SliceLaws.{two, two_read, six, six_read, six_not, no_arguments}
use Rattle.filter_text.proofs.form.arguments.Goals as goal
use Rattle.filter_text.proofs.form.arguments.Goals.{in_default-via-then-tokens-lt2, in_default-via-else-tokens-lt2+else-tokens-lt3+then-tokens-lt6, in_default-via-else-tokens-lt2+else-tokens-lt3+else-tokens-lt6+else-tokens-lt7}

pub returns-in-len2 : goal.returns-in-len2
returns-in-len2 c =
    let parts = two c.args.tokens.now c.in-len2.len_at_least c.in-len2.len_below in
    rw parts.is (two_read parts.a parts.b c.own_rows.result (rw parts.is at c.own_rows.ensures))

pub returns-then-are_between : goal.returns-then-are_between
returns-then-are_between c =
    let parts = six c.args.tokens.now c.in-len6.len_at_least c.in-len6.len_below in
    let marks = sym c.are_between.ensures ∙ c.if-are_between.true in
    rw parts.is (six_read parts.a parts.b parts.c parts.d parts.e parts.f c.named_rows.result (rw parts.is at marks) (rw parts.is at c.named_rows.ensures))

pub returns-else-are_between : goal.returns-else-are_between
returns-else-are_between c =
    let parts = six c.args.tokens.now c.in-len6.len_at_least c.in-len6.len_below in
    let marks = sym c.are_between.ensures ∙ c.if-are_between.false in
    rw parts.is (six_not parts.a parts.b parts.c parts.d parts.e parts.f (rw parts.is at marks))

pub returns-in_default : goal.returns-in_default
returns-in_default c =
    elim c.in_default.branch [
      | in_default-via-then-tokens-lt2 w ↦ no_arguments c.args.tokens.now (λ e. grind (arith, common_steps)) (λ e. grind (arith, common_steps))
      | in_default-via-else-tokens-lt2+else-tokens-lt3+then-tokens-lt6 w ↦ no_arguments c.args.tokens.now (λ e. grind (arith, nat_tests)) (λ e. grind (arith, nat_tests))
      | in_default-via-else-tokens-lt2+else-tokens-lt3+else-tokens-lt6+else-tokens-lt7 w ↦ no_arguments c.args.tokens.now (λ e. grind (arith, nat_tests)) (λ e. grind (arith, nat_tests))
    ]
