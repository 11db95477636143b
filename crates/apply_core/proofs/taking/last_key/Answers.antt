use Rattle.std.proofs.Common.{◌∙◌, sym, ap}
use Rattle.std.specs.Option.{option_copied}
use Rattle.apply_core.proofs.CopyLaws.{last-lent}
use Rattle.apply_core.proofs.taking.last_key.Goals as goal

pub returns-in_ok-key-in-Some : goal.returns-in_ok-key-in-Some
returns-in_ok-key-in-Some c =
    last-lent c.args.rows.now _ c.in_ok-key-in-Some.key (sym (ap option_copied c.in-Some.is) ∙ c.last.ensures.value)
    (c.in_ok-key-in-Some.ensures ∙ cc)
