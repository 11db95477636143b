use Rattle.std.proofs.Common.{◌∙◌, sym, ap}
use Rattle.std.specs.Ordering.{is_lt}
use Rattle.std.specs.Option.{option_copied}
use Rattle.checkpoint_core.proofs.BehindLaws.{behind_last}
use Rattle.checkpoint_core.proofs.rows.is_behind.Goals as goal

pub returns-in-Some : goal.returns-in-Some
returns-in-Some c =
    let both = behind_last c.args.rows.now c.in-Some.field-0.now c.args.key.now c.requires (sym (ap option_copied c.in-Some.is) ∙ c.last.ensures.value) in
    let told = c.is_lt.ensures ∙ ap is_lt c.cmp.ensures in
    rw told both
