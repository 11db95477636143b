use Rattle.std.proofs.Common.{subst}
use Rattle.std.specs.Prelude.{IfOk}
use Rattle.std.proofs.lemmas.Result.{IfOk-weaker}
use Rattle.vrepl_words.specs.Built.{HasApp}
use Rattle.vrepl_words.proofs.Builders.{adds_rule}
use Rattle.vrepl_words.proofs.arguments.with_arg.Goals as goal

pub returns : goal.returns
returns c = λ app rule has is.
    let command = subst (λ r. IfOk r (HasApp app)) c.in_ok-command.was has in
    IfOk-weaker c.arg.result _ _ (λ made adds. adds_rule app rule c.in_ok-command.command made c.args.arg adds command is) c.arg.ensures
