use Rattle.std.proofs.Common.{subst}
use Rattle.std.specs.Prelude.{IfOk}
use Rattle.std.proofs.lemmas.Result.{IfOk-weaker}
use Rattle.vrepl_words.specs.Built.{HasApp}
use Rattle.vrepl_words.proofs.Builders.{adds_subcommand}
use Rattle.vrepl_words.proofs.commands.with_subcommand.Goals as goal

pub returns : goal.returns
returns c = record {
  has = λ app leaf has is.
      let command = subst (λ r. IfOk r (HasApp app)) c.in_ok-command.was has in
      let sub = subst (λ r. IfOk r (HasApp leaf)) c.in_ok-sub.was is in
      IfOk-weaker c.subcommand.result _ _ (λ made adds. adds_subcommand app leaf c.in_ok-command.command made c.in_ok-sub.sub adds command sub) c.subcommand.ensures;
}
