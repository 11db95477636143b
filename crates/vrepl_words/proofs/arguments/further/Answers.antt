use Rattle.std.proofs.Common.{◌∙◌, ap, Some}
use Rattle.clap.specs.Words.{Rule, rule_of}
use Rattle.clap.specs.declared.builder.arg.Arg.{Arg}
use Rattle.clap.specs.declared.builder.action.ArgAction.TheVariants.{Append}
use Rattle.vrepl_words.proofs.arguments.further.Goals as goal

pub returns : goal.returns
returns c = (
  ap rule_of c.action.ensures ∙ ap (λ (r : Rule). record r { action = Some Append }) c.option.ensures.0,
  ap (λ (a : Arg). a.global) c.action.ensures ∙ c.option.ensures.1,
)
