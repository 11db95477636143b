use Rattle.std.proofs.Common.{◌∙◌, ap, true}
use Rattle.clap.specs.Words.{Rule, rule_of}
use Rattle.clap.specs.declared.builder.arg.Arg.{Arg}
use Rattle.vrepl_words.proofs.arguments.needed.Goals as goal

pub returns : goal.returns
returns c = (
  ap rule_of c.required.ensures ∙ ap (λ (r : Rule). record r { required = true }) c.option.ensures.0,
  ap (λ (a : Arg). a.global) c.required.ensures ∙ c.option.ensures.1,
)
