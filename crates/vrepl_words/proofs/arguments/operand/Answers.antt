use Rattle.std.proofs.Common.{◌∙◌, ap, true}
use Rattle.clap.specs.Words.{Rule, rule_of}
use Rattle.clap.specs.declared.builder.arg.Arg.{Arg}
use Rattle.vrepl_words.proofs.arguments.operand.Goals as goal

pub returns : goal.returns
returns c = (
  ap rule_of c.help.ensures ∙ ap rule_of c.required.ensures
      ∙ ap (λ (r : Rule). record r { required = true }) (ap rule_of c.value_name.ensures
      ∙ ap (λ (r : Rule). record r { value_names = 1 }) c.new.ensures.rule),
  ap (λ (a : Arg). a.global) c.help.ensures ∙ ap (λ (a : Arg). a.global) c.required.ensures
      ∙ ap (λ (a : Arg). a.global) c.value_name.ensures ∙ c.new.ensures.optional.1,
)
