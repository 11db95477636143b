use Rattle.std.proofs.Common.{◌≡◌, ◌∙◌, ap, Option, None, Some}
use Rattle.std.specs.Prelude.{IsSomeAnd}
use Rattle.clap.specs.Lexer.{usize_max}
use Rattle.clap.specs.Words.{Rule, rule_of}
use Rattle.clap.specs.declared.builder.range.ValueRange.{ValueRange}
use Rattle.vrepl_words.proofs.Builders.{ranged, ranged_alone}
use Rattle.vrepl_words.proofs.arguments.operands.Goals as goal

some_is : (o : Option ValueRange) (range : ValueRange) → IsSomeAnd o (λ r. r ≡ range) → o ≡ Some range
some_is None range is = absurd is
some_is (Some r) range is = ap Some is

pub returns : goal.returns
returns c =
    let many : ValueRange = record { start_inclusive = 1; end_inclusive = usize_max } in (
      ranged c.operand.result c.num_args.result c.num_args.result.num_vals c.num_args.ensures.0
          ∙ ap (λ (r : Option ValueRange). record (rule_of c.operand.result) { range = r }) (some_is c.num_args.result.num_vals many c.num_args.ensures.1)
          ∙ ap (λ (r : Rule). record r { range = Some many }) c.operand.ensures.0,
      ranged_alone c.operand.result c.num_args.result c.num_args.result.num_vals c.num_args.ensures.0 ∙ c.operand.ensures.1,
    )
