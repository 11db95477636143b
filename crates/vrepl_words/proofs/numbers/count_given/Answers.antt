use Rattle.std.proofs.Common.{◌∙◌, ap, sym, None, Some, option_map}
use Rattle.std.specs.Option.{option_map_or}
use Rattle.clap.specs.Words.{found_of}
use Rattle.clap.proofs.WalkLemmas.{first_value-rows}
use Rattle.vrepl_words.specs.Arguments.{portion_of}
use Rattle.vrepl_words.proofs.numbers.count_given.Goals as goal

pub returns-in-None : goal.returns-in-None
returns-in-None c =
    let given = sym (ap (option_map (λ s. s.now)) c.in-None.is) ∙ c.get_str.ensures ∙ first_value-rows (found_of c.args.given.now) c.args.name.now in
    ap (λ text. option_map_or (λ t. option_map Some (portion_of t)) text (Some None)) given

pub returns-in-Some : goal.returns-in-Some
returns-in-Some c =
    let given = sym (ap (option_map (λ s. s.now)) c.in-Some.is) ∙ c.get_str.ensures ∙ first_value-rows (found_of c.args.given.now) c.args.name.now in
    c.count_of.ensures ∙ ap (λ text. option_map_or (λ t. option_map Some (portion_of t)) text (Some None)) given
