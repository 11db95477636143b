use Rattle.std.proofs.Common.{◌∙◌, ap, sym, Some, option_map}
use Rattle.std.specs.Option.{option_map_or}
use Rattle.clap.specs.Words.{found_of}
use Rattle.clap.proofs.WalkLemmas.{first_value-rows}
use Rattle.vrepl_words.specs.Arguments.{portion_of}
use Rattle.vrepl_words.proofs.given.portion.Goals as goal

pub returns-in-None-clause-given : goal.returns-in-None-clause-given
returns-in-None-clause-given c =
    let given = sym (ap (option_map (λ s. s.now)) c.in-None.is) ∙ c.get_str.ensures ∙ first_value-rows (found_of c.args.given.now) c.args.name.now in
    ap (λ text. option_map_or portion_of text (Some c.args.usual)) given

pub returns-in-Some-clause-given : goal.returns-in-Some-clause-given
returns-in-Some-clause-given c =
    let given = sym (ap (option_map (λ s. s.now)) c.in-Some.is) ∙ c.get_str.ensures ∙ first_value-rows (found_of c.args.given.now) c.args.name.now in
    c.portion_of.ensures.portion ∙ ap (λ text. option_map_or portion_of text (Some c.args.usual)) given
