use Rattle.std.proofs.Common.{◌∙◌, ap, sym, [], List, ℕ, Option, unwrap_or}
use Rattle.std.specs.List.{list_all}
use Rattle.std.specs.Prelude.{is_some, map, option_map}
use Rattle.clap.specs.Words.{found_of}
use Rattle.clap.proofs.WalkLemmas.{raw_values-rows}
use Rattle.vrepl_words.specs.Untils.{until_of}
use Rattle.vrepl_words.proofs.untils.gives_untils.Goals as goal

pub returns-in-Some : goal.returns-in-Some
returns-in-Some c =
    let given = c.get_strs.ensures ∙ raw_values-rows (found_of c.args.given.now) c.args.name.now in
    let is = sym (ap (option_map (λ s. map (λ v. v.now) s.now)) c.in-Some.is) ∙ given in
    c.are_untils.ensures ∙ ap (λ (o : Option (List (List ℕ))). list_all (λ text. is_some (until_of text)) (unwrap_or o [])) is

pub returns-in-None : goal.returns-in-None
returns-in-None c =
    let given = c.get_strs.ensures ∙ raw_values-rows (found_of c.args.given.now) c.args.name.now in
    let is = sym (ap (option_map (λ s. map (λ v. v.now) s.now)) c.in-None.is) ∙ given in
    ap (λ (o : Option (List (List ℕ))). list_all (λ text. is_some (until_of text)) (unwrap_or o [])) is
