use Rattle.std.proofs.Common.{◌∙◌, ap, sym, [], List, ℕ, Option, unwrap_or}
use Rattle.std.proofs.lemmas.Result.{IfOk-weaker}
use Rattle.std.specs.Prelude.{map, option_map}
use Rattle.clap.specs.Words.{found_of}
use Rattle.clap.proofs.WalkLemmas.{raw_values-rows}
use Rattle.vrepl_words.proofs.given.texts.Goals as goal

pub returns-in-Some : goal.returns-in-Some
returns-in-Some c =
    let given = c.get_strs.ensures ∙ raw_values-rows (found_of c.args.given.now) c.args.name.now in
    let is = sym (ap (option_map (λ s. map (λ v. v.now) s.now)) c.in-Some.is) ∙ given in
    IfOk-weaker c.copies.result _ _ (λ made same. same ∙ ap (λ (o : Option (List (List ℕ))). unwrap_or o []) is) c.copies.ensures

pub returns-in-None : goal.returns-in-None
returns-in-None c =
    let given = c.get_strs.ensures ∙ raw_values-rows (found_of c.args.given.now) c.args.name.now in
    let is = sym (ap (option_map (λ s. map (λ v. v.now) s.now)) c.in-None.is) ∙ given in
    ap (map (λ v. v.now)) c.new.ensures.items ∙ ap (λ (o : Option (List (List ℕ))). unwrap_or o []) is
