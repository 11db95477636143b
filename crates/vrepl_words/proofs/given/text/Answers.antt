use Rattle.std.proofs.Common.{◌≡◌, ◌∙◌, ap, refl, List, ℕ, [], Option, Some, None, option_map, unwrap_or, Bor}
use Rattle.clap.specs.Words.{found_of}
use Rattle.clap.proofs.WalkLemmas.{first_value-rows}
use Rattle.vrepl_words.proofs.given.text.Goals as goal

unwrapped : (o : Option (Bor (List ℕ))) (d : Bor (List ℕ)) → (unwrap_or o d).now ≡ unwrap_or (option_map (λ s. s.now) o) d.now
unwrapped None d = refl
unwrapped (Some s) d = refl

pub returns : goal.returns
returns c =
    ap (λ (b : Bor (List ℕ)). b.now) c.unwrap_or.ensures ∙ unwrapped c.get_str.result _
    ∙ ap (λ (o : Option (List ℕ)). unwrap_or o []) (c.get_str.ensures ∙ first_value-rows (found_of c.args.given.now) c.args.name.now)
