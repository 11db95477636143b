use Rattle.std.proofs.Common.{refl}
use Rattle.clap.specs.Words.{App, new_app}
use Rattle.vrepl_words.specs.Built.{HasApp}
use Rattle.vrepl_words.proofs.Builders.{sets}
use Rattle.vrepl_words.proofs.arguments.bare.Goals as goal

pub returns : goal.returns
returns c =
    let new : HasApp (new_app c.args.name.now) c.new.result = (c.new.ensures.app, c.new.ensures.local) in
    let about = sets (λ (a : App). a) _ c.new.result c.about.result _ c.about.ensures refl refl new in
    sets (λ (a : App). a) _ c.about.result c.after_help.result _ c.after_help.ensures refl refl about
