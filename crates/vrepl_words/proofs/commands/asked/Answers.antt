use Rattle.std.proofs.Common.{◌∙◌, ap, subst, sym, option_map}
use Rattle.clap.specs.Kinds.{HasKind, Kinds}
use Rattle.clap.specs.Words.{found_of, rows_of}
use Rattle.vrepl_words.specs.Subcommand.{Reads, range_fault}
use Rattle.vrepl_words.specs.commands.{asked_by, value_of_words}
use Rattle.vrepl_words.proofs.MetSubcommand.{met, none_met}
use Rattle.vrepl_words.proofs.commands.asked.Goals as goal

pub returns-in-Some : goal.returns-in-Some
returns-in-Some c =
    let is = met c.args.matches.now _ _ (sym (ap (option_map (λ p. p.0.now)) c.in-Some.is) ∙ c.subcommand.ensures.name) (sym (ap (option_map (λ p. rows_of (found_of p.1.now))) c.in-Some.is) ∙ c.subcommand.ensures.rows) in
    subst (λ met. Reads value_of_words (asked_by met) c.asked_by_name.result) (sym is) c.asked_by_name.ensures

pub returns-in-None : goal.returns-in-None
unfolding asked_by
returns-in-None c =
    let none = none_met c.args.matches.now (sym (ap (option_map (λ p. rows_of (found_of p.1.now))) c.in-None.is) ∙ c.subcommand.ensures.rows) in
    subst (λ (ks : Kinds). HasKind ks c.no_command.result) (sym (ap (λ met. range_fault (asked_by met)) none)) c.no_command.ensures
