use Rattle.std.proofs.Common.{◌≡◌, ◌∙◌, ap, subst, sym, [], map, string_bytes}
use Rattle.std.proofs.lemmas.Result.{err_from_is_err_and}
use Rattle.clap.specs.Words.{fault_of, is_simple, is_simple_and_free}
use Rattle.clap.specs.Kinds.{HasKind, Kinds}
use Rattle.vrepl_words.specs.Subcommand.{range_fault}
use Rattle.vrepl_words.specs.commands.{asked_by, program_app, value_of_words, words_of, words_or_default}
use Rattle.vrepl_words.proofs.ReadWords.{fails_by, read_is}
use Rattle.vrepl_words.proofs.TakenWords.{faults_are, first_has, simple, simple_and_free, spelled_is, words_are}
use Rattle.vrepl_words.proofs.reading.read_by.Goals as goal

pub returns-in_err-matches-clause-refused : goal.returns-in_err-matches-clause-refused
returns-in_err-matches-clause-refused c =
    let is = c.requires.command.0 in
    let same = spelled_is string_bytes c.args.words.now c.requires.some in
    let p = err_from_is_err_and c.from_residual.result c.from_residual.ensures.1 in
    rw (p.1, p.2) (first_has _ (range_fault (words_of (map string_bytes c.args.words.now))) c.in_err-matches.field-0.0 (subst (λ (ks : Kinds). HasKind ks c.in_err-matches.field-0.0) (faults_are _ _ is same) (c.in_err-matches.ensures.kinds (ap is_simple_and_free is ∙ simple_and_free))))

pub returns-clause-read : goal.returns-clause-read
returns-clause-read c =
    let is = c.requires.command.0 in
    let same = spelled_is string_bytes c.args.words.now c.requires.some in
    let given = (c.in_ok-matches.ensures.ok.2 (ap is_simple is ∙ simple)).1 in
    read_is value_of_words _ _ c.asked.result c.asked.ensures (ap asked_by given ∙ words_are _ _ is same)

pub returns-clause-refused : goal.returns-clause-refused
returns-clause-refused c =
    let is = c.requires.command.0 in
    let same = spelled_is string_bytes c.args.words.now c.requires.some in
    let given = (c.in_ok-matches.ensures.ok.2 (ap is_simple is ∙ simple)).1 in
    let taken : fault_of program_app (words_or_default (map string_bytes c.args.words.now)) ≡ [] = sym (faults_are _ _ is same) ∙ c.in_ok-matches.ensures.kinds (ap is_simple_and_free is ∙ simple_and_free) in
    fails_by value_of_words _ _ c.asked.result _ c.asked.ensures (ap asked_by given ∙ words_are _ _ is same) taken
