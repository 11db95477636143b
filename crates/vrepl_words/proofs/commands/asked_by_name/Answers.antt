use Rattle.std.proofs.Common.{◌≡◌, ◌∙◌, ap, refl, List, Option, Some, codes, option_map}
use Rattle.std.proofs.lemmas.Result.{err_from_is_err_and}
use Rattle.clap.specs.Words.{Row, Text, found_of, rows_of}
use Rattle.vrepl_words.specs.commands.{WordsValue, asked_by, asks_explain, asks_follow, value_of_words}
use Rattle.vrepl_words.specs.commands.Explain.{explain_subcommand}
use Rattle.vrepl_words.specs.commands.Follow.{follow_subcommand}
use Rattle.vrepl_words.proofs.ReadWords.{fault_reads}
use Rattle.vrepl_words.proofs.commands.asked_by_name.Goals as goal

asked_follow : (given : List Row) → asked_by (Some (codes "follow", given)) ≡ option_map asks_follow (follow_subcommand.meaning given)
unfolding asked_by
asked_follow given = refl

asked_explain : (given : List Row) → asked_by (Some (codes "explain", given)) ≡ option_map asks_explain (explain_subcommand.meaning given)
unfolding asked_by
asked_explain given = refl

-- what is asked for by a name that is this one
by_name : (name this : Text) (given : List Row) (asked : Option WordsValue) → name ≡ this → asked_by (Some (this, given)) ≡ asked → asked_by (Some (name, given)) ≡ asked
by_name name this given asked is that = ap (λ (n : Text). asked_by (Some (n, given))) is ∙ that

pub returns-in_err-follow_words-in-follow : goal.returns-in_err-follow_words-in-follow
returns-in_err-follow_words-in-follow c =
    let fault = err_from_is_err_and c.from_residual-in_err-follow_words-in-follow.result c.from_residual-in_err-follow_words-in-follow.ensures.1 in
    fault_reads value_of_words asks_follow (follow_subcommand.meaning (rows_of (found_of c.args.given.now))) _ c.from_residual-in_err-follow_words-in-follow.result _ _ fault.1 fault.2 (by_name _ _ (rows_of (found_of c.args.given.now)) _ c.in-follow.is (asked_follow (rows_of (found_of c.args.given.now)))) c.in_err-follow_words-in-follow.ensures

pub returns-in_err-explain_words-in-explain : goal.returns-in_err-explain_words-in-explain
returns-in_err-explain_words-in-explain c =
    let fault = err_from_is_err_and c.from_residual-in_err-explain_words-in-explain.result c.from_residual-in_err-explain_words-in-explain.ensures.1 in
    fault_reads value_of_words asks_explain (explain_subcommand.meaning (rows_of (found_of c.args.given.now))) _ c.from_residual-in_err-explain_words-in-explain.result _ _ fault.1 fault.2 (by_name _ _ (rows_of (found_of c.args.given.now)) _ c.in-explain.is (asked_explain (rows_of (found_of c.args.given.now)))) c.in_err-explain_words-in-explain.ensures
