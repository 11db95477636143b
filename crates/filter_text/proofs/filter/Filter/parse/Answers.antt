use Rattle.filter_text.proofs.FormLaws.{says_of_read, read_of_says}
use Rattle.filter_text.proofs.SpellingLaws.{read_of_spelling}
use Rattle.filter_text.proofs.filter.Filter.parse.Goals as goal

pub returns-clause-says : goal.returns-clause-says
returns-clause-says c = says_of_read c.args.text.now c.filter_of.result c.filter_of.ensures

pub returns-clause-only : goal.returns-clause-only
returns-clause-only c = λ said says. read_of_says c.args.text.now c.filter_of.result said c.filter_of.ensures says

pub returns-clause-spelled : goal.returns-clause-spelled
returns-clause-spelled c = λ table columns range rows spelling. read_of_spelling c.args.text.now c.filter_of.result table columns range rows c.filter_of.ensures spelling
