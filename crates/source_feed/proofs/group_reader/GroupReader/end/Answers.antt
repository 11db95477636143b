use Rattle.std.proofs.Common.{sym, ◌∙◌}
use Rattle.source_feed.proofs.ReaderSteps.{ends-open, ends-closed, ends-of_tables}
use Rattle.source_feed.proofs.group_reader.GroupReader.end.Goals as goal

pub returns-then-is_some-clause-groups : goal.returns-then-is_some-clause-groups
returns-then-is_some-clause-groups c = λ base source history m. ends-open base source history c.args.self m (sym c.is_some.ensures ∙ c.if-is_some.true)

pub returns-clause-groups : goal.returns-clause-groups
returns-clause-groups c = λ base source history m. ends-closed base source history c.args.self m (sym c.is_some.ensures ∙ c.if-is_some.false)

pub returns-clause-tables : goal.returns-clause-tables
returns-clause-tables c = λ base source history m. ends-of_tables base source history c.args.self m
