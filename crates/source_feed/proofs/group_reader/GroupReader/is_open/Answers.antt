use Rattle.std.proofs.Common.{◌∙◌}
use Rattle.source_feed.proofs.ReaderSteps.{open_said}
use Rattle.source_feed.proofs.group_reader.GroupReader.is_open.Goals as goal

pub returns : goal.returns
returns c = λ base source history m. c.is_some.ensures ∙ open_said base source history c.args.self.now m
