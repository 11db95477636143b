use Rattle.std.proofs.Common.{◌++◌, codes, string_bytes}
use Rattle.std.specs.Option.{option_copied}
use Rattle.shown_text.specs.Shown as said
use Rattle.status_said.specs.Lines.{least_end}
use Rattle.status_said.proofs.TextLaws.{behind_two}
use Rattle.status_said.proofs.lines.push_least.Goals as goal

pub returns : goal.returns
returns c =
    behind_two c.push_position.result (string_bytes c.args.text.now) (string_bytes c.push_name.new.text) (string_bytes c.push_position.new.text)
    (codes "least shard " ++ said.shown c.args.shard.now) (least_end (option_copied c.args.least)) c.in_ok-push_name.ensures c.push_position.ensures
