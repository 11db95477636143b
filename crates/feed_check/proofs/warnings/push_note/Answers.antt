use Rattle.std.proofs.Common.{◌∙◌, ◌++◌, ap₂, append_assoc}
use Rattle.std.specs.Prelude.{codes}
use Rattle.std.specs.String.{string_bytes}
use Rattle.feed_check.specs.Report.{numbered}
use Rattle.feed_check.proofs.warnings.push_note.Goals as goal

pub returns : goal.returns
returns c =
    c.in_ok-push_str-2.ensures.bytes
    ∙ ap₂ ◌++◌ c.in_ok-push_str.ensures.bytes (c.deref.ensures ∙ c.in_ok-line.ensures)
    ∙ append_assoc (string_bytes c.args.text.now) (codes "note stream ") (numbered c.args.i c.args.noted.now)
