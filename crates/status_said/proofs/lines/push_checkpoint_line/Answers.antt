use Rattle.std.proofs.Common.{◌≡◌, ◌++◌, ℕ, List, codes, string_bytes, subst}
use Rattle.std.specs.Prelude.{OnOk}
use Rattle.shown_text.specs.Shown as said
use Rattle.status_said.specs.Lines.{version_text, streams_text}
use Rattle.status_said.proofs.TextLaws.{behind_three, line_is}
use Rattle.status_said.proofs.lines.push_checkpoint_line.Goals as goal

pub returns : goal.returns
returns c =
    subst (λ (line : List ℕ). OnOk c.push_stream_count.result (string_bytes c.push_stream_count.new.text ≡ string_bytes c.args.text.now ++ line)) (line_is c.args.name.now c.args.stand.now)
    (behind_three c.push_stream_count.result (string_bytes c.args.text.now) (string_bytes c.push_name.new.text) (string_bytes c.push_version.new.text) (string_bytes c.push_stream_count.new.text)
    (codes "checkpoint " ++ said.shown c.args.name.now) (version_text c.args.stand.now) (streams_text c.args.stand.now) c.in_ok-push_name.ensures c.in_ok-push_version.ensures c.push_stream_count.ensures)
