use Rattle.std.specs.Prelude.{decimal}
use Rattle.std.specs.Str.{trim}
use Rattle.json.specs.Print.{escape_byte, quoted}
use Rattle.refusal_json.specs.Refusal.{meaning_of}
use Rattle.refusal_json.proofs.TextLaws.{explained-text}
use Rattle.refusal_json.proofs.explained.explained_pieces.Goals as goal

pub returns : goal.returns
unfolding escape_byte
returns c =
    let parts = c.args.parts.now in
    rw (c.trim.ensures.trim, c.meaning_of.ensures) (explained-text (quoted parts.causes.now) (quoted (trim parts.todo.now)) (quoted parts.means.now) (decimal c.args.number) (quoted (meaning_of c.args.number)))
