use Rattle.std.proofs.Common.{map, sym, ◌∙◌, ap, Ok}
use Rattle.status_said.specs.Said as said
use Rattle.status_said.proofs.EndLaws.{ends_text}
use Rattle.status_said.proofs.printed.status.Goals as goal

pub returns-in-Ok : goal.returns-in-Ok
returns-in-Ok g c =
    ends_text (said.status_said c.args.form (map (λ name. name.now) c.args.names.now) (map (λ text. text.items) c.args.texts.now)) c.deref.result.now c.print_text.result (g.W.Out.written c.args.out.now) (g.W.Out.written c.print_text.new.out)
    (c.in-Ok.ensures ∙ ap Ok (sym c.deref.ensures)) c.print_text.ensures
