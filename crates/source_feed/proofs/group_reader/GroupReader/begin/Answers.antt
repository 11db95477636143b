use Rattle.std.proofs.Common.{◌≡◌, None, Some, refl, sym, ap, ◌∙◌, map}
use Rattle.source_feed.specs.Private.KeptGroups.{named}
use Rattle.source_feed.specs.Private.ReaderState.{body_held}
use Rattle.source_feed.proofs.ReaderSteps.{begin-puts, begin-refused, tested, untested}
use Rattle.source_feed.proofs.group_reader.GroupReader.begin.Goals as goal

pub returns-clause-meaning : goal.returns-clause-meaning
returns-clause-meaning c = λ base source earlier m.
    let none : c.args.self.now.transaction ≡ None = untested c.args.self.now.transaction (sym c.is_some.ensures ∙ c.if-is_some.false) in
    begin-puts base source earlier c.args.self.now (record { start = c.args.self.now.start; transaction = Some (record { position = None; changes = c.clear.new.self }); tables = c.args.self.now.tables; groups = c.args.self.now.groups; room = c.replace-changes.new.dest }) m
    (record { start = refl; names = refl; widths = λ table. refl; groups = refl })
    (λ names. ap (body_held names) none)
    (λ names. ap (λ all. Some (record { position = None; changes = map (named names) all })) c.clear.ensures.items)

pub returns-then-is_some-clause-meaning : goal.returns-then-is_some-clause-meaning
returns-then-is_some-clause-meaning c = λ base source earlier m.
    let was = tested c.args.self.now.transaction (sym c.is_some.ensures ∙ c.if-is_some.true) in
    begin-refused base source earlier c.args.self.now was.0 m was.1
