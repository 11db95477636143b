use Rattle.std.proofs.Common.{◌≡◌, ℕ, List, [], Some, refl, sym, ◌∙◌, ap, map}
use Rattle.source_feed.specs.Private.KeptGroups.{named}
use Rattle.source_feed.specs.Private.ReaderState.{body_held}
use Rattle.source_feed.proofs.MemoryLaws.{position_taken}
use Rattle.source_feed.proofs.Steps.{Opened, opened_from, names_with, commit-puts}
use Rattle.source_feed.proofs.ReaderSteps.{commit-skips, commit-refused, empty_from}
use Rattle.source_feed.proofs.group_reader.GroupReader.commit.Goals as goal

pub returns-clause-meaning : goal.returns-clause-meaning
returns-clause-meaning c = λ base source earlier m.
    let at : c.in-Some.field-0.position ≡ Some c.in-Some-position.position = cc in
    let before : (names : List (List ℕ)) → body_held names c.args.self.now.transaction ≡ Some (record { position = Some c.in-Some-position.position; changes = map (named names) c.in-Some.field-0.changes.items })
    = λ names. ap (body_held names) (sym c.take.ensures.value ∙ c.in-Some.is) ∙ ap (λ p. Some (record { position = p; changes = map (named names) c.in-Some.field-0.changes.items })) at in
    commit-puts c.set_laws.ensures base source earlier c.args.self.now (record { start = c.args.self.now.start; transaction = c.take.new.self; tables = c.args.self.now.tables; groups = c.end_block-ended.new.groups; room = c.end_block-ended.new.changes }) c.end_block-ended.result c.in-Some-position.position c.in-Some.field-0.changes.items refl m
    before
    (λ names. ap (body_held names) c.take.ensures.after)
    (λ table. refl)
    refl
    c.end_block-ended.ensures.block

pub returns-in_default-clause-meaning : goal.returns-in_default-clause-meaning
returns-in_default-clause-meaning c = λ base source earlier m.
    commit-skips base source earlier c.args.self.now (record { start = c.args.self.now.start; transaction = c.take.new.self; tables = c.args.self.now.tables; groups = c.args.self.now.groups; room = c.args.self.now.room }) m
    (record { start = refl; names = refl; widths = λ table. refl; groups = refl })
    (λ names. ap (body_held names) (sym c.take.ensures.value ∙ empty_from c.take.result c.in_default.not-Some))
    (λ names. ap (body_held names) c.take.ensures.after)

pub returns-in_default-position-clause-meaning : goal.returns-in_default-position-clause-meaning
returns-in_default-position-clause-meaning c = λ base source earlier m.
    commit-refused base source earlier c.args.self.now c.in-Some.field-0 m (sym c.take.ensures.value ∙ c.in-Some.is) (empty_from c.in-Some.field-0.position c.in_default-position.not-Some)

pub returns-clause-memory : goal.returns-clause-memory
returns-clause-memory c = λ base source earlier m is.
    let at : c.in-Some.field-0.position ≡ Some c.in-Some-position.position = cc in
    let names : List (List ℕ) = names_with c.args.self.now [] in
    let before : body_held names c.args.self.now.transaction ≡ Some (record { position = Some c.in-Some-position.position; changes = map (named names) c.in-Some.field-0.changes.items })
    = ap (body_held names) (sym c.take.ensures.value ∙ c.in-Some.is) ∙ ap (λ p. Some (record { position = p; changes = map (named names) c.in-Some.field-0.changes.items })) at in
    let opened : Opened source earlier (record { position = Some c.in-Some-position.position; changes = map (named names) c.in-Some.field-0.changes.items }) = opened_from source earlier _ (sym before ∙ m.body []) in
    position_taken source earlier c.in-Some-position.position opened.position
