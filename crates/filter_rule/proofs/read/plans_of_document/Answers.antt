use Rattle.filter_rule.proofs.PlanLaws.{are_narrow, plans_shape}
use Rattle.std.proofs.Common.{◌≡◌, Ok, ap, sym, subst, ◌∙◌, string_bytes}
use Rattle.list_laws.specs.Outcome.{each}
use Rattle.filter_rule.specs.Document.{DocumentSaid}
use Rattle.filter_rule.specs.Private.Accepted.{ArePlansOver}
use Rattle.filter_rule.specs.Reading.{decided_from, closed_from}
use Rattle.filter_rule.specs.Resolving.{resolved}
use Rattle.filter_rule.specs.declared.plan.Schema.{Schema}
use Rattle.filter_rule.proofs.read.plans_of_document.Goals as goal

pub tables_of-requires : goal.tables_of-requires
tables_of-requires c = are_narrow c.deref.result.now c.args.document.now (c.deref.ensures.value ∙ ap (λ (d : DocumentSaid). d.tables) c.document.view_is) c.requires

pub plans_over-requires : goal.plans_over-requires
plans_over-requires c =
    let d = c.args.document.now in
    let streams = c.in_ok-streams.streams.items in
    let tables = c.in_ok-tables.tables.items in
    let closed = c.in_ok-tables-2.tables.items in
    let tables_are : each resolved d.tables ≡ Ok tables = ap (each resolved) (sym (c.deref.ensures.value ∙ ap (λ (d : DocumentSaid). d.tables) c.document.view_is)) ∙ c.in_ok-tables.ensures in
    let streams_are : decided_from tables 0 d.streams ≡ Ok streams =
    ap (λ ts. decided_from ts 0 d.streams) (sym c.deref-2.ensures.value)
    ∙ ap (decided_from c.deref-2.result.now 0) (sym (c.deref-3.ensures.value ∙ ap (λ (d : DocumentSaid). d.streams) c.document.view_is)) ∙ c.in_ok-streams.ensures in
    let closed_are : closed_from streams 0 tables ≡ Ok closed = ap (λ ss. closed_from ss 0 tables) (sym c.deref-4.ensures.value) ∙ c.in_ok-tables-2.ensures in
    let keyspace : string_bytes c.in_ok-keyspace.keyspace ≡ d.keyspace = c.in_ok-keyspace.ensures.ok ∙ ap (λ (d : DocumentSaid). d.keyspace) c.document.view_is in
    subst (λ (s : Schema). ArePlansOver (string_bytes s.keyspace) s.tables.items streams) (sym c.in_ok-schema.ensures.ok)
    (subst (λ k. ArePlansOver k closed streams) (sym keyspace) (plans_shape d tables closed streams c.requires tables_are streams_are closed_are))
