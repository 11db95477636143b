use Rattle.std.proofs.Common.{◌≡◌, ◌∙◌, sym, ap, map}
use Rattle.pk_copy.specs.PartValue.{owned_value, kept_lead, kept_parts}
use Rattle.pk_copy.proofs.OrderLaws.{slice_cmp-on}
use Rattle.pk_copy.proofs.FrontLaws.{behind_leads}
use Rattle.pk_copy.proofs.kept.compare_behind.Goals as goal

pub returns-in-Several-Several : goal.returns-in-Several-Several
returns-in-Several-Several c =
    let mine : kept_parts c.args.one.now.head c.args.one.now.rest ≡ map owned_value c.as_slice-in-Several-Several.result.now =
    ap (kept_parts c.args.one.now.head) c.in-Several-Several.is-0 ∙ ap (map owned_value) (sym (c.as_slice-in-Several-Several.ensures.value ∙ ap (λ held. held.items) c.deref-in-Several-Several.ensures)) in
    let others : kept_parts c.args.other.now.head c.args.other.now.rest ≡ map owned_value c.as_slice-in-Several-Several-2.result.now =
    ap (kept_parts c.args.other.now.head) c.in-Several-Several.is-1 ∙ ap (map owned_value) (sym (c.as_slice-in-Several-Several-2.ensures.value ∙ ap (λ held. held.items) c.deref-in-Several-Several-2.ensures)) in
    let by_parts = slice_cmp-on owned_value c.as_slice-in-Several-Several.result.now c.as_slice-in-Several-Several-2.result.now in
    let by_leads = behind_leads (kept_lead c.args.one.now.rest) (kept_lead c.args.other.now.rest) (kept_parts c.args.one.now.head c.args.one.now.rest) (kept_parts c.args.other.now.head c.args.other.now.rest) c.requires.lead in
    cc
