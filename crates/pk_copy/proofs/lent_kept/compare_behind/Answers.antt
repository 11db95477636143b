use Rattle.std.proofs.Common.{◌≡◌, ◌∙◌, sym, ap, map}
use Rattle.pk_copy.specs.SmallPartValue.{small_value, lent_lead, lent_parts}
use Rattle.pk_copy.proofs.OrderLaws.{slice_cmp-on}
use Rattle.pk_copy.proofs.FrontLaws.{behind_leads}
use Rattle.pk_copy.proofs.lent_kept.compare_behind.Goals as goal

pub returns-in-Several-Several : goal.returns-in-Several-Several
returns-in-Several-Several c =
    let mine : lent_parts c.args.one.now.head c.args.one.now.rest ≡ map small_value c.as_slice.result.now =
    ap (lent_parts c.args.one.now.head) c.in-Several-Several.is-0 ∙ ap (map small_value) (sym c.as_slice.ensures.value) in
    let others : lent_parts c.args.other.now.head c.args.other.now.rest ≡ map small_value c.as_slice-in-Several-Several.result.now =
    ap (lent_parts c.args.other.now.head) c.in-Several-Several.is-1 ∙ ap (map small_value) (sym c.as_slice-in-Several-Several.ensures.value) in
    let by_parts = slice_cmp-on small_value c.as_slice.result.now c.as_slice-in-Several-Several.result.now in
    let by_leads = behind_leads (lent_lead c.args.one.now.rest) (lent_lead c.args.other.now.rest) (lent_parts c.args.one.now.head c.args.one.now.rest) (lent_parts c.args.other.now.head c.args.other.now.rest) c.requires.lead in
    cc
