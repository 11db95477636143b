use Rattle.std.proofs.Common.{ap, sym, ◌∙◌}
use Rattle.row_view.specs.RowFields.{row_lengths}
use Rattle.row_view.specs.Row.{columns_over}
use Rattle.row_view.proofs.KeptLaws.{good_within}
use Rattle.row_view.proofs.PairLaws.{pair_lengths, pair_values}
use Rattle.row_view.proofs.row_bytes.RowBytes.columns.Goals as goal

pub behind-requires : goal.behind-requires
behind-requires c =
    let lengths = pair_lengths c.self.inside.message.now c.in-Some.packed.now c.in-Some.values.now c.in-Some.ensures in
    let values = pair_values c.self.inside.message.now c.in-Some.packed.now c.in-Some.values.now c.in-Some.ensures in
    let within = good_within c.self.inside.message.now c.self.invariant in
    rw lengths (rw values at within)

pub returns-in-Some : goal.returns-in-Some
returns-in-Some c =
    let message = c.self.inside.message.now in
    let lengths = pair_lengths message c.in-Some.packed.now c.in-Some.values.now c.in-Some.ensures in
    let values = pair_values message c.in-Some.packed.now c.in-Some.values.now c.in-Some.ensures in
    c.behind.ensures ∙ ap (columns_over c.in-Some.values.now) lengths ∙ ap (λ v. columns_over v (row_lengths message)) (sym values) ∙ c.self.view_is

pub new-requires : goal.new-requires
new-requires c = rw c.last_text.ensures (good_within c.self.inside.message.now c.self.invariant)

pub returns-in-None : goal.returns-in-None
returns-in-None c = c.new.ensures ∙ ap (λ values. columns_over values (row_lengths c.self.inside.message.now)) c.last_text.ensures ∙ c.self.view_is
