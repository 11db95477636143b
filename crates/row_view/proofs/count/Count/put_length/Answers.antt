use Rattle.std.proofs.Common.{◌≡◌, ◌+◌, ◌∷◌, refl, ap, ◌∙◌, arith}
use Rattle.std.specs.Int.{w64}
use Rattle.std.proofs.lemmas.Int.{to_z-of_z}
use Rattle.row_view.specs.Row.{size_of}
use Rattle.row_view.proofs.CountLaws.{counted_next}
use Rattle.row_view.proofs.count.Count.put_length.Goals as goal

pub returns-clause-counted : goal.returns-clause-counted
returns-clause-counted c message packed fields left place is counted =
    let size : c.size_of_length.result ≡ size_of c.args.length = c.size_of_length.ensures ∙ ap size_of (to_z-of_z w64 c.args.length c.ranges.length) in
    counted_next message c.args.length left c.args.self.now (record { columns = c.args.self.now.columns + 1; bytes = c.saturating_add-self.result }) c.args.marks.now c.mark.new.marks counted refl (omega (arith, size, c.saturating_add-self.ensures))
    (c.mark.ensures message packed fields (c.args.length ∷ left) place is counted)
