use Rattle.std.proofs.Common.{◌≡◌, Some, refl, subst, length}
use Rattle.std.specs.Prelude.{slice_get}
use Rattle.std.proofs.lemmas.Option.{slice_get_read}
use Rattle.source_feed.proofs.preparing.touches_of.Goals as goal

pub put_change-requires : goal.put_change-requires
put_change-requires c =
    let i = c.loop-change.change-index in
    let change = c.change-item.result in
    let changes = c.changes-changes.result.now in
    let stands : slice_get changes i ≡ Some change = slice_get_read changes (length changes) i change refl c.loop-change-test.true c.change-item.is in
    c.requires i change (subst (λ all. slice_get all i ≡ Some change) c.changes-changes.ensures stands)
