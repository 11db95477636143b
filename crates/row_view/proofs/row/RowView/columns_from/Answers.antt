use Rattle.std.proofs.Common.{◌≡◌, take, drop, ap, ◌∙◌, arith}
use Rattle.row_view.proofs.MarkLaws.{from_mark, few_places, has_room}
use Rattle.row_view.proofs.row.RowView.columns_from.Goals as goal

pub mark_at-mark-requires-clause-within : goal.mark_at-mark-requires-clause-within
mark_at-mark-requires-clause-within c = few_places c.self.inside.message.now c.args.self.now c.args.place c.self.invariant.good c.self.view_is c.requires

pub mark_at-mark-requires-clause-room : goal.mark_at-mark-requires-clause-room
mark_at-mark-requires-clause-room c = has_room _ _ _ _ c.args.self.now c.args.place c.self.invariant c.self.view_is c.requires

pub split_at-requires : goal.split_at-requires
split_at-requires c =
    let from = from_mark _ _ _ _ c.args.self.now c.args.place c.mark_at-mark.result c.self.invariant c.self.view_is c.requires c.mark_at-mark.ensures in
    from.within

pub split_at-requires-2 : goal.split_at-requires-2
split_at-requires-2 c =
    let from = from_mark _ _ _ _ c.args.self.now c.args.place c.mark_at-mark.result c.self.invariant c.self.view_is c.requires c.mark_at-mark.ensures in
    omega (arith, from.begins, c.split_at.ensures.front_len)

pub split_at-requires-3 : goal.split_at-requires-3
split_at-requires-3 c =
    let from = from_mark _ _ _ _ c.args.self.now c.args.place c.mark_at-mark.result c.self.invariant c.self.view_is c.requires c.mark_at-mark.ensures in
    from.offset

pub behind-requires : goal.behind-requires
behind-requires c =
    let mark = c.mark_at-mark.result in
    let from = from_mark _ _ _ _ c.args.self.now c.args.place mark c.self.invariant c.self.view_is c.requires c.mark_at-mark.ensures in
    let packed : c.split_at-2.result.1.now ≡ drop mark.at (take mark.end c.self.inside.message.now) = c.split_at-2.ensures.back ∙ ap (drop mark.at) c.split_at.ensures.front in
    rw (packed, c.split_at.ensures.back, c.split_at-3.ensures.back) from.fits

pub returns : goal.returns
returns c =
    let mark = c.mark_at-mark.result in
    let from = from_mark _ _ _ _ c.args.self.now c.args.place mark c.self.invariant c.self.view_is c.requires c.mark_at-mark.ensures in
    let packed : c.split_at-2.result.1.now ≡ drop mark.at (take mark.end c.self.inside.message.now) = c.split_at-2.ensures.back ∙ ap (drop mark.at) c.split_at.ensures.front in
    let behind = rw (packed, c.split_at.ensures.back, c.split_at-3.ensures.back) at c.behind.ensures in
    behind ∙ from.columns
