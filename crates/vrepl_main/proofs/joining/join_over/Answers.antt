use Rattle.std.proofs.Common.{◌≡◌, ◌∙◌, ap, refl, arith, ℕ, List, Some, length, map, slice_get}
use Rattle.std.specs.Prelude.{option_map}
use Rattle.std.specs.Arc.{arc_value}
use Rattle.std.specs.Global.{Vec}
use Rattle.std.proofs.lemmas.List.{length-map}
use Rattle.std.proofs.lemmas.Option.{slice_get-map, slice_get_read}
use Rattle.vrepl_main.specs.InputList.{bytes_of}
use Rattle.vrepl_main.specs.OpenedFeeds.{opened_value}
use Rattle.vrepl_main.proofs.JoinedLaws.{all_joined, joined-more, not_joined, other_refused}
use Rattle.vrepl_main.proofs.joining.join_over.Goals as goal

-- the checkpoint at a place
at_place : (others : List (Vec ℕ)) (i : ℕ) (other : Vec ℕ) → slice_get others i ≡ Some other → slice_get (map (λ other. other.items) others) i ≡ Some other.items
at_place others i other is = slice_get-map (λ other. other.items) others i ∙ ap (option_map (λ other. other.items)) is

pub loop-i-init : goal.loop-i-init
loop-i-init g c = ((c.in-Ok.board, rw c.as_slice-feeds.ensures.value at c.in-Ok.ensures.resumed, refl), rw c.as_slice-feeds.ensures.value at c.in-Ok.ensures.board)

pub loop-i-preserved : goal.loop-i-preserved
loop-i-preserved g c =
    let place = at_place c.args.others.now c.loop-i.i c.index-others-i.result (slice_get_read c.args.others.now (length c.args.others.now) c.loop-i.i c.index-others-i.result refl c.loop-i-test.true c.index-others-i.is) in
    let here = rw (c.deref.ensures.value, c.as_slice-feeds.ensures.value) at c.in-Ok-resumed_board.ensures.resumed in (
      joined-more (opened_value c.args.opened.now) c.args.one.now (bytes_of c.args.others.now) c.loop-i.i c.index-others-i.result.items place c.loop-i.board c.loop-i.invariant.0
          c.in-Ok-resumed_board.next here c.in-Ok-joined_board.board c.in-Ok-joined_board.ensures.joined,
      c.in-Ok-joined_board.ensures.fed c.args.opened.now.feeds.items c.loop-i.invariant.1 (rw c.as_slice-feeds.ensures.value at c.in-Ok-resumed_board.ensures.board),
    )

pub returns-in-Err-resumed_board-clause-refused : goal.returns-in-Err-resumed_board-clause-refused
returns-in-Err-resumed_board-clause-refused g c =
    let place = at_place c.args.others.now c.loop-i.i c.index-others-i.result (slice_get_read c.args.others.now (length c.args.others.now) c.loop-i.i c.index-others-i.result refl c.loop-i-test.true c.index-others-i.is) in
    other_refused (opened_value c.args.opened.now) c.args.one.now (bytes_of c.args.others.now) c.loop-i.i c.index-others-i.result.items place c.loop-i.board c.loop-i.invariant.0
    (arc_value c.args.plan) c.in-Err-resumed_board.fault (record { first = c.requires.first; refused = rw (c.deref.ensures.value, c.as_slice-plans.ensures.value, c.as_slice-feeds.ensures.value) at c.in-Err-resumed_board.ensures.refused })

pub returns-in-Err-joined_board-clause-refused : goal.returns-in-Err-joined_board-clause-refused
returns-in-Err-joined_board-clause-refused g c =
    let place = at_place c.args.others.now c.loop-i.i c.index-others-i.result (slice_get_read c.args.others.now (length c.args.others.now) c.loop-i.i c.index-others-i.result refl c.loop-i-test.true c.index-others-i.is) in
    not_joined (opened_value c.args.opened.now) c.args.one.now (bytes_of c.args.others.now) c.loop-i.i c.index-others-i.result.items place c.loop-i.board c.loop-i.invariant.0
    c.in-Ok-resumed_board.next (rw (c.deref.ensures.value, c.as_slice-feeds.ensures.value) at c.in-Ok-resumed_board.ensures.resumed) (arc_value c.args.plan) c.in-Err-joined_board.refusal.why c.requires.first c.in-Err-joined_board.ensures.refused

pub returns-clause-joined : goal.returns-clause-joined
returns-clause-joined g c =
    let many : length (bytes_of c.args.others.now) ≡ length c.args.others.now = length-map c.args.others.now (λ other. other.items) in
    all_joined (opened_value c.args.opened.now) c.args.one.now (bytes_of c.args.others.now) c.loop-i.i c.loop-i.board (omega (arith, many, c.loop-i-test.false)) c.loop-i.invariant.0
    c.loop-i.invariant.1 (c.fed_boards_show_all.ensures.show c.args.opened.now.feeds.items c.loop-i.board c.loop-i.invariant.1)

pub returns-in-Err-clause-refused : goal.returns-in-Err-clause-refused
returns-in-Err-clause-refused g c = record { first = c.requires.first; refused = rw (c.as_slice-plans.ensures.value, c.as_slice-feeds.ensures.value) at c.in-Err.ensures.refused }
