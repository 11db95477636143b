use Rattle.std.proofs.Common.{◌≡◌, map, refl, sym, subst, ◌∙◌}
use Rattle.std.specs.Arc.{arc_value}
use Rattle.board_laws.specs.Lawful.{IsLawful}
use Rattle.board_laws.specs.Reading.{AllReadTheirFeeds}
use Rattle.board_laws.specs.Extended.{extended_board, MayExtend}
use Rattle.board_laws.proofs.AddedBoards.{as_many}
use Rattle.apply_core.specs.Ended.{IsFedBoard}
use Rattle.apply_core.proofs.AddLaws.{as_many_as, may_extend, memory_alone, all_streams, extended_is}
use Rattle.apply_core.proofs.adding.add_tables.Goals as goal

pub with_streams-requires : goal.with_streams-requires
with_streams-requires c =
    let long = as_many_as (map arc_value c.args.plans.now) c.args.feeds.now c.args.board c.in-Ok.ensures.taken in
    let may : MayExtend c.args.feeds.now c.args.board = may_extend (map arc_value c.args.plans.now) c.args.feeds.now c.args.board c.in-Ok.ensures.taken c.in-Ok.ensures.whole c.in-Ok.ensures.ok.before in
    subst IsLawful (sym (extended_is c.args.feeds.now c.args.board c.in-Ok.streams.items c.args.board.rows (all_streams c.args.feeds.now c.args.board.streams c.in-Ok.streams.items long c.in-Ok.ensures.ok) refl))
    (c.extended_boards_are_lawful.ensures.lawful c.args.feeds.now c.args.board c.is_lawful.ensures may)

pub returns-in-Ok-clause-may : goal.returns-in-Ok-clause-may
returns-in-Ok-clause-may c = may_extend (map arc_value c.args.plans.now) c.args.feeds.now c.args.board c.in-Ok.ensures.taken c.in-Ok.ensures.whole c.in-Ok.ensures.ok.before

pub returns-in-Err-clause-only_memory : goal.returns-in-Err-clause-only_memory
returns-in-Err-clause-only_memory c = λ may taken. memory_alone (map arc_value c.args.plans.now) c.args.feeds.now c.args.board taken c.feeds_go_on_or_stop.ensures may c.in-Err.why c.in-Err.ensures.refused

pub returns-in-Ok-clause-extended : goal.returns-in-Ok-clause-extended
returns-in-Ok-clause-extended c =
    let long = as_many_as (map arc_value c.args.plans.now) c.args.feeds.now c.args.board c.in-Ok.ensures.taken in
    c.with_streams.ensures
    ∙ extended_is c.args.feeds.now c.args.board c.in-Ok.streams.items c.args.board.rows (all_streams c.args.feeds.now c.args.board.streams c.in-Ok.streams.items long c.in-Ok.ensures.ok) refl

pub returns-in-Ok-clause-lawful : goal.returns-in-Ok-clause-lawful
returns-in-Ok-clause-lawful c =
    let long = as_many_as (map arc_value c.args.plans.now) c.args.feeds.now c.args.board c.in-Ok.ensures.taken in
    let is : c.with_streams.result ≡ extended_board c.args.feeds.now c.args.board
    = c.with_streams.ensures
    ∙ extended_is c.args.feeds.now c.args.board c.in-Ok.streams.items c.args.board.rows (all_streams c.args.feeds.now c.args.board.streams c.in-Ok.streams.items long c.in-Ok.ensures.ok) refl in
    let may : MayExtend c.args.feeds.now c.args.board = may_extend (map arc_value c.args.plans.now) c.args.feeds.now c.args.board c.in-Ok.ensures.taken c.in-Ok.ensures.whole c.in-Ok.ensures.ok.before in
    subst IsLawful (sym is) (c.extended_boards_are_lawful.ensures.lawful c.args.feeds.now c.args.board c.is_lawful.ensures may)

pub returns-in-Ok-clause-reads : goal.returns-in-Ok-clause-reads
returns-in-Ok-clause-reads c =
    let long = as_many_as (map arc_value c.args.plans.now) c.args.feeds.now c.args.board c.in-Ok.ensures.taken in
    let is : c.with_streams.result ≡ extended_board c.args.feeds.now c.args.board
    = c.with_streams.ensures
    ∙ extended_is c.args.feeds.now c.args.board c.in-Ok.streams.items c.args.board.rows (all_streams c.args.feeds.now c.args.board.streams c.in-Ok.streams.items long c.in-Ok.ensures.ok) refl in
    let may : MayExtend c.args.feeds.now c.args.board = may_extend (map arc_value c.args.plans.now) c.args.feeds.now c.args.board c.in-Ok.ensures.taken c.in-Ok.ensures.whole c.in-Ok.ensures.ok.before in
    subst (AllReadTheirFeeds c.args.feeds.now) (sym is) (c.extended_boards_are_lawful.ensures.reads c.args.feeds.now c.args.board may)

pub returns-in-Ok-clause-board : goal.returns-in-Ok-clause-board
returns-in-Ok-clause-board c =
    let long = as_many_as (map arc_value c.args.plans.now) c.args.feeds.now c.args.board c.in-Ok.ensures.taken in
    let is : c.with_streams.result ≡ extended_board c.args.feeds.now c.args.board
    = c.with_streams.ensures
    ∙ extended_is c.args.feeds.now c.args.board c.in-Ok.streams.items c.args.board.rows (all_streams c.args.feeds.now c.args.board.streams c.in-Ok.streams.items long c.in-Ok.ensures.ok) refl in
    let may : MayExtend c.args.feeds.now c.args.board = may_extend (map arc_value c.args.plans.now) c.args.feeds.now c.args.board c.in-Ok.ensures.taken c.in-Ok.ensures.whole c.in-Ok.ensures.ok.before in
    subst (IsFedBoard c.args.feeds.now) (sym is) (record {
      lawful = c.extended_boards_are_lawful.ensures.lawful c.args.feeds.now c.args.board c.is_lawful.ensures may;
      count = as_many c.args.feeds.now c.args.board.streams may.count ∙ sym may.count;
      reads = c.extended_boards_are_lawful.ensures.reads c.args.feeds.now c.args.board may;
    })
