use Rattle.live_session.proofs.PageLaws.{page-told, rising-from}
use Rattle.live_session.proofs.page.page_from.Goals as goal

pub first_rows-requires : goal.first_rows-requires
first_rows-requires c = rising-from c.target.result.now.entries c.scan.result c.args.from.now c.scan.ensures.entries c.scan.ensures.rising

pub returns : goal.returns
returns c =
    page-told c.args.board.now.rows c.target.result.now.entries c.scan.result c.args.from.now c.table.result c.args.most c.in_ok-rows.rows.items c.page_of_rows.result.rows.items c.page_of_rows.result.next c.scan.ensures.entries c.target.ensures c.table.ensures c.in_ok-rows.ensures c.page_of_rows.ensures
