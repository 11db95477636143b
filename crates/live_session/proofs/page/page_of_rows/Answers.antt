use Rattle.std.proofs.Common.{arith}
use Rattle.live_session.proofs.PageLaws.{popped-page}
use Rattle.live_session.proofs.page.page_of_rows.Goals as goal

pub returns-in-Some : goal.returns-in-Some
returns-in-Some c =
    popped-page c.args.rows.items c.pop.new.self.items (c.in-Some.key, c.in-Some.field-0-1, c.in-Some.field-0-2) c.args.most c.in-Some.ensures.items (omega arith) c.requires
