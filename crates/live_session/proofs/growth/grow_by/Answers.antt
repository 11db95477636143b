use Rattle.std.proofs.Common.{subst}
use Rattle.live_core.specs.Live.{IsRefusedPiece}
use Rattle.live_session.proofs.GrowthLaws.{come-one, come_none, is_there}
use Rattle.live_session.proofs.growth.grow_by.Goals as goal

pub returns-in-Ok-clause-come : goal.returns-in-Ok-clause-come
returns-in-Ok-clause-come c = come-one c.args.s c.args.arrived.piece.now c.in-Ok.taken c.args.live.now c.grow.new.self c.in-Ok.ensures.taken c.grow.ensures.board c.grow.ensures.told

pub returns-in-Ok-clause-noted : goal.returns-in-Ok-clause-noted
returns-in-Ok-clause-noted c = c.in-Ok.ensures.taken

pub returns-after-matches-clause-come : goal.returns-after-matches-clause-come
returns-after-matches-clause-come c = come_none c.args.live.now c.grow.new.self c.in-Err-Piece.ensures.left

pub returns-after-matches-clause-noted : goal.returns-after-matches-clause-noted
returns-after-matches-clause-noted c = (c.in-Err-Piece.ensures.left, subst (IsRefusedPiece c.args.s c.args.arrived.piece.now c.args.live.now.fed.feeds c.args.live.now.bytes) c.in-Err-Piece.field-0-is c.in-Err-Piece.ensures.refused)

pub returns-in-Err-NoStream-clause-come : goal.returns-in-Err-NoStream-clause-come
returns-in-Err-NoStream-clause-come c = come_none c.args.live.now c.grow.new.self c.in-Err-NoStream.ensures.left

pub returns-in-Err-NoStream-clause-noted : goal.returns-in-Err-NoStream-clause-noted
returns-in-Err-NoStream-clause-noted c = is_there _ c.args.live.now.bytes c.args.s (subst (IsRefusedPiece c.args.s c.args.arrived.piece.now c.args.live.now.fed.feeds c.args.live.now.bytes) c.in-Err-NoStream.field-0-is c.in-Err-NoStream.ensures.refused) c.requires
