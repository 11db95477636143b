use Rattle.std.proofs.lemmas.Result.{err_from_is_err_and}
use Rattle.source_feed.proofs.ReadOnLaws.{only_memory, settled_all, settled_part}
use Rattle.source_feed.proofs.growing.read_settled.Goals as goal

pub returns-then-taken-piece-clause-read : goal.returns-then-taken-piece-clause-read
returns-then-taken-piece-clause-read c = λ bytes e.
    settled_all bytes c.args.feed.now c.args.piece.now c.in_ok-reader.reader c.in_ok-reader.taken (c.in_ok-reader.ensures.read bytes e) c.if-taken-piece.true

pub returns-in_err-reader-2-clause-refused : goal.returns-in_err-reader-2-clause-refused
returns-in_err-reader-2-clause-refused c = λ bytes e.
    let p = err_from_is_err_and c.from_residual-in_err-reader-2.result c.from_residual-in_err-reader-2.ensures.1 in
    rw (p.1, p.2)
    (only_memory bytes c.args.feed.now c.args.piece.now c.in_ok-reader.reader c.in_ok-reader.taken (c.in_ok-reader.ensures.read bytes e) c.in_err-reader-2.field-0.0 (c.in_err-reader-2.ensures.refused bytes e))

pub returns-clause-read : goal.returns-clause-read
returns-clause-read c = λ bytes e.
    settled_part bytes c.args.feed.now c.args.piece.now c.in_ok-reader.reader c.in_ok-reader.taken (c.in_ok-reader.ensures.read bytes e) _ _ (c.in_ok-reader-2.ensures.read bytes e)
