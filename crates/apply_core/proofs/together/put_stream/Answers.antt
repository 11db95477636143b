use Rattle.apply_core.proofs.TogetherLaws.{one-together, not_put}
use Rattle.apply_core.proofs.together.put_stream.Goals as goal

pub returns-in-Ok-clause-ok : goal.returns-in-Ok-clause-ok
returns-in-Ok-clause-ok c = λ lower state long together due.
    one-together (λ a b. (c.keys_tie_where_they_are_equal.ensures a b).0) lower state c.args.s c.args.rows.now.entries c.apply.new.self.entries c.args.puts.items long together due c.in-Ok.ensures.clear c.in-Ok.ensures.values c.in-Ok.ensures.rising

pub returns-clause-err : goal.returns-clause-err
returns-clause-err c = λ lower state long together due.
    not_put (λ a b. (c.keys_tie_where_they_are_equal.ensures a b).0) lower state c.args.s c.args.rows.now.entries c.args.puts.items c.in-Err.fault long together due c.in-Err.ensures.refused
