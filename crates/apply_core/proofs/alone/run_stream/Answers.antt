use Rattle.apply_core.proofs.alone.run_stream.Goals as goal

pub returns-clause-ended : goal.returns-clause-ended
returns-clause-ended c = c.in_ok-go_on.ensures.ended c.if-branch.false
