use Rattle.std.proofs.lemmas.Option.{slice_get_within}
use Rattle.apply_core.proofs.stream.place_of.Goals as goal

pub returns-clause-within : goal.returns-clause-within
returns-clause-within c = slice_get_within c.args.streams.now c.args.s _ c.in_ok-stream_of.ensures.stream
