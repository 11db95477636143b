use Rattle.feed_check.proofs.laws.faultless_feeds_never_clash.Goals as goal

pub returns : goal.returns
returns c = λ bytes feeds faultless old new steps replies run lawful reads. c.streams_read_their_feeds.ensures.disjoint feeds old new steps replies run lawful reads faultless.apart
