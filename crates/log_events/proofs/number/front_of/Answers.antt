use Rattle.std.proofs.Common.{◌^◌, refl}
use Rattle.log_events.proofs.NumberLaws.{parts_are}
use Rattle.log_events.proofs.number.front_of.Goals as goal

pub returns-in-Three-clause-value : goal.returns-in-Three-clause-value
returns-in-Three-clause-value c =
    rw c.in-Three.is (parts_are 2 1 3 c.args.bytes.now c.behind.result.now c.two_of-in-Three.result c.one_of-in-Three.result 65536 refl refl c.behind.ensures c.two_of-in-Three.ensures.value c.one_of-in-Three.ensures.value)

pub returns-in-Six-clause-value : goal.returns-in-Six-clause-value
returns-in-Six-clause-value c =
    rw c.in-Six.is (parts_are 4 2 6 c.args.bytes.now c.behind-in-Six.result.now c.four_of-in-Six.result c.two_of-in-Six.result (2 ^ 32) refl refl c.behind-in-Six.ensures c.four_of-in-Six.ensures.value c.two_of-in-Six.ensures.value)

pub returns-in-Eight-clause-value : goal.returns-in-Eight-clause-value
returns-in-Eight-clause-value c =
    rw c.in-Eight.is (parts_are 4 4 8 c.args.bytes.now c.behind-in-Eight.result.now c.four_of-in-Eight.result c.four_of-in-Eight-2.result (2 ^ 32) refl refl c.behind-in-Eight.ensures c.four_of-in-Eight.ensures.value c.four_of-in-Eight-2.ensures.value)
