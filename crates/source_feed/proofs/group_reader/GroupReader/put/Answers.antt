use Rattle.std.proofs.Common.{refl}
use Rattle.source_feed.proofs.MemoryLaws.{not_memory}
use Rattle.source_feed.proofs.ReaderSteps.{rollback-puts, ignored-puts}
use Rattle.source_feed.proofs.group_reader.GroupReader.put.Goals as goal

pub returns-in-Rollback-clause-meaning : goal.returns-in-Rollback-clause-meaning
returns-in-Rollback-clause-meaning c = λ base earlier m.
    rw c.in-Rollback.is (refl, rollback-puts base c.args.source.now earlier c.args.self.now _ m (record { start = refl; names = refl; widths = λ table. refl; groups = refl }) (λ names. refl))

pub returns-in-Ignored-clause-meaning : goal.returns-in-Ignored-clause-meaning
returns-in-Ignored-clause-meaning c = λ base earlier m. rw c.in-Ignored.is (refl, ignored-puts base c.args.source.now earlier _ c.args.self.now m)

pub returns-in-Begin-clause-memory : goal.returns-in-Begin-clause-memory
returns-in-Begin-clause-memory c = λ base earlier m is. absurd (not_memory c.begin.result c.begin.ensures.refused is)

pub returns-in-Commit-clause-memory : goal.returns-in-Commit-clause-memory
returns-in-Commit-clause-memory c = λ base earlier m is. rw c.in-Commit.is (c.commit.ensures.memory base c.args.source.now earlier m is)

pub returns-in-Row-clause-memory : goal.returns-in-Row-clause-memory
returns-in-Row-clause-memory c = λ base earlier m is. rw c.in-Row.is (c.put_row.ensures.memory base earlier m is)

pub returns-in-Field-clause-memory : goal.returns-in-Field-clause-memory
returns-in-Field-clause-memory c = λ base earlier m is. rw c.in-Field.is refl

pub returns-in-Gtid-clause-memory : goal.returns-in-Gtid-clause-memory
returns-in-Gtid-clause-memory c = λ base earlier m is. rw c.in-Gtid.is refl
