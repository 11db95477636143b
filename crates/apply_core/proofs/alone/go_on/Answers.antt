use Rattle.std.proofs.Common.{◌≡◌, ◌<◌, ◌^◌, length, Some, slice_get, refl, ap, subst, arith}
use Rattle.std.proofs.lemmas.Option.{slice_get_read}
use Rattle.board_laws.specs.Meaning.{Meaning}
use Rattle.board_laws.specs.Schedule.{Reply, IsReply}
use Rattle.board_laws.proofs.Following.{unchanged}
use Rattle.apply_core.specs.Courses.{LeadsOn, IsAtEnd}
use Rattle.apply_core.proofs.StreamsThatStandSo.{stream-there, feed-few, stand-within, stand-ended, stand-refused, stand-wants, stand-others, stand-nearer}
use Rattle.apply_core.proofs.alone.go_on.Goals as goal

pub overflow_cast-groups : goal.overflow_cast-groups
overflow_cast-groups c =
    let is_feed : slice_get c.args.feeds.now c.args.s ≡ Some c.index-feeds-s.result = slice_get_read c.args.feeds.now (length c.args.feeds.now) c.args.s c.index-feeds-s.result refl c.requires.there c.index-feeds-s.is in
    let few : length c.index-feeds-s.result.groups < 2 ^ 31 = feed-few c.args.feeds.now c.args.board.now c.requires.fed c.args.s c.index-feeds-s.result is_feed in
    omega (arith, few, c.len-groups.ensures)

pub unreachable-requires : goal.unreachable-requires
unreachable-requires c = stream-there c.args.feeds.now c.args.board.now c.requires.fed c.args.s c.requires.there c.in_default.ensures.no_stream.1

pub next-requires-clause-within : goal.next-requires-clause-within
next-requires-clause-within c =
    let is_feed : slice_get c.args.feeds.now c.args.s ≡ Some c.index-feeds-s.result = slice_get_read c.args.feeds.now (length c.args.feeds.now) c.args.s c.index-feeds-s.result refl c.requires.there c.index-feeds-s.is in
    omega (arith, c.len-groups.ensures, stand-within c.args.feeds.now c.args.board.now c.requires.fed c.args.s c.in-Ok.at c.in-Ok.ensures.state c.index-feeds-s.result is_feed)

pub returns-in_default-next-clause-ended : goal.returns-in_default-next-clause-ended
returns-in_default-next-clause-ended c = λ _.
    let is_feed : slice_get c.args.feeds.now c.args.s ≡ Some c.index-feeds-s.result = slice_get_read c.args.feeds.now (length c.args.feeds.now) c.args.s c.index-feeds-s.result refl c.requires.there c.index-feeds-s.is in
    stand-ended c.args.feeds.now c.args.board.now c.requires.fed c.args.s c.in-Ok.at c.in-Ok.ensures.state c.index-feeds-s.result is_feed
    (subst (λ n. IsAtEnd c.in-Ok.at n) c.len-groups.ensures c.in_default-next.ensures)

pub ended_by-requires : goal.ended_by-requires
ended_by-requires c =
    let is_feed : slice_get c.args.feeds.now c.args.s ≡ Some c.index-feeds-s.result = slice_get_read c.args.feeds.now (length c.args.feeds.now) c.args.s c.index-feeds-s.result refl c.requires.there c.index-feeds-s.is in
    stand-refused c.args.feeds.now c.args.board.now c.requires.fed c.args.s c.in-Ok.at c.in-Ok.ensures.state c.index-feeds-s.result is_feed c.args.course.now.to_copy c.next.new.self.to_copy c.in-Some.step
    (subst (λ n. LeadsOn c.in-Ok.at n c.args.course.now.to_copy c.next.new.self.to_copy c.in-Some.step) c.len-groups.ensures c.in-Some.ensures)
    c.take_fed.new.self c.in-Err.refusal
    (subst (λ (r : Reply). IsReply c.args.feeds.now c.args.board.now (c.args.s, c.in-Some.step) r c.take_fed.new.self) c.in-Err.is c.take_fed.ensures.reply)

pub returns-in-Err-clause-memory : goal.returns-in-Err-clause-memory
returns-in-Err-clause-memory c =
    let is_feed : slice_get c.args.feeds.now c.args.s ≡ Some c.index-feeds-s.result = slice_get_read c.args.feeds.now (length c.args.feeds.now) c.args.s c.index-feeds-s.result refl c.requires.there c.index-feeds-s.is in
    stand-wants c.args.feeds.now c.args.board.now c.requires.fed c.args.s c.in-Ok.at c.in-Ok.ensures.state c.index-feeds-s.result is_feed c.args.course.now.to_copy c.next.new.self.to_copy c.in-Some.step
    (subst (λ n. LeadsOn c.in-Ok.at n c.args.course.now.to_copy c.next.new.self.to_copy c.in-Some.step) c.len-groups.ensures c.in-Some.ensures)
    c.take_fed.new.self c.in-Err.refusal c.ended_by.result c.ended_by.ensures.is
    (subst (λ (r : Reply). IsReply c.args.feeds.now c.args.board.now (c.args.s, c.in-Some.step) r c.take_fed.new.self) c.in-Err.is c.take_fed.ensures.reply)

pub returns-in-Ok-take_fed-clause-others : goal.returns-in-Ok-take_fed-clause-others
returns-in-Ok-take_fed-clause-others c =
    let is_feed : slice_get c.args.feeds.now c.args.s ≡ Some c.index-feeds-s.result = slice_get_read c.args.feeds.now (length c.args.feeds.now) c.args.s c.index-feeds-s.result refl c.requires.there c.index-feeds-s.is in
    stand-others c.args.feeds.now c.args.board.now c.requires.fed c.args.s c.in-Ok.at c.in-Ok.ensures.state c.index-feeds-s.result is_feed c.args.course.now.to_copy c.next.new.self.to_copy c.in-Some.step
    (subst (λ n. LeadsOn c.in-Ok.at n c.args.course.now.to_copy c.next.new.self.to_copy c.in-Some.step) c.len-groups.ensures c.in-Some.ensures)
    (λ a b. (c.keys_tie_where_they_are_equal.ensures a b).0) c.take_fed.new.self c.in-Ok-take_fed.field-0
    (subst (λ (r : Reply). IsReply c.args.feeds.now c.args.board.now (c.args.s, c.in-Some.step) r c.take_fed.new.self) c.in-Ok-take_fed.is c.take_fed.ensures.reply)

pub returns-in-Ok-take_fed-clause-nearer : goal.returns-in-Ok-take_fed-clause-nearer
returns-in-Ok-take_fed-clause-nearer c = λ _.
    let is_feed : slice_get c.args.feeds.now c.args.s ≡ Some c.index-feeds-s.result = slice_get_read c.args.feeds.now (length c.args.feeds.now) c.args.s c.index-feeds-s.result refl c.requires.there c.index-feeds-s.is in
    stand-nearer c.args.feeds.now c.args.board.now c.requires.fed c.args.s c.in-Ok.at c.in-Ok.ensures.state c.index-feeds-s.result is_feed c.args.course.now.to_copy c.next.new.self.to_copy c.in-Some.step
    (subst (λ n. LeadsOn c.in-Ok.at n c.args.course.now.to_copy c.next.new.self.to_copy c.in-Some.step) c.len-groups.ensures c.in-Some.ensures)
    (λ a b. (c.keys_tie_where_they_are_equal.ensures a b).0) c.take_fed.new.self c.in-Ok-take_fed.field-0
    (subst (λ (r : Reply). IsReply c.args.feeds.now c.args.board.now (c.args.s, c.in-Some.step) r c.take_fed.new.self) c.in-Ok-take_fed.is c.take_fed.ensures.reply)

pub returns-in-Err-clause-others : goal.returns-in-Err-clause-others
returns-in-Err-clause-others c = λ t ne.
    ap (λ (b : Meaning). slice_get b.streams t)
    (unchanged c.args.feeds.now c.args.board.now (c.args.s, c.in-Some.step) c.in-Err.refusal c.take_fed.new.self
    (subst (λ (r : Reply). IsReply c.args.feeds.now c.args.board.now (c.args.s, c.in-Some.step) r c.take_fed.new.self) c.in-Err.is c.take_fed.ensures.reply))
