-- Feeds that end at positions.
use Rattle.std.proofs.Common.{◌≡◌, ◌∙◌, ℕ, zero, suc, ◌+◌, Bool, true, false, List, [], ◌∷◌, ◌++◌, length, take, drop, Option, None, Some, Result, Ok, Err, refl, sym, ap, subst, arith}
use Rattle.std.specs.Prelude.{OnOk, cond, not, slice_get}
use Rattle.std.proofs.lemmas.Option.{none-some, same_Some}
use Rattle.std.specs.Result.{result_ok}
use Rattle.list_laws.specs.Outcome.{◌>>=◌, GivesUnless, refused_if}
use Rattle.source_feed.specs.GroupValue.{Position}
use Rattle.source_feed.specs.Planned.{FeedValue}
use Rattle.vrepl_choices.specs.UntilValue.{UntilValue}
use Rattle.feed_ends.specs.AtPosition.{EndsAt, feed_until, number_within, reaches}
use Rattle.feed_ends.specs.EndedFeeds.{AreEnded, IsEndedBy, ended_feed, ended_feeds, ended_from, ended_then}
use Rattle.feed_ends.specs.Faults.{EndReason, meant_of, no_stream, not_reached}
use Rattle.feed_ends.specs.declared.fault.EndFault.{EndFault}
use Rattle.feed_ends.specs.Positions.{name_some_of, position_for, read_ends, text_for}
use Rattle.feed_ends.specs.declared.end.End.{End}
use Rattle.feed_ends.proofs.PositionLaws.{IsSaidBy, said_for}

-- ---- one after another

-- feeds in front of further ones
abbrev pub in_front : List FeedValue → Result (List FeedValue) EndReason → Result (List FeedValue) EndReason
in_front front (Ok feeds) = Ok (front ++ feeds)
in_front front (Err reason) = Err reason

-- the first so many are ended, and the others are whole
abbrev pub StandsAt : List End → List FeedValue → ℕ → List FeedValue → Type 0
StandsAt ends old s now = ended_from 0 ends old ≡ in_front (take s now) (ended_from s ends (drop s now))

abbrev step_of : Result (List FeedValue) EndReason → Result FeedValue EndReason → Result (List FeedValue) EndReason
step_of others one = one >>= λ first. ended_then first others

-- ---- each feed

abbrev ok : {A : Type 0} → A → Result A EndReason
ok x = Ok x

never : {P A : Type 0} (reason : EndReason) (x : A) → Err reason ≡ ok x → P
never reason x e = absurd (none-some x (ap result_ok e))

same_ok : {A : Type 0} (x y : A) → ok x ≡ ok y → x ≡ y
same_ok x y e = same_Some x y (ap result_ok e)

record EachEnded (ends : List End) (from : ℕ) (feeds ended : List FeedValue) : Type 0 where
  count : length ended ≡ length feeds
  each : (s t : ℕ) (feed one : FeedValue) → t ≡ from + s → slice_get feeds s ≡ Some feed → slice_get ended s ≡ Some one → ended_feed t (position_for t ends) feed ≡ Ok one

each_more : (ends : List End) (from : ℕ) (feed one : FeedValue) (feeds ended : List FeedValue) → ended_feed from (position_for from ends) feed ≡ Ok one → EachEnded ends (from + 1) feeds ended → EachEnded ends from (feed ∷ feeds) (one ∷ ended)
each_more ends from feed one feeds ended is rest = record { count = ap suc rest.count; each = each }
  where
    each : (s t : ℕ) (f g : FeedValue) → t ≡ from + s → slice_get (feed ∷ feeds) s ≡ Some f → slice_get (one ∷ ended) s ≡ Some g → ended_feed t (position_for t ends) f ≡ Ok g
    each zero t f g at at_f at_g =
        subst (λ (x : FeedValue). ended_feed t (position_for t ends) x ≡ Ok g) (same_Some feed f at_f)
        (subst (λ (y : FeedValue). ended_feed t (position_for t ends) feed ≡ Ok y) (same_Some one g at_g)
        (subst (λ (n : ℕ). ended_feed n (position_for n ends) feed ≡ Ok one) (let same : from ≡ t = omega (arith, at) in same) is))
    each (suc s) t f g at at_f at_g = rest.each s t f g (omega (arith, at)) at_f at_g

each_ended : (ends : List End) (from : ℕ) (feeds ended : List FeedValue) → ended_from from ends feeds ≡ Ok ended → EachEnded ends from feeds ended
each_ended ends from [] ended e =
    subst (EachEnded ends from []) (same_ok [] ended e) (record { count = refl; each = λ s t feed one at at_f at_g. absurd (none-some feed at_f) })
each_ended ends from (feed ∷ feeds) ended e =
    by (ended_feed from (position_for from ends) feed) refl (ended_from (from + 1) ends feeds) refl e (λ later are. each_ended ends (from + 1) feeds later are)
  where
    by : (r : Result FeedValue EndReason) → ended_feed from (position_for from ends) feed ≡ r → (rs : Result (List FeedValue) EndReason) → ended_from (from + 1) ends feeds ≡ rs → step_of rs r ≡ Ok ended
        → ((later : List FeedValue) → ended_from (from + 1) ends feeds ≡ Ok later → EachEnded ends (from + 1) feeds later) → EachEnded ends from (feed ∷ feeds) ended
    by (Err reason) is rs are e rest = never reason ended e
    by (Ok one) is (Err reason) are e rest = never reason ended e
    by (Ok one) is (Ok later) are e rest =
        subst (EachEnded ends from (feed ∷ feeds)) (same_ok (one ∷ later) ended e) (each_more ends from feed one feeds later is (rest later are))

-- ---- by the texts

ended_by : (s : ℕ) (text : Option (List ℕ)) (position : Option Position) (feed one : FeedValue) → IsSaidBy text position → ended_feed s position feed ≡ Ok one → IsEndedBy text feed one
ended_by s None position feed one none e = sym (same_ok feed one (sym (ap (λ (p : Option Position). ended_feed s p feed) none) ∙ e))
ended_by s (Some text) position feed one (found, says, is) e = (found, says, by (reaches found feed) refl (sym (ap (λ (p : Option Position). ended_feed s p feed) is) ∙ e))
  where
    by : (b : Bool) → reaches found feed ≡ b → cond b (ok (feed_until found feed)) (Err (not_reached s)) ≡ Ok one → EndsAt found feed one
    by true reached e =
        let same : feed_until found feed ≡ one = same_ok (feed_until found feed) one e in
        record {
          reached = reached;
          number = number_within found feed;
          last = refl;
          groups = sym (ap (λ (f : FeedValue). f.groups) same);
          plan = sym (ap (λ (f : FeedValue). f.plan) same);
        }
    by false reached e = never (not_reached s) one e

-- what is given ends the feeds
pub are_ended : (untils : List UntilValue) (feeds ended : List FeedValue) → ended_feeds untils feeds ≡ Ok ended → AreEnded untils feeds ended
are_ended untils feeds ended e = by (not (name_some_of (length feeds) untils)) (read_ends untils) refl e
  where
    by : (b : Bool) (r : Result (List End) EndReason) → read_ends untils ≡ r → (refused_if b no_stream >>= λ _. r >>= λ ends. ended_from 0 ends feeds) ≡ Ok ended → AreEnded untils feeds ended
    by true r are e = never no_stream ended e
    by false (Err reason) are e = never reason ended e
    by false (Ok ends) are e =
        let all : EachEnded ends 0 feeds ended = each_ended ends 0 feeds ended e in
        record {
          count = all.count;
          each = λ s feed one at_f at_g. ended_by s (text_for s untils) (position_for s ends) feed one (said_for s untils ends are) (all.each s s feed one (omega arith) at_f at_g);
        }

-- what a call answers
pub ended_ok : {X : Type 0} (untils : List UntilValue) (feeds new : List FeedValue) (ends : List End) (r : Result X EndFault) → name_some_of (length feeds) untils ≡ true → read_ends untils ≡ Ok ends
    → GivesUnless meant_of (λ _. new) r (ended_from 0 ends feeds) → OnOk r (AreEnded untils feeds new)
ended_ok untils feeds new ends (Err fault) named are is = tt
ended_ok untils feeds new ends (Ok x) named are is =
    are_ended untils feeds new
    (ap (λ (b : Bool). refused_if (not b) no_stream >>= λ _. read_ends untils >>= λ all. ended_from 0 all feeds) named
    ∙ ap (λ (q : Result (List End) EndReason). q >>= λ all. ended_from 0 all feeds) are
    ∙ is)
