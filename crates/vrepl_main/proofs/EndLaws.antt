-- Feeds that end at positions, behind what is opened.
use Rattle.std.proofs.Common.{◌≡◌, ◌∙◌, ap, ℕ, ◌+◌, List, [], ◌∷◌, refl, Result, Ok, Err}
use Rattle.list_laws.specs.Outcome.{Refuses}
use Rattle.filter_rule.specs.PlanValue.{PlanValue}
use Rattle.source_feed.specs.Planned.{FeedValue}
use Rattle.vrepl_choices.specs.UntilValue.{UntilValue}
use Rattle.feed_ends.specs.EndedFeeds.{ended_feeds, ended_from, ended_then}
use Rattle.feed_ends.specs.Faults.{EndReason, meant_of}
use Rattle.feed_ends.specs.declared.fault.EndFault.{EndFault}
use Rattle.feed_ends.specs.declared.fault.EndFault.TheVariants as faults
use Rattle.vrepl_main.specs.Ending.{ended, ended_over, opened_until}
use Rattle.vrepl_main.specs.Opening.{OpenedValue}
use Rattle.vrepl_main.specs.Reasons.{Reason, RefusesInputs}
use Rattle.vrepl_main.specs.RefusalOf.{refusal_of_end}
use Rattle.vrepl_main.specs.declared.refusal.CommandRefusal.{CommandRefusal}
use Rattle.vrepl_main.proofs.OpenLaws.{RefusesInputs-whole}

-- ---- the feeds

-- why they don't end
pub refused_end : (fault : EndFault) (plans : List PlanValue) (reading : Result (List FeedValue) EndReason) → Refuses meant_of fault reading → RefusesInputs {X = OpenedValue} (refusal_of_end fault) (ended_over plans reading)
refused_end faults.NoStream plans reading is = ap (ended_over plans) is
refused_end (faults.BadPosition cause) plans reading is = ap (ended_over plans) is
refused_end (faults.NotReached stream) plans reading is = ap (ended_over plans) is
refused_end faults.Memory plans reading is = tt

-- ---- what is opened

-- a refusal of what is opened
pub refused_before : (refusal : CommandRefusal) (untils : List UntilValue) (reading : Result OpenedValue Reason) → RefusesInputs refusal reading → RefusesInputs {X = OpenedValue} refusal (opened_until untils reading)
refused_before refusal untils reading is =
    RefusesInputs-whole {X = OpenedValue} {Y = OpenedValue} refusal reading (opened_until untils reading) (λ reason e. ap (opened_until untils) e) is

-- a refusal of the positions behind it
pub refused_behind : (refusal : CommandRefusal) (untils : List UntilValue) (reading : Result OpenedValue Reason) (whole : OpenedValue) → reading ≡ Ok whole → RefusesInputs {X = OpenedValue} refusal (ended untils whole)
    → RefusesInputs {X = OpenedValue} refusal (opened_until untils reading)
refused_behind refusal untils reading whole is bad =
    RefusesInputs-whole {X = OpenedValue} {Y = OpenedValue} refusal (ended untils whole) (opened_until untils reading) (λ reason e. ap (opened_until untils) is ∙ e) bad

pub ended_behind : (untils : List UntilValue) (reading : Result OpenedValue Reason) (whole found : OpenedValue) → reading ≡ Ok whole → ended untils whole ≡ Ok found → opened_until untils reading ≡ Ok found
ended_behind untils reading whole found is e = ap (opened_until untils) is ∙ e

-- without positions feeds are whole
whole_from : (s : ℕ) (feeds : List FeedValue) → ended_from s [] feeds ≡ Ok feeds
whole_from s [] = refl
whole_from s (feed ∷ feeds) = ap (ended_then feed) (whole_from (s + 1) feeds)

ended_none : (feeds : List FeedValue) → ended_feeds [] feeds ≡ Ok feeds
ended_none feeds = whole_from 0 feeds

-- without positions it is what it was
pub opened_whole : (reading : Result OpenedValue Reason) → opened_until [] reading ≡ reading
opened_whole (Ok given) = ap (ended_over given.plans) (ended_none given.feeds)
opened_whole (Err reason) = refl
