-- A report on feeds, by what opening and checking them give.
use Rattle.std.proofs.Common.{◌≡◌, ◌∙◌, ℕ, Bool, List, sym, ap, subst, map, Option, Some, None, Result, Ok, Err}
use Rattle.std.specs.Global.{Vec}
use Rattle.std.specs.Prelude.{MatchOption}
use Rattle.list_laws.specs.Outcome as outcome
use Rattle.list_laws.specs.Outcome.{◌>>=◌}
use Rattle.source_feed.specs.FaultNumber as feed
use Rattle.source_feed.specs.declared.fault.FeedFault.{FeedFault}
use Rattle.source_feed.specs.declared.fault.FeedFault.TheVariants as fault
use Rattle.feed_check.specs.Checked.{CheckedValue, checked_feeds}
use Rattle.feed_check.specs.Report.{ReportValue}
use Rattle.check_said.specs.Said.{said_of}
use Rattle.vrepl_choices.specs.declared.report_form.ReportForm.{ReportForm}
use Rattle.vrepl_main.specs.HexText.{feed_bytes}
use Rattle.vrepl_main.specs.Opening.{OpenedValue}
use Rattle.vrepl_main.specs.Reasons.{Reason, reason_of, RefusesInputs}
use Rattle.vrepl_main.specs.RefusalOf.{refusal_of_feed}
use Rattle.vrepl_main.specs.declared.refusal.CommandRefusal.{CommandRefusal}
use Rattle.vrepl_main.specs.declared.refusal.CommandRefusal.TheVariants.{Memory}
use Rattle.std.proofs.lemmas.Simd.{map-map}
use Rattle.vrepl_check.specs.Checking.{bytes_or_none, said_checks, report_with, report_asked, report_of_feeds}
use Rattle.vrepl_check.specs.declared.inputs.CheckInputs.{CheckInputs}

-- what refuses a step refuses what is made of it
behind : {X Y : Type 0} (o : Option Reason) (reading : Result X Reason) (f : X → Result Y Reason) → MatchOption o ⊥ (λ reason. reading ≡ Err reason) → MatchOption o ⊥ (λ reason. (reading >>= f) ≡ Err reason)
behind None reading f is = is
behind (Some reason) reading f is = ap (λ r. r >>= f) is

pub refuses_behind : {X Y : Type 0} (refusal : CommandRefusal) (reading : Result X Reason) (f : X → Result Y Reason) → RefusesInputs refusal reading → RefusesInputs refusal (reading >>= f)
refuses_behind Memory reading f is = tt
refuses_behind other reading f is = behind (reason_of other) reading f is

abbrev gives : ReportValue → Result ReportValue Reason
gives report = Ok report

-- the refusal of a group that isn't sound
pub refuses_checks : (form : ReportForm) (files : List (List ℕ)) (workflow : List ℕ) (given : FeedFault) (reading : Result (List CheckedValue) FeedFault) → outcome.Refuses feed.meant_of given reading
    → RefusesInputs (refusal_of_feed given) (said_checks reading >>= λ checks. Ok (said_of form workflow files checks))
refuses_checks form files workflow fault.Memory reading is = tt
refuses_checks form files workflow other reading is = ap (λ (r : Result (List CheckedValue) FeedFault). said_checks r >>= λ checks. gives (said_of form workflow files checks)) is

-- feeds as they are given
pub given_as : (inputs : CheckInputs) (given : List (Option (List ℕ))) → given ≡ map (λ (feed : Vec ℕ). feed_bytes inputs.feed_form feed.items) inputs.feeds.items → report_of_feeds inputs given ≡ report_asked inputs
given_as inputs given is = ap (report_of_feeds inputs) (is ∙ sym (map-map (feed_bytes inputs.feed_form) (λ (feed : Vec ℕ). feed.items) inputs.feeds.items))

-- the same of feeds that were opened
pub refused_checks : (form : ReportForm) (files : List (List ℕ)) (workflow : List ℕ) (given : List (Option (List ℕ))) (reading : Result OpenedValue Reason) (opened : OpenedValue) (fault : FeedFault) → reading ≡ Ok opened
    → outcome.Refuses feed.meant_of fault (checked_feeds (map bytes_or_none given) opened.feeds) → RefusesInputs (refusal_of_feed fault) (reading >>= report_with form files workflow given)
refused_checks form files workflow given reading opened fault is bad =
    subst (λ (r : Result OpenedValue Reason). RefusesInputs (refusal_of_feed fault) (r >>= report_with form files workflow given)) (sym is) (refuses_checks form files workflow fault (checked_feeds (map bytes_or_none given) opened.feeds) bad)

-- the report on them
pub report_is : (form : ReportForm) (files : List (List ℕ)) (workflow : List ℕ) (given : List (Option (List ℕ))) (reading : Result OpenedValue Reason) (opened : OpenedValue) (checks : List CheckedValue) (report : ReportValue) → reading ≡ Ok opened
    → checked_feeds (map bytes_or_none given) opened.feeds ≡ Ok checks → report ≡ said_of form workflow files checks → (reading >>= report_with form files workflow given) ≡ Ok report
report_is form files workflow given reading opened checks report is checked made =
    ap (λ (r : Result OpenedValue Reason). r >>= report_with form files workflow given) is
    ∙ ap (λ (r : Result (List CheckedValue) FeedFault). said_checks r >>= λ checks. gives (said_of form workflow files checks)) checked
    ∙ ap gives (sym made)
