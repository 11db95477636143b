-- What status 0 of `check` says of a workflow and its feeds, and what it says of a `run` of them (this profile).
use Rattle.std.specs.Prelude.{◌≡◌, ◌≢◌, ℕ, Bool, true, false, List, [], map, codes, None, Some, Ok}
use Rattle.std.specs.List.{AllByRecursion}
use Rattle.serde_json.specs.Data.{Data}
use Rattle.feed_check.specs.Clean.{AreCleanFeeds, AreFaultlessFeeds}
use Rattle.workflow_check.specs.File.{value_in}
use Rattle.workflow_check.specs.Ignored.{ignored_in}
use Rattle.workflow_check.specs.Json.{items_at}
use Rattle.workflow_check.specs.Ranges.{is_untiled}
use Rattle.workflow_check.specs.Rules.{rules_in, first_rule, has_match, names_in}
use Rattle.vrepl_main.specs.HexText.{feed_bytes}
use Rattle.vrepl_main.specs.InputList.{bytes_of}
use Rattle.vrepl_main.specs.Opening.{OpenedValue, opened}
use Rattle.vrepl_main.specs.Running.{opened_asked}
use Rattle.vrepl_main.specs.declared.named_inputs.RunInputs.{RunInputs}
use Rattle.apply_core.specs.RunRefused.{IsRefusedRun, number_of_run}
use Rattle.apply_core.specs.declared.run_refusal.RunRefusal.{RunRefusal}
use Rattle.vrepl_check.specs.Checking.{bytes_or_none}
use Rattle.vrepl_check.specs.declared.inputs.CheckInputs.{CheckInputs}

-- ---- the workflow's file

abbrev pub tables_in : Data → List Data
tables_in file = items_at (codes "tables") file

abbrev pub streams_in : Data → List Data
streams_in file = items_at (codes "streams") file

-- each rule of a stream matches one of these tables
abbrev pub RulesMatch : List (List ℕ) → Data → Type 0
RulesMatch tables stream = AllByRecursion (λ rule. has_match tables rule ≡ true) (rules_in stream)

-- a stream has a rule for each of these tables
abbrev pub HasRules : List (List ℕ) → Data → Type 0
HasRules tables stream = AllByRecursion (λ table. first_rule (rules_in stream) table ≢ None) tables

-- It has no member that isn't read, and each rule of its streams matches a table. Where each stream passes a range of a
-- table, all by one vindex of one column and not all the same, these lie end to end over all ids.
pub record IsFaultlessFile (file : Data) : Type 0 where
  pub read : ignored_in file ≡ []
  pub matched : AllByRecursion (RulesMatch (names_in (tables_in file))) (streams_in file)
  pub tiled : AllByRecursion (λ table. is_untiled table (streams_in file) ≡ false) (tables_in file)

-- and each stream has a rule for each table
pub record IsCleanFile (file : Data) : Type 0 where
  pub faultless : IsFaultlessFile file
  pub decided : AllByRecursion (HasRules (names_in (tables_in file))) (streams_in file)

-- a workflow's text is such a file
pub record HasFile (Is : Data → Type 0) (workflow : List ℕ) : Type 0 where
  pub file : Data
  pub said : value_in workflow ≡ Some file
  pub is : Is file

-- ---- a workflow with its feeds

-- the bytes of the feeds, decoded where they are given as hexadecimal text
abbrev pub bytes_given : CheckInputs → List (List ℕ)
bytes_given inputs = map bytes_or_none (map (feed_bytes inputs.feed_form) (bytes_of inputs.feeds.items))

-- the workflow is opened with its feeds; these are without a fault by their bytes, and so is the workflow's file
pub record IsFaultless (inputs : CheckInputs) : Type 0 where
  pub given : OpenedValue
  pub opens : opened inputs.feed_form inputs.workflow.items (bytes_of inputs.feeds.items) ≡ Ok given
  pub feeds : AreFaultlessFeeds (bytes_given inputs) given.feeds
  pub file : HasFile IsFaultlessFile inputs.workflow.items

-- and all of it is clean
pub record IsClean (inputs : CheckInputs) : Type 0 where
  pub given : OpenedValue
  pub opens : opened inputs.feed_form inputs.workflow.items (bytes_of inputs.feeds.items) ≡ Ok given
  pub feeds : AreCleanFeeds (bytes_given inputs) given.feeds
  pub file : HasFile IsCleanFile inputs.workflow.items

-- what status 0 says: nothing is a fault, and where notes are as warnings all is clean
abbrev pub IsGood : Bool → CheckInputs → Type 0
IsGood false inputs = IsFaultless inputs
IsGood true inputs = IsClean inputs

-- ---- a run

-- the same workflow with the same feeds, given in the same form and read to their ends
pub record AreSameInputs (checked : CheckInputs) (run : RunInputs) : Type 0 where
  pub form : run.feed_form ≡ checked.feed_form
  pub workflow : run.workflow.items ≡ checked.workflow.items
  pub feeds : bytes_of run.feeds.items ≡ bytes_of checked.feeds.items
  pub whole : run.until.now ≡ []

-- Where a workflow and its feeds are without a fault, the same inputs open for a run, and no run of the feeds is refused but
-- for want of memory: not 71, since another stream's row stands at a key, and not since a group isn't sound.
abbrev pub FaultlessRunsAreNotRefused : Type 0
FaultlessRunsAreNotRefused =
    (checked : CheckInputs) (run : RunInputs) → IsFaultless checked → AreSameInputs checked run
    → (given : OpenedValue) × (opened_asked run ≡ Ok given) × ((refusal : RunRefusal) → IsRefusedRun given.plans given.feeds refusal → number_of_run refusal ≡ 72)

-- what is clean is without a fault
abbrev pub CleanIsFaultless : Type 0
CleanIsFaultless = (inputs : CheckInputs) → IsClean inputs → IsFaultless inputs
