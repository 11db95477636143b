use Rattle.std.proofs.Common.{◌≡◌, ℕ, ◌≤◌, List, Option, take, subst, sym, arith}
use Rattle.target_tables.specs.Pages.{entries_of}
use Rattle.target_tables.specs.Private.Runs.{Leads}
use Rattle.target_tables.proofs.Committing.{leads_to_all}
use Rattle.target_tables.proofs.Opening.{leads_then}
use Rattle.target_tables.proofs.changes.change_all.Goals as goal

pub merge_next-left-requires-clause-falling : goal.merge_next-left-requires-clause-falling
merge_next-left-requires-clause-falling g c = c.loop-left.invariant.leads.falling

pub change_next-left-requires-clause-falling : goal.change_next-left-requires-clause-falling
change_next-left-requires-clause-falling g c = c.merge_next-left.ensures.leads.falling

pub returns-then-left-eq0-clause-values : goal.returns-then-left-eq0-clause-values
returns-then-left-eq0-clause-values g c =
    let none : c.merge_next-left.result ≡ 0 = omega arith in
    let old : List (g.row.K.Denot × (ℕ × g.row.R.Denot)) = entries_of c.args.pages.now.pages in
    let now : List (g.row.K.Denot × (ℕ × g.row.R.Denot)) = entries_of c.loop-left.pages.pages in
    let mid : List (g.row.K.Denot × (ℕ × g.row.R.Denot)) = entries_of c.merge_next-left.new.pages.pages in
    let P : ℕ → Type 0 = λ m. Leads g.K.Ord.cmp old c.args.stream c.args.changes.items (take m c.merge_next-left.new.changes.items) mid in
    leads_to_all g.met.K.Ord.total old c.args.stream c.args.changes.items mid
    (subst P none (leads_then g.met.K.Ord.total c.args.stream old now mid c.args.changes.items (take c.loop-left.left c.loop-left.changes.items) (take c.merge_next-left.result c.merge_next-left.new.changes.items) c.loop-left.invariant.leads c.merge_next-left.ensures.leads))

pub loop-left-preserved : goal.loop-left-preserved
loop-left-preserved g c =
    let old : List (g.row.K.Denot × (ℕ × g.row.R.Denot)) = entries_of c.args.pages.now.pages in
    let now : List (g.row.K.Denot × (ℕ × g.row.R.Denot)) = entries_of c.loop-left.pages.pages in
    let mid : List (g.row.K.Denot × (ℕ × g.row.R.Denot)) = entries_of c.merge_next-left.new.pages.pages in
    let next : List (g.row.K.Denot × (ℕ × g.row.R.Denot)) = entries_of c.change_next-left.new.pages.pages in
    let all : List (g.row.K.Denot × Option g.row.R.Denot) = c.args.changes.items in
    let some : List (g.row.K.Denot × Option g.row.R.Denot) = take c.loop-left.left c.loop-left.changes.items in
    let rest : List (g.row.K.Denot × Option g.row.R.Denot) = take c.merge_next-left.result c.merge_next-left.new.changes.items in
    let last : List (g.row.K.Denot × Option g.row.R.Denot) = take c.change_next-left.result c.change_next-left.new.changes.items in
    record {
      left = c.change_next-left.ensures.left;
      rising = c.change_next-left.ensures.rising;
      leads = leads_then g.met.K.Ord.total c.args.stream old mid next all rest last (leads_then g.met.K.Ord.total c.args.stream old now mid all some rest c.loop-left.invariant.leads c.merge_next-left.ensures.leads) c.change_next-left.ensures.leads;
      room = c.change_next-left.ensures.room;
    }

pub returns-clause-values : goal.returns-clause-values
returns-clause-values g c =
    let n : ℕ = c.loop-left.left in
    let none : n ≡ 0 = omega arith in
    let P : ℕ → Type 0 = λ m. Leads g.K.Ord.cmp (entries_of c.args.pages.now.pages) c.args.stream c.args.changes.items (take m c.loop-left.changes.items) (entries_of c.loop-left.pages.pages) in
    leads_to_all g.met.K.Ord.total (entries_of c.args.pages.now.pages) c.args.stream c.args.changes.items (entries_of c.loop-left.pages.pages) (subst P none c.loop-left.invariant.leads)
