use Rattle.std.proofs.Common.{◌≡◌, ℕ, ◌≤◌, List, length, map, sum, sym, subst, ◌∙◌}
use Rattle.std.specs.List.{All}
use Rattle.std.proofs.lemmas.List.Concat.{length-flat_map}
use Rattle.std.proofs.lemmas.List.Sums.{sum-map}
use Rattle.std.proofs.lemmas.List.Elements.{All-map, All-weaker}
use Rattle.target_tables.specs.Contents.{Contents}
use Rattle.target_tables.specs.Pages.{entries_of, IsFull}
use Rattle.target_tables.proofs.tables.Tables.pages.Goals as goal

pub returns-clause-entries : goal.returns-clause-entries
returns-clause-entries g c =
    let same : sum (map (λ (page : (List (g.row.K.Denot × (ℕ × g.row.R.Denot)))). length page) c.self.inside.pages.pages) ≡ length (entries_of c.self.inside.pages.pages) =
    sum-map (λ (page : (List (g.row.K.Denot × (ℕ × g.row.R.Denot)))). length page) c.self.inside.pages.pages ∙ sym (length-flat_map (λ (page : (List (g.row.K.Denot × (ℕ × g.row.R.Denot)))). page) c.self.inside.pages.pages) in
    subst (λ (v : Contents g.row.K.Denot g.row.R.Denot). sum v.pages ≡ length v.entries) c.self.view_is same

pub returns-clause-limits : goal.returns-clause-limits
returns-clause-limits g c =
    let P : ℕ → Type 0 = λ n. (1 ≤ n) × (n ≤ 128) in
    let full : All P (map (λ (page : (List (g.row.K.Denot × (ℕ × g.row.R.Denot)))). length page) c.self.inside.pages.pages) =
    All-map P (λ (page : (List (g.row.K.Denot × (ℕ × g.row.R.Denot)))). length page) c.self.inside.pages.pages
    (All-weaker IsFull (λ (page : (List (g.row.K.Denot × (ℕ × g.row.R.Denot)))). P (length page)) (λ page f. (f.least, f.most)) c.self.inside.pages.pages c.as_slice.ensures.full) in
    subst (λ (v : Contents g.row.K.Denot g.row.R.Denot). All P v.pages) c.self.view_is full
