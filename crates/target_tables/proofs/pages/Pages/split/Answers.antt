use Rattle.std.proofs.Common.{◌≡◌, ℕ, ◌+◌, ◌<◌, ◌≤◌, true, cond, List, [], ◌∷◌, ◌++◌, length, take, drop, set, is_ok, refl, sym, ap, subst, ◌∙◌, vec_len, arith}
use Rattle.std.proofs.lemmas.List.{get_or_default, take_at}
use Rattle.std.proofs.lemmas.List.Elements.{All-take, All-same}
use Rattle.std.specs.List.{insert, All}
use Rattle.std.specs.Vec.{vec_capacity}
use Rattle.target_tables.specs.Pages.{Book, page_at, split_in_two, AreFull}
use Rattle.target_tables.proofs.Rooms.{full_split}
use Rattle.target_tables.proofs.pages.Pages.split.Goals as goal

pub invariant_of-self : goal.invariant_of-self
invariant_of-self g c =
    let all : List (List (g.row.K.Denot × (ℕ × g.row.R.Denot))) = c.self.inside.list.items in
    let inside : c.args.page < length all = subst (λ (b : Book g.row.K.Denot g.row.R.Denot). c.args.page < length b.pages) (sym c.self.view_is) c.requires.inside in
    let size : length (page_at all c.args.page) ≡ 128 = subst (λ (b : Book g.row.K.Denot g.row.R.Denot). length (page_at b.pages c.args.page) ≡ 128) (sym c.self.view_is) c.requires.full in
    let spare : 0 < vec_len c.self.inside.spares = subst (λ (b : Book g.row.K.Denot g.row.R.Denot). 0 < b.spares) (sym c.self.view_is) c.requires.spare in
    let there : c.index_mut.result.now ≡ page_at all c.args.page = c.index_mut.ensures.value ∙ get_or_default all c.args.page _ [] inside in
    let listed : vec_len c.self.inside.list + vec_len c.self.inside.spares ≤ vec_capacity c.self.inside.list = c.self.invariant.listed in
    let made : is_ok c.insert.result ≡ true = c.insert.ensures.succeeds (omega arith) in
    let count : vec_len c.insert.new.self ≡ vec_len c.self.inside.list + 1 = c.insert.ensures.len ∙ ap (λ b. cond b (vec_len c.self.inside.list + 1) (vec_len c.self.inside.list)) made in
    let whole : c.insert.new.self.items ≡ split_in_two all c.args.page c.args.place =
    c.insert.ensures.items
    ∙ ap (λ b. cond b (insert (set all c.args.page c.part.new.self) (c.args.page + 1) c.part.new.upper) (set all c.args.page c.part.new.self)) made
    ∙ ap (λ (page : List (g.row.K.Denot × (ℕ × g.row.R.Denot))). insert (set all c.args.page page) (c.args.page + 1) c.part.new.upper) (c.part.ensures.lower ∙ ap (λ (page : List (g.row.K.Denot × (ℕ × g.row.R.Denot))). take c.args.place page) there)
    ∙ ap (λ (page : List (g.row.K.Denot × (ℕ × g.row.R.Denot))). insert (set all c.args.page (take c.args.place (page_at all c.args.page))) (c.args.page + 1) page) (c.part.ensures.upper ∙ ap (λ (page : List (g.row.K.Denot × (ℕ × g.row.R.Denot))). drop c.args.place page) there) in
    let left : List (List (g.row.K.Denot × (ℕ × g.row.R.Denot))) = c.take_last-upper.new.self.items in
    let P : List (g.row.K.Denot × (ℕ × g.row.R.Denot)) → Type 0 = λ page. page ≡ [] in
    let Q : List (List (g.row.K.Denot × (ℕ × g.row.R.Denot))) → Type 0 = All P in
    record {
      full = subst AreFull (sym whole) (full_split all c.args.page inside size c.args.place c.requires.some c.requires.others c.self.invariant.full);
      empty = All-same P left (take (length left) (left ++ c.take_last-upper.result ∷ [])) (sym (take_at left (c.take_last-upper.result ∷ []) (length left) refl)) (All-take P (length left) (left ++ c.take_last-upper.result ∷ []) (subst Q c.take_last-upper.ensures.items c.self.invariant.empty));
      listed = omega arith;
      spared = omega arith;
      few = omega arith;
    }
