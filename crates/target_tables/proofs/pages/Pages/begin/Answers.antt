use Rattle.std.proofs.Common.{◌≡◌, ℕ, ◌+◌, ◌<◌, ◌≤◌, true, cond, List, [], ◌∷◌, ◌++◌, length, take, is_ok, refl, sym, ap, subst, ◌∙◌, vec_len, arith}
use Rattle.std.proofs.Math.Seq.{get_or-append_seam}
use Rattle.std.proofs.lemmas.List.{take_at, length-append}
use Rattle.std.proofs.lemmas.List.Elements.{All-take, All-same}
use Rattle.std.specs.List.{insert, All}
use Rattle.std.specs.Vec.{vec_capacity}
use Rattle.target_tables.specs.Pages.{Book, AreFull}
use Rattle.target_tables.proofs.Rooms.{full_with}
use Rattle.target_tables.proofs.pages.Pages.begin.Goals as goal

pub invariant_of-self : goal.invariant_of-self
invariant_of-self g c =
    let all : List (List (g.row.K.Denot × (ℕ × g.row.R.Denot))) = c.self.inside.list.items in
    let inside : c.args.page < length all = subst (λ (b : Book g.row.K.Denot g.row.R.Denot). c.args.page < length b.pages) (sym c.self.view_is) c.requires.inside in
    let spare : 0 < vec_len c.self.inside.spares = subst (λ (b : Book g.row.K.Denot g.row.R.Denot). 0 < b.spares) (sym c.self.view_is) c.requires.spare in
    let left : List (List (g.row.K.Denot × (ℕ × g.row.R.Denot))) = c.take_last-next.new.self.items in
    let P : List (g.row.K.Denot × (ℕ × g.row.R.Denot)) → Type 0 = λ page. page ≡ [] in
    let Q : List (List (g.row.K.Denot × (ℕ × g.row.R.Denot))) → Type 0 = All P in
    let lain : All P (left ++ c.take_last-next.result ∷ []) = subst Q c.take_last-next.ensures.items c.self.invariant.empty in
    let last : length left < length (left ++ c.take_last-next.result ∷ []) = (let n : length (left ++ c.take_last-next.result ∷ []) ≡ length left + 1 = length-append left (c.take_last-next.result ∷ []) in omega arith) in
    let none : c.take_last-next.result ≡ [] = sym (get_or-append_seam left c.take_last-next.result [] []) ∙ lain (length left) [] last in
    let fresh : c.put_in.new.self ≡ c.args.entry ∷ [] = c.put_in.ensures ∙ ap (λ (page : List (g.row.K.Denot × (ℕ × g.row.R.Denot))). insert page 0 c.args.entry) none in
    let listed : vec_len c.self.inside.list + vec_len c.self.inside.spares ≤ vec_capacity c.self.inside.list = c.self.invariant.listed in
    let made : is_ok c.insert.result ≡ true = c.insert.ensures.succeeds (omega arith) in
    let count : vec_len c.insert.new.self ≡ vec_len c.self.inside.list + 1 = c.insert.ensures.len ∙ ap (λ b. cond b (vec_len c.self.inside.list + 1) (vec_len c.self.inside.list)) made in
    let whole : c.insert.new.self.items ≡ insert all (c.args.page + 1) (c.args.entry ∷ []) =
    c.insert.ensures.items
    ∙ ap (λ b. cond b (insert all (c.args.page + 1) c.put_in.new.self) all) made
    ∙ ap (λ (page : List (g.row.K.Denot × (ℕ × g.row.R.Denot))). insert all (c.args.page + 1) page) fresh in
    record {
      full = subst AreFull (sym whole) (full_with all (c.args.page + 1) (c.args.entry ∷ []) (record { least = omega arith; most = omega arith }) c.self.invariant.full);
      empty = All-same P left (take (length left) (left ++ c.take_last-next.result ∷ [])) (sym (take_at left (c.take_last-next.result ∷ []) (length left) refl)) (All-take P (length left) (left ++ c.take_last-next.result ∷ []) lain);
      listed = omega arith;
      spared = omega arith;
      few = omega arith;
    }

pub returns-clause-full : goal.returns-clause-full
returns-clause-full g c =
    let all : List (List (g.row.K.Denot × (ℕ × g.row.R.Denot))) = c.self.inside.list.items in
    let inside : c.args.page < length all = subst (λ (b : Book g.row.K.Denot g.row.R.Denot). c.args.page < length b.pages) (sym c.self.view_is) c.requires.inside in
    let spare : 0 < vec_len c.self.inside.spares = subst (λ (b : Book g.row.K.Denot g.row.R.Denot). 0 < b.spares) (sym c.self.view_is) c.requires.spare in
    let left : List (List (g.row.K.Denot × (ℕ × g.row.R.Denot))) = c.take_last-next.new.self.items in
    let P : List (g.row.K.Denot × (ℕ × g.row.R.Denot)) → Type 0 = λ page. page ≡ [] in
    let Q : List (List (g.row.K.Denot × (ℕ × g.row.R.Denot))) → Type 0 = All P in
    let lain : All P (left ++ c.take_last-next.result ∷ []) = subst Q c.take_last-next.ensures.items c.self.invariant.empty in
    let last : length left < length (left ++ c.take_last-next.result ∷ []) = (let n : length (left ++ c.take_last-next.result ∷ []) ≡ length left + 1 = length-append left (c.take_last-next.result ∷ []) in omega arith) in
    let none : c.take_last-next.result ≡ [] = sym (get_or-append_seam left c.take_last-next.result [] []) ∙ lain (length left) [] last in
    let fresh : c.put_in.new.self ≡ c.args.entry ∷ [] = c.put_in.ensures ∙ ap (λ (page : List (g.row.K.Denot × (ℕ × g.row.R.Denot))). insert page 0 c.args.entry) none in
    let listed : vec_len c.self.inside.list + vec_len c.self.inside.spares ≤ vec_capacity c.self.inside.list = c.self.invariant.listed in
    let made : is_ok c.insert.result ≡ true = c.insert.ensures.succeeds (omega arith) in
    let count : vec_len c.insert.new.self ≡ vec_len c.self.inside.list + 1 = c.insert.ensures.len ∙ ap (λ b. cond b (vec_len c.self.inside.list + 1) (vec_len c.self.inside.list)) made in
    let whole : c.insert.new.self.items ≡ insert all (c.args.page + 1) (c.args.entry ∷ []) =
    c.insert.ensures.items
    ∙ ap (λ b. cond b (insert all (c.args.page + 1) c.put_in.new.self) all) made
    ∙ ap (λ (page : List (g.row.K.Denot × (ℕ × g.row.R.Denot))). insert all (c.args.page + 1) page) fresh in
    subst AreFull (sym whole) (full_with all (c.args.page + 1) (c.args.entry ∷ []) (record { least = omega arith; most = omega arith }) c.self.invariant.full)
