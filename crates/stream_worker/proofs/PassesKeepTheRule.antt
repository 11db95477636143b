-- Each step of a pass keeps the rule of the lock.
use Rattle.std.proofs.Common.{◌≡◌, ◌≢◌, ◌⊎◌, ◌==◌, ℕ, zero, suc, ◌+◌, ◌<◌, ◌≤◌, Bool, true, false, true≢false, List, [], ◌∷◌, ◌++◌, length, set, Option, Some, None, IsSome, IsSomeAnd, MatchOption, slice_get, inl, inr, ⊎_elim, refl, sym, ap, ◌∙◌, subst, arith, if◌then◌else◌}
use Rattle.std.proofs.lemmas.Bool.{or_cases}
use Rattle.std.proofs.lemmas.Option.{same_Some}
use borrow.Author.Tests.{eqb-true, eq-eqb}
use mathlib.Core.Option.{some, some-injective, some-ne-none}
use lib.ListN.{get_elem?}
use Rattle.crossbeam_channel.specs.Fifo.{Pushes, Pops, Forks, Merges}
use Rattle.std.specs.Option.{option_map}
use Rattle.atomic_table.proofs.Lists.{at_set, set_else, set_again, at_longer}
use Rattle.board_laws.specs.Meaning.{State}
use Rattle.stream_worker.specs.Knowing.{Laid, Knows, first_view, names, with_board, without_board, copy_of, with_states, states_joined, joined_knowing, spent_view}
use Rattle.stream_worker.specs.Rule.{StateGoesOn, IsSaid, SaysOfBoard, SaysOf, ToldOf, IsPassOf, EachPass, IsBoardFree, IsHeld, OneBoard, IsBoardTaken, IsOwnChange, CountsSeats, MayPut, IsBoardPut}
use Rattle.stream_worker.proofs.FactsOfPasses.{set_there, each_set, each_added, named_either, none_named, no_list}
use Rattle.stream_worker.proofs.BoardsTold.{from_none, told_nothing, from_further, from_boards, from_joined}
use Rattle.stream_worker.proofs.StreamsGoOn.{same_goes_on, all_go_on-refl, all_go_on-trans, joined_long, joined_named, joined_other}

-- ---- what a pass says

-- the streams of a pass that says something have seats
pub says_given : (v : Knows) (now : Laid) → SaysOfBoard v now → (s : ℕ) → names v.streams s ≡ true → s < now.given
says_given v now h s e = by v.seen h
  where
    by : (o : Option Laid) → MatchOption o (v.streams ≡ []) (λ seen. IsSaid v.streams seen now) → s < now.given
    by None none = absurd (none_named v.streams none s e)
    by (Some seen) said = said.given s e

-- what a pass has just seen is so
pub said_itself : (streams : List ℕ) (now : Laid) → ((s : ℕ) → names streams s ≡ true → s < now.given) → IsSaid streams now now
said_itself streams now given = record { own = λ s e. refl; given = given; every = all_go_on-refl now.board; long = refl; without_seat = λ none s le. refl }

-- ---- the first view

-- the rule holds of the opener's pass alone, which holds the board
pub begins : OneBoard [] (first_view ∷ [])
begins =
    record {
      now = None;
      owner = λ s. 0;
      place =
          inr (record {
            empty = refl;
            holder = 0;
            view = first_view;
            there = refl;
            holds = refl;
            seen = refl;
            alone = each_set (λ pass v. v.holds ≡ true → pass ≡ 0) (first_view ∷ []) 0 first_view (λ h. refl) (λ q u other e. absurd (none_else q u other e));
          });
      each =
          each_set (IsPassOf (λ s. 0) None) (first_view ∷ []) 0 first_view (record { own = λ s e. absurd (true≢false (sym e)); says = (refl, refl); told = refl })
          (λ q u other e. absurd (none_else q u other e));
    }
  where
    none_else : (q : ℕ) (u : Knows) → q ≢ 0 → get_elem? (first_view ∷ []) q ≡ some u → ⊥
    none_else zero u other e = other refl
    none_else (suc q) u other e = some-ne-none u (sym e)

-- ---- take

-- a board that is taken off the front was laid there, alone
free_item : (x board : Laid) (items : List Laid) → x ∷ items ≡ board ∷ [] → (board ≡ x) × (items ≡ [])
free_item x board items e =
    let here : board ≡ x = cc in
    let rest : items ≡ [] = cc in
    (here, rest)

pub takes : (pass : ℕ) (v : Knows) → Pops OneBoard pass v (λ x w. IsBoardTaken v x w)
takes pass v x items views h at = ⊎_elim free held h.place
  where
    held : IsHeld (x ∷ items) views h.now → (w : Knows) × OneBoard items (set views pass w) × IsBoardTaken v x w
    held p = let e : x ∷ items ≡ [] = p.empty in cc

    free : IsBoardFree (x ∷ items) views h.now → (w : Knows) × OneBoard items (set views pass w) × IsBoardTaken v x w
    free p =
        let there = free_item x p.board items p.item in
        let is : h.now ≡ Some x = p.is ∙ ap Some there.0 in
        let w : Knows = with_board v.streams x in
        let mine : IsPassOf h.owner h.now pass v = h.each pass v at in
        let said : SaysOfBoard v x = subst (SaysOf v) is mine.says in
        let own : IsPassOf h.owner h.now pass w =
        record { own = mine.own; says = subst (SaysOf w) (sym is) (said_itself v.streams x (says_given v x said)); told = told_nothing w h.now refl } in (
          w,
          record {
            now = h.now;
            owner = h.owner;
            place =
                inr (record {
                  empty = there.1;
                  holder = pass;
                  view = w;
                  there = set_there views pass v w at;
                  holds = refl;
                  seen = sym is;
                  alone = each_set (λ q u. u.holds ≡ true → q ≡ pass) views pass w (λ e. refl) (λ q u other e holds. absurd (true≢false (sym holds ∙ p.none q u e)));
                });
            each = each_set (IsPassOf h.owner h.now) views pass w own (λ q u other e. h.each q u e);
          },
          record { view = refl; says = said; told = subst (ToldOf v) is mine.told },
        )

-- ---- put back

-- what another pass says stays so where streams that aren't its own change, and seats are counted
said_still : (mine theirs : List ℕ) (seen taken board : Laid) → IsOwnChange mine taken board → CountsSeats mine taken board
    → ((s : ℕ) → names mine s ≡ true → s < taken.given) → ((s : ℕ) → names theirs s ≡ true → names mine s ≡ true → ⊥)
    → IsSaid theirs seen taken → IsSaid theirs seen board
said_still mine theirs seen taken board change counts given apart said =
    record {
      own = λ s e. change.others s (not_mine s (apart s e) (names mine s) refl) ∙ said.own s e;
      given = λ s e. let x = said.given s e in let y = more in omega arith;
      every = all_go_on-trans seen.board taken.board board.board said.every change.every;
      long = change.long ∙ said.long;
      without_seat = λ none s le. change.others s (past s le (names mine s) refl) ∙ said.without_seat none s (let y = more in omega arith);
    }
  where
    more : taken.given ≤ board.given
    more = ⊎_elim (λ (x : board.given ≡ taken.given). omega arith) (λ (x : (board.given ≡ taken.given + 1) × (mine ≡ [])). let y = x.0 in omega arith) counts

    not_mine : (s : ℕ) → (names mine s ≡ true → ⊥) → (b : Bool) → names mine s ≡ b → names mine s ≡ false
    not_mine s no_name true e = absurd (no_name e)
    not_mine s no_name false e = e

    past : (s : ℕ) → board.given ≤ s → (b : Bool) → names mine s ≡ b → names mine s ≡ false
    past s le true e = absurd (let x = given s e in let y = more in omega arith)
    past s le false e = e

-- the rule behind a put back, from what each pass then says
laid_back : (pass : ℕ) (v : Knows) (x : Laid) (w : Knows) (items : List Laid) (views : List Knows) (owner : ℕ → ℕ) → items ≡ []
    → EachPass (λ q u. u.holds ≡ true → q ≡ pass) views → w.holds ≡ false → IsPassOf owner (Some x) pass w
    → ((q : ℕ) (u : Knows) → q ≢ pass → get_elem? views q ≡ some u → IsPassOf owner (Some x) q u) → OneBoard (items ++ x ∷ []) (set views pass w)
laid_back pass v x w items views owner empty alone down mine others =
    record {
      now = Some x;
      owner = owner;
      place =
          inl (record {
            board = x;
            is = refl;
            item = ap (λ (l : List Laid). l ++ x ∷ []) empty;
            none = each_set (λ q u. u.holds ≡ false) views pass w down (λ q u other e. lacks q u other e u.holds refl);
          });
      each = each_set (IsPassOf owner (Some x)) views pass w mine others;
    }
  where
    lacks : (q : ℕ) (u : Knows) → q ≢ pass → get_elem? views q ≡ some u → (b : Bool) → u.holds ≡ b → u.holds ≡ false
    lacks q u other e true h = absurd (other (alone q u e h))
    lacks q u other e false h = h

-- the pass that holds the board is the only one, and it is as that pass saw it
its_holder : (pass : ℕ) (v : Knows) (views : List Knows) (items : List Laid) (now : Option Laid) → get_elem? views pass ≡ some v → v.holds ≡ true
    → IsBoardFree items views now ⊎ IsHeld items views now
    → (items ≡ []) × (v.seen ≡ now) × EachPass (λ q u. u.holds ≡ true → q ≡ pass) views
its_holder pass v views items now at holds place = ⊎_elim free held place
  where
    free : IsBoardFree items views now → (items ≡ []) × (v.seen ≡ now) × EachPass (λ q u. u.holds ≡ true → q ≡ pass) views
    free p = absurd (true≢false (sym holds ∙ p.none pass v at))

    held : IsHeld items views now → (items ≡ []) × (v.seen ≡ now) × EachPass (λ q u. u.holds ≡ true → q ≡ pass) views
    held p =
        let same : pass ≡ p.holder = p.alone pass v at holds in
        let is : p.view ≡ v = some-injective p.view v (sym p.there ∙ sym (ap (get_elem? views) same) ∙ at) in
        (p.empty, ap (λ (u : Knows). u.seen) (sym is) ∙ p.seen, λ q u e h. p.alone q u e h ∙ sym same)

-- the seat's owner is known beside those of the streams that have seats
abbrev with_owner : ℕ → ℕ → (ℕ → ℕ) → ℕ → ℕ
with_owner seat pass owner s = if s == seat then pass else owner s

owner_here : (seat pass : ℕ) (owner : ℕ → ℕ) (s : ℕ) → s ≡ seat → with_owner seat pass owner s ≡ pass
owner_here seat pass owner s e = ap (λ (b : Bool). if b then pass else owner s) (eq-eqb s seat e)

owner_else : (seat pass : ℕ) (owner : ℕ → ℕ) (s : ℕ) → s < seat → with_owner seat pass owner s ≡ owner s
owner_else seat pass owner s less = by (s == seat) refl
  where
    by : (b : Bool) → (s == seat) ≡ b → (if b then pass else owner s) ≡ owner s
    by true e = absurd (let same : s ≡ seat = eqb-true s seat e in omega arith)
    by false e = refl

one_name : (seat s : ℕ) → names (seat ∷ []) s ≡ true → s ≡ seat
one_name seat s e = ⊎_elim (λ (x : (seat == s) ≡ true). sym (eqb-true seat s x)) (λ (x : false ≡ true). absurd (true≢false (sym x))) (or_cases (seat == s) false e)

-- a pass without streams and without a board says nothing of any board
silent : (u : Knows) (x : Laid) → SaysOf u None → SaysOfBoard u x
silent u x h = subst (λ (o : Option Laid). MatchOption o (u.streams ≡ []) (λ seen. IsSaid u.streams seen x)) (sym h.1) h.0

pub puts : (n pass : ℕ) (v : Knows) (x : Laid) → v.holds ≡ true → MayPut v x → Pushes OneBoard n pass v x (λ w. IsBoardPut v x w)
puts n pass v x holds may items views room h at = by v.seen refl may
  where
    of_holder : (items ≡ []) × (v.seen ≡ h.now) × EachPass (λ q u. u.holds ≡ true → q ≡ pass) views
    of_holder = its_holder pass v views items h.now at holds h.place

    mine : IsPassOf h.owner h.now pass v
    mine = h.each pass v at

    first : v.seen ≡ None → (w : Knows) × OneBoard (items ++ x ∷ []) (set views pass w) × IsBoardPut v x w
    first none =
        let now : h.now ≡ None = sym of_holder.1 ∙ none in
        let w : Knows = without_board [] x in (
          w,
          laid_back pass v x w items views h.owner of_holder.0 of_holder.2 refl
              (record { own = λ s e. absurd (true≢false (sym e)); says = said_itself [] x (λ s e. absurd (true≢false (sym e))); told = told_nothing w (Some x) refl })
              (λ q u other e. let theirs : IsPassOf h.owner h.now q u = h.each q u e in record { own = theirs.own; says = silent u x (subst (SaysOf u) now theirs.says); told = from_none u.told x.board (subst (ToldOf u) now theirs.told) }),
          record {
            holds = refl;
            seen = refl;
            same = λ taken e same. let two : Some taken ≡ None = sym e ∙ none in cc;
            counted = λ taken e more. let two : Some taken ≡ None = sym e ∙ none in cc;
            first = λ e. refl;
          },
        )

    later : (taken : Laid) → v.seen ≡ Some taken → IsOwnChange v.streams taken x → CountsSeats v.streams taken x
        → (w : Knows) × OneBoard (items ++ x ∷ []) (set views pass w) × IsBoardPut v x w
    later taken there change counts = ⊎_elim same counted counts
      where
        now : h.now ≡ Some taken
        now = sym of_holder.1 ∙ there

        given : (s : ℕ) → names v.streams s ≡ true → s < taken.given
        given = says_given v taken (subst (SaysOf v) now mine.says)

        theirs_still : (q : ℕ) (u : Knows) → q ≢ pass → get_elem? views q ≡ some u → SaysOfBoard u x
        theirs_still q u other e = still u.seen said
          where
            theirs : IsPassOf h.owner h.now q u
            theirs = h.each q u e

            said : SaysOfBoard u taken
            said = subst (SaysOf u) now theirs.says

            still : (o : Option Laid) → MatchOption o (u.streams ≡ []) (λ seen. IsSaid u.streams seen taken) → MatchOption o (u.streams ≡ []) (λ seen. IsSaid u.streams seen x)
            still None none = none
            still (Some seen) so =
                said_still v.streams u.streams seen taken x change counts given (λ s their my. other (sym (theirs.own s their) ∙ mine.own s my)) so

        told_still : (q : ℕ) (u : Knows) → get_elem? views q ≡ some u → ToldOf u (Some x)
        told_still q u e = from_further u.told v.streams taken x change (subst (ToldOf u) now (h.each q u e).told)

        same : x.given ≡ taken.given → (w : Knows) × OneBoard (items ++ x ∷ []) (set views pass w) × IsBoardPut v x w
        same as_many =
            let w : Knows = without_board v.streams x in (
              w,
              laid_back pass v x w items views h.owner of_holder.0 of_holder.2 refl
                  (record { own = mine.own; says = said_itself v.streams x (λ s e. let y = given s e in omega arith); told = told_nothing w (Some x) refl })
                  (λ q u other e. record { own = (h.each q u e).own; says = theirs_still q u other e; told = told_still q u e }),
              record {
                holds = refl;
                seen = refl;
                same = λ old e many. refl;
                counted = λ old e more. absurd (let is : old.given ≡ taken.given = ap (λ (l : Laid). l.given) (same_Some old taken (sym e ∙ there)) in omega arith);
                first = λ e. let two : Some taken ≡ None = sym there ∙ e in cc;
              },
            )

        counted : (x.given ≡ taken.given + 1) × (v.streams ≡ []) → (w : Knows) × OneBoard (items ++ x ∷ []) (set views pass w) × IsBoardPut v x w
        counted one_more =
            let w : Knows = without_board (taken.given ∷ []) x in
            let owner : ℕ → ℕ = with_owner taken.given pass h.owner in (
              w,
              laid_back pass v x w items views owner of_holder.0 of_holder.2 refl
                  (record {
                    own = λ s e. owner_here taken.given pass h.owner s (one_name taken.given s e);
                    says = said_itself (taken.given ∷ []) x (λ s e. let is : s ≡ taken.given = one_name taken.given s e in let more = one_more.0 in omega arith);
                    told = told_nothing w (Some x) refl;
                  })
                  (λ q u other e.
                  record {
                    own =
                        λ s name.
                        owner_else taken.given pass h.owner s (says_given u taken (subst (SaysOf u) now (h.each q u e).says) s name)
                        ∙ (h.each q u e).own s name;
                    says = theirs_still q u other e;
                    told = told_still q u e;
                  }),
              record {
                holds = refl;
                seen = refl;
                same = λ old e many. absurd (let is : old.given ≡ taken.given = ap (λ (l : Laid). l.given) (same_Some old taken (sym e ∙ there)) in let more = one_more.0 in omega arith);
                counted = λ old e more. ap (λ (l : Laid). l.given ∷ []) (sym (same_Some old taken (sym e ∙ there)));
                first = λ e. let two : Some taken ≡ None = sym there ∙ e in cc;
              },
            )

    by : (o : Option Laid) → v.seen ≡ o → MatchOption o (Unit {0}) (λ taken. IsOwnChange v.streams taken x × CountsSeats v.streams taken x)
        → (w : Knows) × OneBoard (items ++ x ∷ []) (set views pass w) × IsBoardPut v x w
    by None e so = first e
    by (Some taken) e so = later taken e so.0 so.1

-- ---- passes made and joined

-- a new pass has no stream, and saw what the pass that it is made of saw
pub forks : (pass : ℕ) (v : Knows) → v.streams ≡ [] → Forks OneBoard pass v v (copy_of v)
forks pass v none items views h at =
    subst (λ (l : List Knows). OneBoard items (l ++ copy_of v ∷ [])) (sym (set_again views pass v at))
    (record {
      now = h.now;
      owner = h.owner;
      place = ⊎_elim (λ p. inl (free p)) (λ p. inr (held p)) h.place;
      each = each_added (IsPassOf h.owner h.now) views (copy_of v) (λ q. record { own = λ s e. absurd (true≢false (sym e)); says = says h.now (h.each pass v at).says; told = told_nothing (copy_of v) h.now refl }) h.each;
    })
  where
    free : IsBoardFree items views h.now → IsBoardFree items (views ++ copy_of v ∷ []) h.now
    free p = record { board = p.board; is = p.is; item = p.item; none = each_added (λ q u. u.holds ≡ false) views (copy_of v) (λ q. refl) p.none }

    held : IsHeld items views h.now → IsHeld items (views ++ copy_of v ∷ []) h.now
    held p =
        record {
          empty = p.empty;
          holder = p.holder;
          view = p.view;
          there = at_longer views (copy_of v ∷ []) p.holder p.view p.there;
          holds = p.holds;
          seen = p.seen;
          alone = each_added (λ q u. u.holds ≡ true → q ≡ p.holder) views (copy_of v) (λ q e. absurd (true≢false (sym e))) p.alone;
        }

    saw : (now : Laid) (o : Option Laid) → MatchOption o (v.streams ≡ []) (λ seen. IsSaid v.streams seen now) → MatchOption o ((copy_of v).streams ≡ []) (λ seen. IsSaid [] seen now)
    saw now None so = refl
    saw now (Some seen) so = subst (λ (l : List ℕ). IsSaid l seen now) none so

    says : (now : Option Laid) → SaysOf v now → SaysOf (copy_of v) now
    says None so = (refl, so.1)
    says (Some now) so = saw now v.seen so

start : (s : ℕ) → s ≡ 0 + s
start s = omega arith

-- what two passes say together
said_together : (mine theirs : List ℕ) (seen saw now : Laid) → IsSaid mine seen now → IsSaid theirs saw now → IsSaid (mine ++ theirs) (with_states theirs (Some saw) seen) now
said_together mine theirs seen saw now said says =
    record {
      own = λ s e. own s (names theirs s) refl e;
      given = λ s e. ⊎_elim (λ x. said.given s x) (λ x. says.given s x) (named_either mine theirs s e);
      every = λ s state e. every s state (names theirs s) refl e;
      long = said.long ∙ sym (joined_long theirs 0 saw.board seen.board long);
      without_seat =
          λ none s le.
          said.without_seat (no_list mine theirs none).0 s le
          ∙ sym (joined_other theirs 0 saw.board seen.board s s long (start s) (unnamed s (no_list mine theirs none).1));
    }
  where
    long : length saw.board ≡ length seen.board
    long = sym says.long ∙ said.long

    unnamed : (s : ℕ) → theirs ≡ [] → names theirs s ≡ false
    unnamed s none = ap (λ (l : List ℕ). names l s) none

    in_mine : (s : ℕ) → names theirs s ≡ false → names (mine ++ theirs) s ≡ true → names mine s ≡ true
    in_mine s out e = ⊎_elim (λ (x : names mine s ≡ true). x) (λ (x : names theirs s ≡ true). absurd (true≢false (sym x ∙ out))) (named_either mine theirs s e)

    own : (s : ℕ) (b : Bool) → names theirs s ≡ b → names (mine ++ theirs) s ≡ true → slice_get now.board s ≡ slice_get (states_joined theirs 0 saw.board seen.board) s
    own s true t e = says.own s t ∙ sym (joined_named theirs 0 saw.board seen.board s s long (start s) t)
    own s false t e = said.own s (in_mine s t e) ∙ sym (joined_other theirs 0 saw.board seen.board s s long (start s) t)

    every : (s : ℕ) (state : State) (b : Bool) → names theirs s ≡ b → slice_get (states_joined theirs 0 saw.board seen.board) s ≡ Some state → IsSomeAnd (slice_get now.board s) (StateGoesOn state)
    every s state true t e = same_goes_on (slice_get now.board s) state (says.own s t ∙ sym (joined_named theirs 0 saw.board seen.board s s long (start s) t) ∙ e)
    every s state false t e = said.every s state (sym (joined_other theirs 0 saw.board seen.board s s long (start s) t) ∙ e)

-- the streams of one pass become another's
abbrev moved : ℕ → ℕ → (ℕ → ℕ) → ℕ → ℕ
moved other pass owner s = if owner s == other then pass else owner s

moved_over : (other pass : ℕ) (owner : ℕ → ℕ) (s : ℕ) → owner s ≡ other → moved other pass owner s ≡ pass
moved_over other pass owner s e = ap (λ (b : Bool). if b then pass else owner s) (eq-eqb (owner s) other e)

moved_not : (other pass : ℕ) (owner : ℕ → ℕ) (s q : ℕ) → owner s ≡ q → q ≢ other → moved other pass owner s ≡ q
moved_not other pass owner s q e ne = by (owner s == other) refl
  where
    by : (b : Bool) → (owner s == other) ≡ b → (if b then pass else owner s) ≡ q
    by true same = absurd (ne (sym e ∙ eqb-true (owner s) other same))
    by false same = e

-- a pass that holds nothing takes the streams of another that holds nothing
pub merges : (pass : ℕ) (v : Knows) (other : ℕ) (w : Knows) (mine theirs : Laid) → v.seen ≡ Some mine → v.holds ≡ false → w.seen ≡ Some theirs → w.holds ≡ false
    → Merges OneBoard pass v other w (joined_knowing v w) spent_view
merges pass v other w mine theirs my my_down their their_down items views h at apart at_other =
    record {
      now = h.now;
      owner = owner;
      place = ⊎_elim (λ p. inl (free p)) (λ p. inr (held p)) h.place;
      each = over (IsPassOf owner h.now) both spent (λ q u e here there. record { own = λ s name. moved_not other pass h.owner s q ((h.each q u e).own s name) there; says = (h.each q u e).says; told = (h.each q u e).told });
    }
  where
    owner : ℕ → ℕ
    owner = moved other pass h.owner

    before : get_elem? views other ≡ some w
    before = sym (set_else views pass other (joined_knowing v w) apart) ∙ at_other

    -- a fact of each pass, from the two and the others
    over : (P : ℕ → Knows → Type 0) → P pass (joined_knowing v w) → P other spent_view
        → ((q : ℕ) (u : Knows) → get_elem? views q ≡ some u → q ≢ pass → q ≢ other → P q u) → EachPass P (set (set views pass (joined_knowing v w)) other spent_view)
    over P one two others =
        each_set P (set views pass (joined_knowing v w)) other spent_view two
        (λ q u ne e.
        ⊎_elim (λ (x : (q ≡ pass) × (joined_knowing v w ≡ u)). subst (λ (y : ℕ × Knows). P y.0 y.1) (λ i. (sym x.0 i, x.1 i)) one)
        (λ (x : (q ≢ pass) × (get_elem? views q ≡ some u)). others q u x.1 x.0 ne) (at_set views pass q (joined_knowing v w) u e))

    -- there is a board, since one of them saw it
    says : (now : Option Laid) → SaysOf v now → SaysOf w now → SaysOf (joined_knowing v w) now
    says None one two = let no : Some mine ≡ None = sym my ∙ one.1 in absurd cc
    says (Some now) one two =
        let so : IsSaid v.streams mine now = subst (λ (o : Option Laid). MatchOption o (v.streams ≡ []) (λ seen. IsSaid v.streams seen now)) my one in
        let too : IsSaid w.streams theirs now = subst (λ (o : Option Laid). MatchOption o (w.streams ≡ []) (λ seen. IsSaid w.streams seen now)) their two in
        let as_one : IsSaid (v.streams ++ w.streams) (with_states w.streams (Some theirs) mine) now = said_together v.streams w.streams mine theirs now so too in
        subst (λ (o : Option Laid). MatchOption (option_map {T = Laid} (with_states w.streams o) v.seen) (v.streams ++ w.streams ≡ []) (λ seen. IsSaid (v.streams ++ w.streams) seen now)) (sym their)
        (subst (λ (o : Option Laid). MatchOption (option_map {T = Laid} (with_states w.streams (Some theirs)) o) (v.streams ++ w.streams ≡ []) (λ seen. IsSaid (v.streams ++ w.streams) seen now)) (sym my) as_one)

    told : (now : Option Laid) → SaysOf v now → SaysOf w now → ToldOf v now → ToldOf w now → ToldOf (joined_knowing v w) now
    told None one two mine_told their_told = let no : Some mine ≡ None = sym my ∙ one.1 in absurd cc
    told (Some now) one two mine_told their_told = from_joined v w now (from_boards v now one mine_told) (from_boards w now two their_told)

    both : IsPassOf owner h.now pass (joined_knowing v w)
    both =
        record {
          own =
              λ s e.
              ⊎_elim (λ (x : names v.streams s ≡ true). moved_not other pass h.owner s pass ((h.each pass v at).own s x) (λ same. apart (sym same)))
              (λ (x : names w.streams s ≡ true). moved_over other pass h.owner s ((h.each other w before).own s x)) (named_either v.streams w.streams s e);
          says = says h.now (h.each pass v at).says (h.each other w before).says;
          told = told h.now (h.each pass v at).says (h.each other w before).says (h.each pass v at).told (h.each other w before).told;
        }

    nothing : (now : Option Laid) → SaysOf spent_view now
    nothing None = (refl, refl)
    nothing (Some now) = refl

    spent : IsPassOf owner h.now other spent_view
    spent = record { own = λ s e. absurd (true≢false (sym e)); says = nothing h.now; told = told_nothing spent_view h.now refl }

    free : IsBoardFree items views h.now → IsBoardFree items (set (set views pass (joined_knowing v w)) other spent_view) h.now
    free p = record { board = p.board; is = p.is; item = p.item; none = over (λ q u. u.holds ≡ false) my_down refl (λ q u e here there. p.none q u e) }

    held : IsHeld items views h.now → IsHeld items (set (set views pass (joined_knowing v w)) other spent_view) h.now
    held p =
        record {
          empty = p.empty;
          holder = p.holder;
          view = p.view;
          there = set_else (set views pass (joined_knowing v w)) other p.holder spent_view not_other ∙ set_else views pass p.holder (joined_knowing v w) not_pass ∙ p.there;
          holds = p.holds;
          seen = p.seen;
          alone = over (λ q u. u.holds ≡ true → q ≡ p.holder) (λ e. absurd (true≢false (sym e ∙ my_down))) (λ e. absurd (true≢false (sym e))) (λ q u e here there. p.alone q u e);
        }
      where
        not_pass : p.holder ≢ pass
        not_pass same =
            let is : p.view ≡ v = some-injective p.view v (sym p.there ∙ ap (get_elem? views) same ∙ at) in
            true≢false (sym p.holds ∙ ap (λ (u : Knows). u.holds) is ∙ my_down)

        not_other : p.holder ≢ other
        not_other same =
            let is : p.view ≡ w = some-injective p.view w (sym p.there ∙ ap (get_elem? views) same ∙ before) in
            true≢false (sym p.holds ∙ ap (λ (u : Knows). u.holds) is ∙ their_down)

pub merges_some : (pass : ℕ) (v : Knows) (other : ℕ) (w : Knows) → IsSome v.seen → v.holds ≡ false → IsSome w.seen → w.holds ≡ false → Merges OneBoard pass v other w (joined_knowing v w) spent_view
merges_some pass v other w my my_down their their_down = one v.seen refl my
  where
    two : (mine : Laid) → v.seen ≡ Some mine → (o : Option Laid) → w.seen ≡ o → IsSome o → Merges OneBoard pass v other w (joined_knowing v w) spent_view
    two mine e None at h = absurd (true≢false (sym h))
    two mine e (Some theirs) at h = merges pass v other w mine theirs e my_down at their_down

    one : (o : Option Laid) → v.seen ≡ o → IsSome o → Merges OneBoard pass v other w (joined_knowing v w) spent_view
    one None e h = absurd (true≢false (sym h))
    one (Some mine) e h = two mine e w.seen refl their
