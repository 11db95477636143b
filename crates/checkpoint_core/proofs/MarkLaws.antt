-- How far tables are copied, by the parts of a checkpoint.
use Rattle.std.proofs.Common.{◌≡◌, ◌≢◌, ◌==◌, ℕ, ◌+◌, ◌<◌, ◌≤◌, ◌⊎◌, inl, inr, cond, List, length, Option, Some, None, slice_get, refl, sym, ap, subst, ◌∙◌, arith}
use Rattle.std.proofs.lemmas.Bool.{ne_eqb, cases_lt, le-ltb}
use Rattle.std.proofs.lemmas.Option.{same_Some, none-some}
use borrow.Author.Tests.{eq-eqb}
use Rattle.std.specs.Prelude.{IfSome}
use Rattle.filter_rule.specs.PlanValue.{PlanValue}
use Rattle.pk_copy.specs.KeyValue.{KeyValue}
use Rattle.pk_copy.specs.Lastpk.{IsTableKey}
use Rattle.pk_copy.specs.Marks.{MarkValue, waiting, up_to, copied, Marks, current_mark, mark_of}
use Rattle.vevent.specs.declared.checkpoint_part.TableMark.TheVariants as kinds
use Rattle.vevent.specs.CheckpointPart.{TablePartValue, mark_of_number}
use Rattle.checkpoint_laws.specs.Written.{number_of_mark}
use Rattle.std.proofs.lemmas.Option.{slice_get_within}
use Rattle.checkpoint_laws.proofs.OneThing.{done_at}
use Rattle.list_laws.proofs.Places.{place_of}
use Rattle.checkpoint_core.specs.declared.marks.MarkRead.{MarkRead}
use Rattle.checkpoint_core.specs.declared.marks.MarkRead.TheVariants.{Waiting, Upto, Done}
use Rattle.checkpoint_core.specs.Private.Reading.{mark_read, IsOfPlan, SaysMark, IsOpenAt, IsMarkedMore, AreMarksBefore, AreMarksOf}

-- ---- the mark of one table

-- ---- a number as a mark

-- a number that is none of a mark
pub no_number : (n : ℕ) (mark : MarkValue) → None ≡ mark_of_number n → n ≡ number_of_mark mark → ⊥
no_number n waiting none e = none-some kinds.Waiting (none ∙ ap mark_of_number e)
no_number n (up_to key) none e = none-some kinds.Upto (none ∙ ap mark_of_number e)
no_number n copied none e = none-some kinds.Done (none ∙ ap mark_of_number e)

-- ---- marks of tables

current_at : (m : Marks) (t : ℕ) → t ≡ m.done → mark_of m t ≡ current_mark m.upto
current_at m t is =
    ap (λ b. cond b copied (cond (t == m.done) (current_mark m.upto) waiting)) (le-ltb t m.done (omega (arith, is)))
    ∙ ap (λ b. cond b (current_mark m.upto) waiting) (eq-eqb t m.done is)

-- from its first table without a mark on, marks are waiting
open_at : (m : Marks) (t : ℕ) → IsOpenAt t m → mark_of m t ≡ waiting
open_at m t at = elim (cases_lt m.done t) [
  | inl less ↦ (
      ap (λ b. cond b copied (cond (t == m.done) (current_mark m.upto) waiting)) (le-ltb t m.done (omega (arith, less)))
      ∙ ap (λ b. cond b (current_mark m.upto) waiting) (ne_eqb t m.done (λ e. omega (arith, less, e))))
  | inr most ↦ (
      let within : m.done ≤ t = at.within in
      let is : t ≡ m.done = omega (arith, most, within) in
      current_at m t is ∙ ap current_mark (at.unmarked (sym is)))
]

-- and so of every table behind it
open_behind : (m : Marks) (t u : ℕ) → IsOpenAt t m → t ≤ u → mark_of m u ≡ waiting
open_behind m t u at most = open_at m u (record {
  are = at.are;
  within = omega (arith, at.within, most);
  unmarked = λ e. at.unmarked (omega (arith, e, at.within, most));
})

-- ---- marks of the first tables

pub none_yet : (plan : PlanValue) (tables : List TablePartValue) (m : Marks) → m ≡ record { tables = length plan.tables; done = 0; upto = None } → AreMarksBefore plan tables 0 m
none_yet plan tables m is = record {
  reached = omega arith;
  count = ap (λ (m : Marks). m.tables) is;
  upto = subst (λ (m : Marks). IfSome m.upto (IsTableKey plan)) (sym is) tt;
  behind = subst (IsOpenAt 0) (sym is) (record { are = record { within = omega arith; current = tt }; within = omega arith; unmarked = λ e. refl });
  each_table = λ t part there less. absurd (omega (arith, less));
}

key_more : (plan : PlanValue) (mark : MarkValue) (old new : Option KeyValue) → IfSome old (IsTableKey plan) → ((last : KeyValue) → mark ≡ up_to last → IsTableKey plan last)
    → ((last : KeyValue) → new ≡ Some last → (old ≡ Some last) ⊎ (mark ≡ up_to last)) → IfSome new (IsTableKey plan)
key_more plan mark old None kept keyed key = tt
key_more plan mark old (Some last) kept keyed key = elim (key last refl) [
  | inl same ↦ subst (λ (o : Option KeyValue). IfSome o (IsTableKey plan)) same kept
  | inr its ↦ keyed last its
]

-- the key of a mark that is read is one of its table
pub key_read : (plan : PlanValue) (mark : MarkRead) → IsOfPlan plan mark → (last : KeyValue) → mark_read mark ≡ up_to last → IsTableKey plan last
key_read plan Waiting h last e = let n : 0 ≡ 1 = ap number_of_mark e in absurd (omega (arith, n))
key_read plan (Upto key) h last e = let same : key ≡ last = cc in subst (IsTableKey plan) same h
key_read plan Done h last e = let n : 2 ≡ 1 = ap number_of_mark e in absurd (omega (arith, n))

pub one_more : (plan : PlanValue) (tables : List TablePartValue) (t : ℕ) (part : TablePartValue) (mark : MarkValue) (old new : Marks) → slice_get tables t ≡ Some part → SaysMark plan t mark part
    → ((last : KeyValue) → mark ≡ up_to last → IsTableKey plan last)
    → AreMarksBefore plan tables t old → IsMarkedMore t mark old new → AreMarksBefore plan tables (t + 1) new
one_more plan tables t part mark old new there says keyed before more = record {
  reached = let inside : t < length tables = slice_get_within tables t part there in omega (arith, inside);
  count = more.count ∙ before.count;
  upto = key_more plan mark old.upto new.upto before.upto keyed more.key;
  behind = more.behind;
  each_table = λ i other here less. elim (cases_lt i t) [
    | inl earlier ↦ subst (λ (m : MarkValue). SaysMark plan i m other) (sym (more.before i earlier)) (before.each_table i other here earlier)
    | inr later ↦ (
        let is : t ≡ i = omega (arith, less, later) in
        let same : part ≡ other = same_Some part other (sym there ∙ ap (slice_get tables) is ∙ here) in
        subst (λ (i : ℕ). SaysMark plan i (mark_of new i) other) is
        (subst (SaysMark plan t (mark_of new t)) same
        (subst (λ (m : MarkValue). SaysMark plan t m part) (sym more.here) says)))
  ];
}

pub all_marked : (plan : PlanValue) (tables : List TablePartValue) (t : ℕ) (m : Marks) → length tables ≤ t → AreMarksBefore plan tables t m → AreMarksOf plan tables m
all_marked plan tables t m all before = record {
  count = before.count;
  are = before.behind.are;
  upto = before.upto;
  each_table = λ i part there. before.each_table i part there (let inside : i < length tables = slice_get_within tables i part there in omega (arith, inside, all));
  further = λ u most. open_behind m t u before.behind (omega (arith, most, before.reached));
}

-- ---- marks out of order

not_copied : (o : Option KeyValue) → number_of_mark (current_mark o) ≡ 2 → ⊥
not_copied None e = omega (arith, e)
not_copied (Some key) e = omega (arith, e)

-- behind a table that isn't done another one isn't marked
marked_late : (other : Marks) (t done : ℕ) → done < t → mark_of other t ≢ waiting → mark_of other done ≡ copied
marked_late other t done less marked = elim (cases_lt done other.done) [
  | inl early ↦ done_at other done early
  | inr late ↦ absurd (marked (
      ap (λ b. cond b copied (cond (t == other.done) (current_mark other.upto) waiting)) (le-ltb t other.done (omega (arith, less, late)))
      ∙ ap (λ b. cond b (current_mark other.upto) waiting) (ne_eqb t other.done (λ e. omega (arith, e, less, late)))))
]

same_waiting : (plan : PlanValue) (t : ℕ) (one other : MarkValue) (part : TablePartValue) → one ≢ waiting → SaysMark plan t one part → SaysMark plan t other part → other ≢ waiting
same_waiting plan t waiting other part marked h k = λ e. marked refl
same_waiting plan t (up_to key) other part marked h k = λ e. let n : 1 ≡ 0 = sym h.number ∙ k.number ∙ ap number_of_mark e in omega (arith, n)
same_waiting plan t copied other part marked h k = λ e. let n : 2 ≡ 0 = sym h.number ∙ k.number ∙ ap number_of_mark e in omega (arith, n)

at_before : {A : Type 0} (xs : List A) (t i : ℕ) (x : A) → slice_get xs t ≡ Some x → i < t → (y : A) × (slice_get xs i ≡ Some y)
at_before xs t i x there less =
    let inside : t < length xs = slice_get_within xs t x there in
    place_of xs i (omega (arith, less, inside))

pub out_of_order : (plan : PlanValue) (tables : List TablePartValue) (t : ℕ) (part : TablePartValue) (mark : MarkValue) (old : Marks) → slice_get tables t ≡ Some part → SaysMark plan t mark part → mark ≢ waiting
    → AreMarksBefore plan tables t old → old.done < t → (other : Marks) → AreMarksOf plan tables other → ⊥
out_of_order plan tables t part mark old there says marked before less other h =
    let done : ℕ = old.done in
    let late : mark_of other t ≢ waiting = same_waiting plan t mark (mark_of other t) part marked says (h.each_table t part there) in
    let copy : mark_of other done ≡ copied = marked_late other t done less late in
    let here : (x : TablePartValue) × (slice_get tables done ≡ Some x) = at_before tables t done part there less in
    let mine : SaysMark plan done (mark_of old done) here.0 = before.each_table done here.0 here.1 less in
    let its : SaysMark plan done (mark_of other done) here.0 = h.each_table done here.0 here.1 in
    not_copied old.upto (ap number_of_mark (sym (current_at old done refl)) ∙ sym mine.number ∙ its.number ∙ ap number_of_mark copy)
