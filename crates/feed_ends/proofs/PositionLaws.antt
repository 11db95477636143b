-- Positions that are given, and those that their texts say.
use Rattle.std.proofs.Common.{◌≡◌, ℕ, Bool, true, false, List, [], ◌∷◌, ◌++◌, map, Option, None, Some, Result, Ok, Err, refl, ap, subst}
use Rattle.std.specs.Prelude.{cond}
use Rattle.std.specs.Option.{option_or}
use Rattle.std.proofs.lemmas.Option.{none-some, same_Some}
use Rattle.std.specs.Result.{result_ok}
use Rattle.list_laws.specs.Outcome.{◌>>=◌}
use Rattle.gtid_set.specs.declared.fault.GtidFault.{GtidFault}
use Rattle.gtid_set.specs.declared.interval.Interval.{Interval}
use Rattle.gtid_set.specs.Text.{position_of_text}
use Rattle.source_feed.specs.GroupValue.{Position}
use Rattle.vrepl_choices.specs.UntilValue.{UntilValue, until_value}
use Rattle.vrepl_choices.specs.declared.until.Until.{Until}
use Rattle.feed_ends.specs.Faults.{EndReason}
use Rattle.feed_ends.specs.Positions.{end_of, is_of, name_some_of, position_for, read_ends, text_for}
use Rattle.feed_ends.specs.declared.end.End.{End}

-- ---- a loop over the texts, as far as it has come

abbrev pub names_from : ℕ → List Until → Bool
names_from count untils = name_some_of count (map until_value untils)

abbrev pub in_front : List End → Result (List End) EndReason → Result (List End) EndReason
in_front front (Ok ends) = Ok (front ++ ends)
in_front front (Err reason) = Err reason

abbrev pub ends_from : List Until → Result (List End) EndReason
ends_from untils = read_ends (map until_value untils)

-- ---- texts and their positions

abbrev read_before : Result (List End) EndReason → Result End EndReason → Result (List End) EndReason
read_before others one = one >>= λ end. others >>= λ ends. Ok (end ∷ ends)

-- the position is the one that the text says, where there is one
abbrev pub IsSaidBy : Option (List ℕ) → Option Position → Type 0
IsSaidBy None o = o ≡ None
IsSaidBy (Some text) o = (position : Position) × (position_of_text text ≡ Ok position) × (o ≡ Some position)

said_or : (t : Option (List ℕ)) (o : Option Position) (b : Bool) (text : List ℕ) (position : Position) → position_of_text text ≡ Ok position → IsSaidBy t o
    → IsSaidBy (option_or t (cond b (Some text) None)) (option_or o (cond b (Some position) None))
said_or None o true text position is none = (position, is, ap (λ (p : Option Position). option_or p (Some position)) none)
said_or None o false text position is none = ap (λ (p : Option Position). option_or p None) none
said_or (Some other) o b text position is (found, says, same) = (found, says, ap (λ (p : Option Position). option_or p (cond b (Some position) None)) same)

abbrev ok : {A : Type 0} → A → Result A EndReason
ok x = Ok x

never : {P A : Type 0} (reason : EndReason) (x : A) → Err reason ≡ ok x → P
never reason x e = absurd (none-some x (ap result_ok e))

same_ok : {A : Type 0} (x y : A) → ok x ≡ ok y → x ≡ y
same_ok x y e = same_Some x y (ap result_ok e)

pub said_for : (s : ℕ) (untils : List UntilValue) (ends : List End) → read_ends untils ≡ Ok ends → IsSaidBy (text_for s untils) (position_for s ends)
said_for s [] ends e = subst (λ (es : List End). position_for s es ≡ None) (same_ok [] ends e) refl
said_for s (until ∷ later) ends e = by (position_of_text until.position) refl (read_ends later) refl e (λ es are. said_for s later es are)
  where
    by : (r : Result (List Interval) GtidFault) → position_of_text until.position ≡ r → (rs : Result (List End) EndReason) → read_ends later ≡ rs → read_before rs (end_of until.stream r) ≡ Ok ends
        → ((es : List End) → read_ends later ≡ Ok es → IsSaidBy (text_for s later) (position_for s es)) → IsSaidBy (text_for s (until ∷ later)) (position_for s ends)
    by (Err fault) is rs are e rest = never _ ends e
    by (Ok position) is (Err reason) are e rest = never reason ends e
    by (Ok position) is (Ok es) are e rest =
        subst (λ (all : List End). IsSaidBy (text_for s (until ∷ later)) (position_for s all)) (same_ok (record { stream = until.stream; position = position } ∷ es) ends e)
        (said_or (text_for s later) (position_for s es) (is_of s until.stream) until.position position is (rest es are))
