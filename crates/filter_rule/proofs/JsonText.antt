-- The JSON value of a text, by what the reader tells.
use Rattle.std.proofs.Common.{◌≡◌, ◌<◌, ℕ, List, [], ◌∷◌, length, arith, Bool, true, false, cond, true≢false, ◌⊎◌, inl, inr, Option, Some, None, Result, Ok, Err, refl, sym, ap, subst, ◌∙◌}
use Rattle.std.specs.Prelude.{IsUtf8, IfOk, IfErr, OnOk}
use Rattle.std.specs.Option.{ok_or}
use Rattle.std.specs.Str.{is_utf8}
use Rattle.std.proofs.lemmas.Str.{IsUtf8-from_is_utf8}
use Rattle.serde_json.specs.Data.{Data}
use Rattle.serde_json.specs.Read.{read}
use Rattle.filter_rule.specs.Faults.{Fault, Fails, GivesOrFails, json}
use Rattle.filter_rule.specs.declared.fault.PlanFault.{PlanFault}
use Rattle.filter_rule.specs.declared.fault.PlanFault.TheVariants as errors
use Rattle.filter_rule.specs.Reading.{IsNoJson, IsSomeText, json_of}
use Rattle.filter_rule.proofs.Utf8Laws.{utf8_test}
use Rattle.json_laws.proofs.EmptyText.{nothing_read}

pub json_read : (text : List ℕ) (d : Data) → IsUtf8 text → read text ≡ Some d → json_of text ≡ Ok d
unfolding json_of
json_read text d utf8 is = rw (utf8_test text utf8, is) refl

refused_at : (b : Bool) (text : List ℕ) → is_utf8 text ≡ b → (IsUtf8 text → read text ≡ None) → json_of text ≡ Err json
unfolding json_of
refused_at true text e none = rw (e, none (IsUtf8-from_is_utf8 text e)) refl
refused_at false text e none = rw e refl

pub json_refused : (text : List ℕ) → (IsUtf8 text → read text ≡ None) → json_of text ≡ Err json
json_refused text none = refused_at (is_utf8 text) text refl none

unread : (o : Option Data) → ok_or o json ≡ Err json → o ≡ None
unread None is = refl
unread (Some d) is = cc

no_json_at : (b : Bool) (text : List ℕ) → is_utf8 text ≡ b → json_of text ≡ Err json → IsNoJson text
unfolding json_of
no_json_at true text e is utf8 = unread (read text) (sym (ap (λ c. cond c (ok_or (read text) json) (Err json)) e) ∙ is)
no_json_at false text e is utf8 = absurd (true≢false (sym (utf8_test text utf8) ∙ e))

-- a text without a value is no JSON
pub no_json : (text : List ℕ) → json_of text ≡ Err json → IsNoJson text
no_json text is = no_json_at (is_utf8 text) text refl is

some_at : (text : List ℕ) (d : Data) → read text ≡ Some d → 0 < length text
some_at [] d is =
    let both : None ≡ Some d = sym nothing_read ∙ is in
    cc
some_at (b ∷ text) d is = omega arith

-- a text that is read isn't empty
pub some_text : (text : List ℕ) (d : Data) → IsUtf8 text → read text ≡ Some d → IsSomeText text
some_text text d utf8 is = record { utf8 = utf8; some = some_at text d is }

refused_so : (e f : PlanFault) (r : Result Data Fault) → e ≡ f → Fails f r → Fails e r
refused_so e f r same fails = subst (λ g. Fails g r) (sym same) fails

-- a text in UTF-8 gives what is read of it, or the fault
pub value_said : {X : Type 0} (view : X → Data) (text : List ℕ) (result : Result X PlanFault) → IsUtf8 text → IfOk result (λ v. read text ≡ Some (view v))
    → (result ≡ Err errors.Json → read text ≡ None) → IfErr result (λ fault. (fault ≡ errors.Json) ⊎ (fault ≡ errors.Memory)) → GivesOrFails view result (json_of text)
value_said view text (Ok v) utf8 ok none refused = json_read text (view v) utf8 ok
value_said {X} view text (Err e) utf8 ok none refused =
    elim refused [
      | inl is ↦ refused_so e errors.Json (json_of text) is (json_refused text (λ _. none (ap (λ f. Err f) is)))
      | inr is ↦ refused_so e errors.Memory (json_of text) is tt
    ]

-- and isn't empty, where a value is read
pub text_read : {X : Type 0} (view : X → Data) (text : List ℕ) (result : Result X PlanFault) → IsUtf8 text → IfOk result (λ v. read text ≡ Some (view v)) → OnOk result (IsSomeText text)
text_read view text (Ok v) utf8 ok = some_text text (view v) utf8 ok
text_read view text (Err e) utf8 ok = tt
