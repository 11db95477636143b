use Rattle.std.proofs.Common.{◌≡◌, ◌∙◌, ap, refl, sym, List, ℕ, Bool, true, false, Option, Some, None, unwrap_or, codes}
use Rattle.std.specs.Bool.{Decides}
use Rattle.std.specs.Option.{option_map_or}
use Rattle.std.specs.Str.{bytes_eq}
use Rattle.std.specs.Str.Parse.{ParsesBool}
use Rattle.std.proofs.lemmas.Slice.Eq.{bytes_eq-Decides}
use Rattle.clap.specs.Words.{ReadsOne, found_of}
use Rattle.clap.proofs.WalkLemmas.{one_text-rows}
use Rattle.vrepl_words.proofs.given.has_flag.Goals as goal

unmet : {P : Type 0} (r : Bool) → Decides r P → (P → ⊥) → r ≡ false
unmet true d n = absurd (n (d.0 refl))
unmet false d n = refl

-- the value of a flag is whether its text is `true`
flag_is : (E : Type 0) (o : Option Bool) (t : Option (List ℕ)) → (t ≡ None → o ≡ None)
    → ((s : List ℕ) → t ≡ Some s → ReadsOne {E = E} ParsesBool s o)
    → unwrap_or o false ≡ option_map_or (bytes_eq (codes "true")) t false
flag_is E o None none value = ap (λ p. unwrap_or p false) (none refl)
flag_is E (Some true) (Some s) none value = ap (bytes_eq (codes "true")) (sym (value s refl))
flag_is E (Some false) (Some s) none value = ap (bytes_eq (codes "true")) (sym (value s refl))
flag_is E None (Some s) none value = sym (unmet (bytes_eq (codes "true") s) (bytes_eq-Decides (codes "true") s) (λ e. (value s refl).1.0 (sym e)))

pub returns : goal.returns
returns c =
    c.unwrap_or.ensures ∙ flag_is _ c.get_one.result _ c.get_one.ensures.none c.get_one.ensures.value
    ∙ ap (λ (t : Option (List ℕ)). option_map_or (bytes_eq (codes "true")) t false) (one_text-rows (found_of c.args.given.now) c.args.name.now)
