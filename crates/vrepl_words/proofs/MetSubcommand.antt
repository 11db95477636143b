-- The subcommand that was met, with what was given to its arguments.
use Rattle.std.proofs.Common.{◌≡◌, ◌∙◌, ap₂, refl, List, Bool, true, false, Option, Some, None, option_map}
use Rattle.std.specs.Bool.{Decides}
use Rattle.std.specs.Str.{bytes_eq}
use Rattle.std.proofs.lemmas.Slice.Eq.{bytes_eq-Decides}
use Rattle.clap.specs.Words.{Row, Text, subcommand_name_of, subcommand_rows_of}
use Rattle.clap.specs.declared.parser.matches.ArgMatches.{ArgMatches}
use Rattle.clap.specs.declared.parser.matches.ArgMatches.TheViews.{out-ArgMatches}

unmet : {P : Type 0} (test : Bool) → Decides test P → (P → ⊥) → test ≡ false
unmet true d n = absurd (n (d.0 refl))
unmet false d n = refl

pub other_text : (a b : Text) → (a ≡ b → ⊥) → bytes_eq a b ≡ false
other_text a b n = unmet (bytes_eq a b) (bytes_eq-Decides a b) n

paired : {A B : Type 0} (o : Option (A × B)) (a : A) (b : B) → Some a ≡ option_map (λ p. p.0) o → Some b ≡ option_map (λ p. p.1) o → o ≡ Some (a, b)
paired None a b first second = cc
paired (Some p) a b first second =
    let left : p.0 ≡ a = cc in
    let right : p.1 ≡ b = cc in
    ap₂ (λ x y. Some (x, y)) left right

unpaired : {A B : Type 0} (o : Option (A × B)) → None ≡ option_map (λ p. p.1) o → o ≡ None
unpaired None is = refl
unpaired (Some p) is = cc

first_of_pair : {X A B : Type 0} (f : X → A) (g : X → B) (o : Option X) → option_map f o ≡ option_map (λ (p : A × B). p.0) (option_map (λ x. (f x, g x)) o)
first_of_pair f g None = refl
first_of_pair f g (Some x) = refl

name_met : (m : ArgMatches) → subcommand_name_of m ≡ option_map (λ p. p.0) (subcommand_rows_of m)
name_met m = first_of_pair _ _ (out-ArgMatches m).subcommand

pub met : (m : ArgMatches) (name : Text) (given : List Row) → Some name ≡ subcommand_name_of m → Some given ≡ option_map (λ p. p.1) (subcommand_rows_of m)
    → subcommand_rows_of m ≡ Some (name, given)
met m name given is_name is_given = paired (subcommand_rows_of m) name given (is_name ∙ name_met m) is_given

pub none_met : (m : ArgMatches) → None ≡ option_map (λ p. p.1) (subcommand_rows_of m) → subcommand_rows_of m ≡ None
none_met m is = unpaired (subcommand_rows_of m) is
