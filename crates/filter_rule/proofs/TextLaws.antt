-- The texts of a document are UTF-8, and the numbers of its types have 32 bits.
use Rattle.std.proofs.Common.{◌≡◌, ℕ, ◌<◌, List, [], ◌∷◌, Bool, true, false, cond, Option, Some, None, Ok, Err, refl, sym, ap, subst, ◌∙◌, arith}
use Rattle.std.specs.Prelude.{◌^◌, nat_lt, find, IsUtf8}
use Rattle.std.specs.List.{list_all}
use Rattle.std.specs.Option.{option_and_then, option_map, ok_or}
use Rattle.std.specs.Str.{bytes_eq, is_utf8}
use Rattle.std.proofs.lemmas.Bool.{and_parts}
use Rattle.std.proofs.lemmas.Bool.Decides.{nat_tests}
use Rattle.std.proofs.lemmas.Option.{same_Some}
use Rattle.serde_json.specs.Data.{Data}
use Rattle.serde_json.specs.Find.{as_str, as_number, as_u64}
use Rattle.filter_rule.specs.Document.{found, in_utf8, text_of, member_in, text_in, is_name, name_of, in_32_bits, type_by, type_said, pair_of, column_of}
use Rattle.filter_rule.specs.Faults.{shape}
use Rattle.row_view.specs.FieldValue.{FieldValue}
use Rattle.filter_rule.specs.TypeNumbers.{TypeName, type_names, type_of_name}
use Rattle.filter_rule.specs.WellFormed.{IsColumnDef}
use Rattle.filter_rule.proofs.StepLaws.{then_ok, read_as, same_ok, some_from_ok}
use Rattle.filter_rule.proofs.Utf8Laws.{utf8_test}

-- ---- texts

pub utf8_text : (s : List ℕ) → IsUtf8 s → in_utf8 s ≡ Some s
utf8_text s utf8 = ap (λ b. cond b (Some s) None) (utf8_test s utf8)

pub text_read : (d : Data) (s r : List ℕ) → Some s ≡ as_str d → in_utf8 s ≡ Some r → text_of d ≡ Ok r
text_read d s r is utf8 = ap (λ o. found {A = List ℕ} (option_and_then in_utf8 o)) (sym is) ∙ ap (found {A = List ℕ}) utf8

kept_at : (b : Bool) (t s : List ℕ) → is_utf8 t ≡ b → ok_or (cond b (Some t) None) shape ≡ Ok s → is_utf8 s ≡ true
kept_at true t s is h = subst (λ x. is_utf8 x ≡ true) (same_ok t s h) is
kept_at false t s is h = cc

text_at : (o : Option (List ℕ)) (s : List ℕ) → ok_or (option_and_then in_utf8 o) shape ≡ Ok s → is_utf8 s ≡ true
text_at None s h = cc
text_at (Some t) s h = kept_at (is_utf8 t) t s refl h

text_is : (d : Data) (s : List ℕ) → text_of d ≡ Ok s → is_utf8 s ≡ true
text_is d s h = text_at (as_str d) s h

pub text_in_is : (key : List ℕ) (d : Data) (s : List ℕ) → text_in key d ≡ Ok s → is_utf8 s ≡ true
unfolding text_in
text_in_is key d s h = then_ok _ (member_in key d) s h (λ v v_is h1. text_is v s h1)

named_kept : (b : Bool) (s n : List ℕ) → cond b (read_as s) (Err shape) ≡ Ok n → s ≡ n
named_kept true s n h = same_ok s n h
named_kept false s n h = cc

pub name_text : (d : Data) (n : List ℕ) → name_of d ≡ Ok n → is_utf8 n ≡ true
unfolding name_of
name_text d n h = then_ok _ (text_of d) n h (λ s s_is h1. subst (λ x. is_utf8 x ≡ true) (named_kept (is_name s) s n h1) (text_is d s s_is))

-- ---- types

abbrev has_32_bits : ℕ → Bool
has_32_bits n = nat_lt n (2 ^ 32)

first_found : {A : Type 0} (b : Bool) (q : A → Bool) (y x : A) (rest : Option A) → q y ≡ true → (rest ≡ Some x → q x ≡ true) → cond b (Some y) rest ≡ Some x → q x ≡ true
first_found true q y x rest here later h = subst (λ z. q z ≡ true) (same_Some y x h) here
first_found false q y x rest here later h = later h

all_found : {A : Type 0} (p q : A → Bool) (xs : List A) (x : A) → list_all q xs ≡ true → find p xs ≡ Some x → q x ≡ true
all_found p q [] x all h = cc
all_found p q (y ∷ ys) x all h =
    let parts = and_parts (q y) (list_all q ys) all in
    first_found (p y) q y x (find p ys) parts.0 (λ e. all_found p q ys x parts.1 e) h

numbered : (o : Option TypeName) (n : ℕ) → ((t : TypeName) → o ≡ Some t → has_32_bits t.number ≡ true) → option_map (λ t. t.number) o ≡ Some n → has_32_bits n ≡ true
numbered None n all h = cc
numbered (Some t) n all h = subst (λ m. has_32_bits m ≡ true) (same_Some t.number n h) (all t refl)

named_bits : (name : List ℕ) (n : ℕ) → type_of_name name ≡ Some n → has_32_bits n ≡ true
named_bits name n h =
    numbered (find (λ t. bytes_eq name t.name) type_names) n (λ t is. all_found (λ t. bytes_eq name t.name) (λ t. has_32_bits t.number) type_names t refl is) h

bit_kept : (b : Bool) (m n : ℕ) → has_32_bits m ≡ b → cond b (Some m) None ≡ Some n → has_32_bits n ≡ true
bit_kept true m n is h = subst (λ x. has_32_bits x ≡ true) (same_Some m n h) is
bit_kept false m n is h = cc

bits_kept : (o : Option ℕ) (n : ℕ) → option_and_then in_32_bits o ≡ Some n → has_32_bits n ≡ true
bits_kept None n h = cc
bits_kept (Some m) n h = bit_kept (has_32_bits m) m n refl h

type_bits_by : (o : Option (List ℕ)) (d : Data) (n : ℕ) → type_by o d ≡ Ok n → has_32_bits n ≡ true
type_bits_by (Some name) d n h = named_bits name n (some_from_ok (type_of_name name) shape n h)
type_bits_by None d n h =
    let number = option_and_then as_u64 (as_number d) in
    bits_kept number n (some_from_ok (option_and_then in_32_bits number) shape n h)

below : (n : ℕ) → has_32_bits n ≡ true → n < 2 ^ 32
below n h = grind (arith, nat_tests)

type_bits : (d : Data) (n : ℕ) → type_said d ≡ Ok n → n < 2 ^ 32
unfolding type_said
type_bits d n h = below n (type_bits_by (as_str d) d n h)

pub column_def : (d : Data) (c : FieldValue) → column_of d ≡ Ok c → IsColumnDef c
unfolding column_of
column_def d c h =
    then_ok _ (pair_of d) c h (λ p p_is h1. then_ok _ (name_of p.0) c h1 (λ name name_is h2. then_ok _ (type_said p.1) c h2 (λ number number_is h3.
    subst IsColumnDef (same_ok (record { name = name; type_number = number }) c h3)
    (record { name_text = name_text p.0 name name_is; type_bits = type_bits p.1 number number_is }))))
