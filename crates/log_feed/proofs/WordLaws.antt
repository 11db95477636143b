-- Words of a text, one byte further.
use Rattle.std.proofs.Common.{◌≡◌, ℕ, Bool, true, false, List, ◌∷◌, refl, sym, ◌∙◌}
use Rattle.std.proofs.lemmas.List.{nil_from_length}
use Rattle.std.specs.Prelude.{length}
use Rattle.log_feed.specs.Words.{is_name_byte, stands_here, has_word_from, is_blank, without_blanks}

pub word-here : (inside : Bool) (word text rest : List ℕ) (b : ℕ) (all : Bool) → text ≡ b ∷ rest → stands_here inside word text ≡ true → has_word_from inside word text ≡ all → true ≡ all
unfolding has_word_from
word-here inside word text rest b all is here seen = sym (rw is (rw (rw is at here) refl)) ∙ seen

pub word-further : (inside next : Bool) (word text rest : List ℕ) (b : ℕ) (all : Bool) → text ≡ b ∷ rest → stands_here inside word text ≡ false → next ≡ is_name_byte b → has_word_from inside word text ≡ all → has_word_from next word rest ≡ all
unfolding has_word_from
word-further inside next word text rest b all is here byte seen = sym (rw is (rw (rw is at here, byte) refl)) ∙ seen

pub word-nowhere : (inside : Bool) (word text : List ℕ) (all : Bool) → length text ≡ 0 → has_word_from inside word text ≡ all → false ≡ all
unfolding has_word_from
word-nowhere inside word text all none seen = sym (rw (nil_from_length text none) refl) ∙ seen

pub blank-further : (text rest : List ℕ) (b : ℕ) (all : List ℕ) → text ≡ b ∷ rest → is_blank b ≡ true → without_blanks text ≡ all → without_blanks rest ≡ all
unfolding without_blanks
blank-further text rest b all is blank seen = sym (rw is (rw blank refl)) ∙ seen

pub blank-end : (text rest : List ℕ) (b : ℕ) (all : List ℕ) → text ≡ b ∷ rest → is_blank b ≡ false → without_blanks text ≡ all → text ≡ all
unfolding without_blanks
blank-end text rest b all is other seen = is ∙ sym (rw is (rw other refl)) ∙ seen

pub blank-none : (text all : List ℕ) → length text ≡ 0 → without_blanks text ≡ all → text ≡ all
unfolding without_blanks
blank-none text all none seen = let is = nil_from_length text none in is ∙ sym (rw is refl) ∙ seen
