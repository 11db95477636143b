-- What the key schedule has made behind some rounds.
use Rattle.std.specs.Prelude.{◌≡◌, ℕ, suc, ◌^◌, ◌<◌, List, length, slice_index}
use Rattle.des.specs.Des.{key_halves, round_key}
use Rattle.des.specs.Private.Words.{odd_word, even_word}

pub record IsScheduled (key rounds left right : ℕ) (odd even : List ℕ) : Type 0 where
  pub is_left : left ≡ (key_halves key rounds).left
  pub is_right : right ≡ (key_halves key rounds).right
  pub left_fits : left < 2 ^ 28
  pub right_fits : right < 2 ^ 28
  pub odd_length : length odd ≡ 16
  pub even_length : length even ≡ 16
  pub odd_words : (n : ℕ) → n < rounds → slice_index odd n ≡ odd_word (round_key key (suc n))
  pub even_words : (n : ℕ) → n < rounds → slice_index even n ≡ even_word (round_key key (suc n))
