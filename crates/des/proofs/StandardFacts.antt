-- Known answers of the standard's algorithm, so that a wrong table, shift or order in the definition doesn't check.
use Rattle.std.proofs.Common.{◌≡◌, refl}
use Rattle.des.specs.Des.{selected, cipher_function, key_halves, round_key, round_halves, enciphered}

pub under_a_key : enciphered 0x133457799bbcdff1 0x0123456789abcdef ≡ 0x85e813540f0ab405
unfolding selected cipher_function key_halves round_key round_halves enciphered
under_a_key = refl

pub under_the_null_key : enciphered 0 1 ≡ 0x166b40b44aba4bd6
unfolding selected cipher_function key_halves round_key round_halves enciphered
under_the_null_key = refl
