-- The 16 bytes of a uuid's number are read as it.
use Rattle.std.proofs.Common.{◌≡◌, ℕ, ◌+◌, ◌*◌, ◌/◌, ◌%◌, ◌^◌, ◌<◌, arith}
use Rattle.std.specs.Int.{w128, to_be_bytes, from_be_bytes}
use native.Mathlib.Nat as nat

byte_and_rest : (n p : ℕ) → n / p ≡ n / p % 256 + n / (p * 256) * 256
byte_and_rest n p = omega (arith, nat.div-div-eq-div-mul n p 256)

-- eight bytes of a number, each split from what is above it
joined : (a b c d e f g h n p0 p1 p2 p3 p4 p5 p6 rest : ℕ) → n ≡ a + p0 * 256 → p0 ≡ b + p1 * 256 → p1 ≡ c + p2 * 256 → p2 ≡ d + p3 * 256 → p3 ≡ e + p4 * 256 → p4 ≡ f + p5 * 256 → p5 ≡ g + p6 * 256 → p6 ≡ h + rest * 256
    → a + b * 256 + c * 65536 + d * 16777216 + e * 4294967296 + f * 1099511627776 + g * 281474976710656 + h * 72057594037927936 + rest * 18446744073709551616 ≡ n
joined a b c d e f g h n p0 p1 p2 p3 p4 p5 p6 rest at_0 at_1 at_2 at_3 at_4 at_5 at_6 at_7 = omega arith

halves : (a b c d e f g h i j k l s t u v n m : ℕ) → a + b * 256 + c * 65536 + d * 16777216 + e * 4294967296 + f * 1099511627776 + g * 281474976710656 + h * 72057594037927936 + m * 18446744073709551616 ≡ n → i + j * 256 + k * 65536 + l * 16777216 + s * 4294967296 + t * 1099511627776 + u * 281474976710656 + v * 72057594037927936 + 0 * 18446744073709551616 ≡ m
    → v * 1329227995784915872903807060280344576 + u * 5192296858534827628530496329220096 + t * 20282409603651670423947251286016 + s * 79228162514264337593543950336 + l * 309485009821345068724781056 + k * 1208925819614629174706176 + j * 4722366482869645213696 + i * 18446744073709551616 + h * 72057594037927936 + g * 281474976710656 + f * 1099511627776 + e * 4294967296 + d * 16777216 + c * 65536 + b * 256 + a ≡ n
halves a b c d e f g h i j k l s t u v n m low high = omega arith

pub uuid-bytes : (n : ℕ) → n < 2 ^ 128 → from_be_bytes w128 (to_be_bytes w128 n) ≡ n
uuid-bytes n fits =
    let first : n ≡ n % 256 + n / 256 * 256 = omega arith in
    let low = joined _ _ _ _ _ _ _ _ n _ _ _ _ _ _ _ _ first (byte_and_rest n 256) (byte_and_rest n 65536) (byte_and_rest n 16777216) (byte_and_rest n 4294967296) (byte_and_rest n 1099511627776) (byte_and_rest n 281474976710656) (byte_and_rest n 72057594037927936) in
    let top : n / 1329227995784915872903807060280344576 ≡ n / 1329227995784915872903807060280344576 % 256 + 0 * 256 = omega arith in
    let high = joined _ _ _ _ _ _ _ _ (n / 18446744073709551616) _ _ _ _ _ _ _ 0 (byte_and_rest n 18446744073709551616) (byte_and_rest n 4722366482869645213696) (byte_and_rest n 1208925819614629174706176) (byte_and_rest n 309485009821345068724781056) (byte_and_rest n 79228162514264337593543950336) (byte_and_rest n 20282409603651670423947251286016) (byte_and_rest n 5192296858534827628530496329220096) top in
    halves _ _ _ _ _ _ _ _ _ _ _ _ _ _ _ _ n (n / 18446744073709551616) low high
