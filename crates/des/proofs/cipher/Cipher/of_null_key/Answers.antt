use Rattle.des.proofs.KeyHalves.{null_words}
use Rattle.des.proofs.cipher.Cipher.of_null_key.Goals as goal

pub invariant_of-result : goal.invariant_of-result
invariant_of-result c = null_words
