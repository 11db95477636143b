use Rattle.std.proofs.Common.{◌%◌, ◌∙◌, bit_and, arith}
use Rattle.std.proofs.lemmas.Simd.{zip2_splat}
use Rattle.printing.proofs.DigitLanes.{low_ok, looked_up, masked}
use Rattle.printing.proofs.gathered.low_digits.Goals as goal

pub swizzle : goal.swizzle
swizzle c = low_ok c.args.bytes c.fits-bytes

pub returns : goal.returns
returns c =
    let v = c.args.bytes in
    looked_up (λ x. x % 16) v _ c.fits-bytes (zip2_splat bit_and v 16 15 c.fits-bytes.0 ∙ masked v) (λ x h. omega arith)
