-- The sum is the law's, with 2 ^ m computed once, and a byte with another bit is a byte.
use Rattle.std.proofs.Common.{arith}
use Rattle.put.proofs.PutLaws.{with_bit-code, with_bit-code_lt, power_byte}
use Rattle.put.proofs.with_bit.Goals as goal

pub overflow_cast-result : goal.overflow_cast-result
overflow_cast-result c =
    rw c.from-w.ensures (omega (arith, with_bit-code_lt c.args.x c.args.m c.args.b _ c.ranges.x.fits c.requires (power_byte _ c.requires.0).0))

pub returns : goal.returns
returns c = rw c.from-w.ensures (with_bit-code _ _ _ _ (power_byte _ c.requires.0).0)
