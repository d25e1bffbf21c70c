use Rattle.std.proofs.Common.{arith}
use Rattle.debug_wire.proofs.Digits.{made_great}
use Rattle.debug_wire.proofs.number.value_of.Goals as goal

pub returns-then-value : goal.returns-then-value
returns-then-value c = made_great c.loop-byte.value c.loop-byte.byte-index c.args.digits.now (omega arith) (omega (arith, c.digit.ensures.value)) c.loop-byte.invariant.rest
