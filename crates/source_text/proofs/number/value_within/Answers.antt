use Rattle.std.proofs.Common.{arith}
use Rattle.source_text.proofs.Digits.{made_great}
use Rattle.source_text.proofs.number.value_within.Goals as goal

pub returns-then-value : goal.returns-then-value
returns-then-value c = made_great c.args.radix c.loop-byte.value c.loop-byte.byte-index c.args.digits.now (omega arith) (omega arith) (omega (arith, c.digit.ensures.value)) c.loop-byte.invariant.rest
