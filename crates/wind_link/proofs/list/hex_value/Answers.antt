use Rattle.std.proofs.Common.{length, arith}
use Rattle.wind_link.proofs.Naming.{small_value}
use Rattle.wind_link.proofs.list.hex_value.Goals as goal

pub overflow_mul-value : goal.overflow_mul-value
overflow_mul-value c =
    let small = small_value c.loop-byte.value c.loop-byte.byte-index (length c.args.digits.now) c.loop-byte.invariant.small c.loop-byte-test.true c.requires.few in
    omega (arith, small)

pub overflow_add-value : goal.overflow_add-value
overflow_add-value c =
    let small = small_value c.loop-byte.value c.loop-byte.byte-index (length c.args.digits.now) c.loop-byte.invariant.small c.loop-byte-test.true c.requires.few in
    omega (arith, small, c.from.ensures, c.hex_digit.ensures.small)
