use Rattle.std.proofs.Common.{length, ap, arith}
use Rattle.live_loading.proofs.Lines.{line_fits, no_line}
use Rattle.live_loading.proofs.text.line_room.Goals as goal

pub returns-in-Undefined-clause-enough : goal.returns-in-Undefined-clause-enough
returns-in-Undefined-clause-enough c tab = omega (arith, line_fits tab c.args.symbol.now, ap length c.bytes.ensures.value)

pub returns-in_default : goal.returns-in_default
returns-in_default c = record { enough = λ tab. no_line tab c.args.symbol.now c.in_default.not-Undefined; most = omega arith }
