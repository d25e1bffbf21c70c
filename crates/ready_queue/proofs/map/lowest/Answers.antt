use Rattle.std.proofs.Common.{arith}
use Rattle.std.specs.Int.{w32}
use Rattle.std.proofs.lemmas.Nat.Bits.{bit_at-trailing_zeros}
use Rattle.ready_queue.proofs.map.lowest.Goals as goal

pub returns-else-word-eq0 : goal.returns-else-word-eq0
returns-else-word-eq0 c = bit_at-trailing_zeros w32 c.args.word (omega (arith, c.if-word-eq0.false)) c.ranges.word.fits
