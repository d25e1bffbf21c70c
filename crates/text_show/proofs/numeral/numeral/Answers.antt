use Rattle.std.proofs.Common.{arith, lit≤}
use Rattle.text_show.proofs.Digits.{all_digits}
use Rattle.text_show.proofs.numeral.numeral.Goals as goal

pub returns : goal.returns
returns c = rw (c.add_digits.ensures.digits, c.new-text.ensures) (all_digits c.args.base c.args.upper 11 c.args.n (lit≤ tt) (lit≤ tt) (omega arith) c.requires.wide)
