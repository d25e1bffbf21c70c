use Rattle.std.proofs.Common.{arith}
use Rattle.wind_base.proofs.Hex.{hex_word}
use Rattle.wind_base.proofs.text.add_hex.Goals as goal

pub returns : goal.returns
returns c = record {
  bytes = rw (c.add_digits.ensures.bytes, hex_word c.args.v (omega arith));
  room = c.add_digits.ensures.room;
  space = c.add_digits.ensures.space;
}
