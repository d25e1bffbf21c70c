use Rattle.std.proofs.Common.{append_assoc, arith}
use Rattle.live_loading.proofs.text.add_numbered.Goals as goal

pub returns : goal.returns
returns c = record {
  bytes = rw (c.add-2.ensures.bytes, c.add_decimal.ensures.bytes, c.add.ensures.bytes) (simp append_assoc);
  room = omega (arith, c.add-2.ensures.room, c.add_decimal.ensures.room, c.add.ensures.room, c.requires.words);
  space = omega (arith, c.add-2.ensures.space, c.add_decimal.ensures.space, c.add.ensures.space);
}
