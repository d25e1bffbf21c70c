use Rattle.std.proofs.Common.{append_assoc, arith}
use Rattle.wind_machine.specs.Text.{syntax_text}
use Rattle.board_actors.proofs.text.add_syntax.Goals as goal

pub returns : goal.returns
unfolding syntax_text
returns c = record {
  bytes = rw (c.add-2.ensures.bytes, c.add_decimal.ensures.bytes, c.add.ensures.bytes) (simp append_assoc);
  room = omega (arith, c.add-2.ensures.room, c.add_decimal.ensures.room, c.add.ensures.room);
  space = omega (arith, c.add-2.ensures.space, c.add_decimal.ensures.space, c.add.ensures.space);
}
