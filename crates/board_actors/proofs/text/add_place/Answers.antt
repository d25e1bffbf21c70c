use Rattle.std.proofs.Common.{append_assoc, arith}
use Rattle.wind_machine.specs.Text.{place_text}
use Rattle.board_actors.proofs.text.add_place.Goals as goal

pub returns : goal.returns
unfolding place_text
returns c = record {
  bytes = rw (c.add-3.ensures.bytes, c.add_eight_digits.ensures.bytes, c.add-2.ensures.bytes, c.add_hex.ensures.bytes, c.add.ensures.bytes) (simp append_assoc);
  room = omega (arith, c.add-3.ensures.room, c.add_eight_digits.ensures.room, c.add-2.ensures.room, c.add_hex.ensures.room, c.add.ensures.room);
  space = omega (arith, c.add-3.ensures.space, c.add_eight_digits.ensures.space, c.add-2.ensures.space, c.add_hex.ensures.space, c.add.ensures.space);
}
