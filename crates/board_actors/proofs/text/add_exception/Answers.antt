use Rattle.std.proofs.Common.{append_assoc, arith}
use Rattle.wind_machine.specs.Text.{exception_text}
use Rattle.board_actors.proofs.text.add_exception.Goals as goal

pub returns : goal.returns
unfolding exception_text
returns c = record {
  bytes = rw (c.add_place.ensures.bytes, c.add_cause.ensures.bytes, c.bytes.ensures.value) (simp append_assoc);
  room = omega (arith, c.add_place.ensures.room, c.add_cause.ensures.room);
  space = omega (arith, c.add_place.ensures.space, c.add_cause.ensures.space);
}
