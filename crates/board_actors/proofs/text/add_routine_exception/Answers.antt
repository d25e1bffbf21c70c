use Rattle.std.proofs.Common.{append_assoc, arith}
use Rattle.wind_machine.specs.Text.{routine_text}
use Rattle.board_actors.proofs.text.add_routine_exception.Goals as goal

pub returns : goal.returns
unfolding routine_text
returns c = record {
  bytes = rw (c.add_level.ensures.bytes, c.add_cause.ensures.bytes) (simp append_assoc);
  room = omega (arith, c.add_level.ensures.room, c.add_cause.ensures.room);
  space = omega (arith, c.add_level.ensures.space, c.add_cause.ensures.space);
}
