use Rattle.std.proofs.Common.{append_assoc, arith}
use Rattle.wind_machine.specs.Text.{cause_text}
use Rattle.board_actors.proofs.text.add_cause.Goals as goal

pub returns : goal.returns
unfolding cause_text
returns c = record {
  bytes = rw (c.add-4.ensures.bytes, c.add-3.ensures.bytes, c.add-2.ensures.bytes, c.kind_text.ensures.kind, c.add.ensures.bytes) (simp append_assoc);
  room = omega (arith, c.add-4.ensures.room, c.requires.short, c.add-3.ensures.room, c.add-2.ensures.room, c.kind_text.ensures.short, c.add.ensures.room);
  space = omega (arith, c.add-4.ensures.space, c.add-3.ensures.space, c.add-2.ensures.space, c.add.ensures.space);
}
