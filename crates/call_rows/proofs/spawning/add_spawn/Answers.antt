use Rattle.std.proofs.Common.{append_assoc, arith}
use Rattle.call_rows.specs.Spawning.{spawn_text}
use Rattle.call_rows.proofs.spawning.add_spawn.Goals as goal

pub returns : goal.returns
unfolding spawn_text
returns c = record {
  bytes = rw (c.add-4.ensures.bytes, c.add-3.ensures.bytes, c.add-2.ensures.bytes, c.add_hex.ensures.bytes, c.add.ensures.bytes) (simp append_assoc);
  room = omega (arith, c.add-4.ensures.room, c.add-3.ensures.room, c.add-2.ensures.room, c.add_hex.ensures.room, c.add.ensures.room, c.requires.name);
  space = omega (arith, c.add-4.ensures.space, c.add-3.ensures.space, c.add-2.ensures.space, c.add_hex.ensures.space, c.add.ensures.space);
}
