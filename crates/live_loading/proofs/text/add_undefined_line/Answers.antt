use Rattle.std.proofs.Common.{append_assoc, length, ap, arith}
use Rattle.std.proofs.lemmas.List.{length_push}
use Rattle.live_loading.proofs.text.add_undefined_line.Goals as goal

pub returns : goal.returns
returns c = record {
  bytes = rw (c.add-3.ensures.bytes, c.add-2.ensures.bytes, c.add.ensures.bytes, c.bytes.ensures.value) (simp append_assoc);
  room = omega (arith, c.add-3.ensures.room, c.add-2.ensures.room, c.add.ensures.room, ap length c.bytes.ensures.value, length_push c.args.name.now 10);
  space = omega (arith, c.add-3.ensures.space, c.add-2.ensures.space, c.add.ensures.space);
}
