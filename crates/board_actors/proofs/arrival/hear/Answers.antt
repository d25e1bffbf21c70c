use Rattle.std.proofs.Common.{◌∙◌, arith}
use Rattle.board_actors.proofs.Bytes.{hear_more}
use Rattle.board_actors.proofs.arrival.hear.Goals as goal

pub loop-byte-preserved : goal.loop-byte-preserved
loop-byte-preserved c = record {
  heard = hear_more _ _ c.args.bytes.now c.loop-byte.byte-index c.loop-byte-test.true c.hear_one.ensures.heard ∙ c.loop-byte.invariant.heard;
  room = omega (arith, c.hear_one.ensures.room, c.loop-byte.invariant.room);
  spent = omega (arith, c.hear_one.ensures.room, c.loop-byte.invariant.spent);
  space = c.hear_one.ensures.space ∙ c.loop-byte.invariant.space;
  live = c.hear_one.ensures.live;
  since = omega (arith, c.hear_one.ensures.since, c.loop-byte.invariant.since);
}
