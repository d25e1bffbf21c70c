use Rattle.std.proofs.Common.{cond}
use Rattle.ready_queue.proofs.Bits.{word_written}
use Rattle.ready_queue.proofs.map.mark.Goals as goal

pub returns : goal.returns
returns c = word_written c.args.words.now c.args.priority (cond c.args.on 1 0) c.with_bit.result c.told-words c.requires c.with_bit.ensures.same c.with_bit.ensures.others
