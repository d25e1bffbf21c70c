use Rattle.linked_lists.specs.Chains.{chain_at}
use Rattle.delay_queue.proofs.Waiting.{placed_last}
use Rattle.delay_queue.proofs.gaps.position_of.Goals as goal

pub returns-then-wake-last : goal.returns-then-wake-last
returns-then-wake-last c = placed_last (chain_at c.args.tasks.now.chains 0) c.args.wake c.args.last c.requires.last c.if-wake-last.true
