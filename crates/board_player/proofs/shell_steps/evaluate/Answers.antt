use Rattle.std.proofs.Common.{[]}
use Rattle.live_loading.specs.KernelWorldSeen.{world_with}
use Rattle.live_loading.proofs.KernelWorldBoards.{pool_in_ram}
use Rattle.board_player.proofs.shell_steps.evaluate.Goals as goal

pub evaluate-requires-clause-pool : goal.evaluate-requires-clause-pool
evaluate-requires-clause-pool g c = pool_in_ram (world_with [] c.start_revocable_step-kept.new.world) c.start_revocable_step-kept.ensures.ready.early.kept
