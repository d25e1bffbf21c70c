use Rattle.std.proofs.Common.{refl}
use Rattle.wind_machine.proofs.Asking.{asked_may}
use Rattle.board_player.proofs.Answering.{loaded_reply, loaded_step, loaded_slots, load_left}
use Rattle.board_player.proofs.Keeping.{kept_loading}
use Rattle.board_player.proofs.Settled.{leaves}
use Rattle.board_player.proofs.board.Board.step_load.Goals as goal

pub load-requires-clause-left : goal.load-requires-clause-left
load-requires-clause-left g c =
    load_left _ _ _ c.requires.asked (leaves c.step_law.ensures.effect c.step_law.ensures.count _ c.is_early.ensures c.args.self.now.good c.requires.few _ refl _)

pub returns-in_default-clause-no_memory : goal.returns-in_default-clause-no_memory
returns-in_default-clause-no_memory g c = asked_may _ _ c.requires.asked

-- ---- the step is made
pub invariant_of-self-2-clause-good : goal.invariant_of-self-2-clause-good
invariant_of-self-2-clause-good g c = kept_loading c.step_law.ensures.step _ _ _ _ c.is_early.ensures c.args.self.now.good c.requires.asked c.in-Ok.ensures.ok

pub returns-clause-stepped : goal.returns-clause-stepped
returns-clause-stepped g c = loaded_step _ _ _ _ c.requires.asked c.in-Ok.ensures.ok

pub returns-clause-slots : goal.returns-clause-slots
returns-clause-slots g c = loaded_slots c.slot_law.ensures.step _ _ _ _ c.facts.ensures c.requires.asked c.in-Ok.ensures.ok

pub returns-clause-reply : goal.returns-clause-reply
returns-clause-reply g c = loaded_reply _ _ _ _ c.requires.asked c.in-Ok.ensures.reply

pub returns-clause-safety : goal.returns-clause-safety
returns-clause-safety g c = c.safety_law.ensures _ _ _ c.args.self.now.good (loaded_step _ _ _ _ c.requires.asked c.in-Ok.ensures.ok)
