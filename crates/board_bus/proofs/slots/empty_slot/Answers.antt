use Rattle.board_bus.proofs.Slotted.{slot_taken, slot_emptied}
use Rattle.board_bus.proofs.slots.empty_slot.Goals as goal

pub returns-clause-answer : goal.returns-clause-answer
returns-clause-answer g c = slot_taken _ _ _ _ _ _ _ c.requires.slot c.is_some.ensures c.take.ensures.value c.index_mut.ensures.value

pub returns-clause-slots : goal.returns-clause-slots
returns-clause-slots g c = slot_emptied _ _ _ _ c.take.ensures.after
