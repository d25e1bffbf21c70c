use Rattle.std.proofs.lemmas.List.{length-map}
use Rattle.board_bus.proofs.Slotted.{slot_changed}
use Rattle.board_bus.proofs.slots.load.Goals as goal

pub returns-clause-slots : goal.returns-clause-slots
returns-clause-slots g c = slot_changed _ _ _ _ _ _ _ c.requires.slot (length-map _ _) c.index_mut.ensures.value c.load_slot.ensures.slot
