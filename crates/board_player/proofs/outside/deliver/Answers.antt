use Rattle.board_player.specs.Inside.{parts_by}
use Rattle.board_player.proofs.Delivering.{slot_due, line_due}
use Rattle.board_player.proofs.outside.deliver.Goals as goal

pub deliver-requires-clause-slot : goal.deliver-requires-clause-slot
deliver-requires-clause-slot g c =
    slot_due (parts_by (λ d. (goal.Device-dyn g (d.vtable, d.value)).kind_of d.value) (λ d. (goal.Device-dyn g (d.vtable, d.value)).words_of d.value) c.args.parts.now) c.args.slot c.requires.due

pub deliver-requires-clause-waiting : goal.deliver-requires-clause-waiting
deliver-requires-clause-waiting g c =
    line_due (parts_by (λ d. (goal.Device-dyn g (d.vtable, d.value)).kind_of d.value) (λ d. (goal.Device-dyn g (d.vtable, d.value)).words_of d.value) c.args.parts.now) c.args.slot c.requires.due
