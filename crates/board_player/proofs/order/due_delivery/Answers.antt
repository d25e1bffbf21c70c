use Rattle.std.proofs.Common.{sym, ◌∙◌}
use Rattle.board_player.specs.Inside.{parts_by}
use Rattle.board_player.proofs.Delivering.{none_due, found_due}
use Rattle.board_player.proofs.order.due_delivery.Goals as goal

pub returns-then-not-may_deliver : goal.returns-then-not-may_deliver
returns-then-not-may_deliver g c =
    none_due (parts_by (λ d. (goal.Device-dyn g (d.vtable, d.value)).kind_of d.value) (λ d. (goal.Device-dyn g (d.vtable, d.value)).words_of d.value) c.args.parts.now) (sym c.if-not-may_deliver.true ∙ c.may_deliver.ensures)

pub returns : goal.returns
returns g c =
    found_due (parts_by (λ d. (goal.Device-dyn g (d.vtable, d.value)).kind_of d.value) (λ d. (goal.Device-dyn g (d.vtable, d.value)).words_of d.value) c.args.parts.now) c.find_delivery.result
    (sym c.if-not-may_deliver.false ∙ c.may_deliver.ensures) c.find_delivery.ensures
