use Rattle.std.proofs.Common.{refl, arith, length-set, ◌∙◌}
use Rattle.board_player.proofs.Delivering.{one_more_slot, occupied_is}
use Rattle.board_player.proofs.order.occupied.Goals as goal

pub loop-slot-init : goal.loop-slot-init
loop-slot-init g c = record { size = refl; done = λ j h. absurd (omega arith) }

pub loop-slot-preserved : goal.loop-slot-preserved
loop-slot-preserved g c = record {
  size = length-set c.loop-slot.full c.loop-slot.slot c.has_device.result ∙ c.loop-slot.invariant.size;
  done = one_more_slot _ c.loop-slot.full c.loop-slot.slot c.has_device.result (omega arith) c.has_device.ensures c.loop-slot.invariant.done;
}

pub returns : goal.returns
returns g c = occupied_is _ c.loop-slot.full c.loop-slot.invariant.size (λ j h. c.loop-slot.invariant.done j (omega arith))
