use Rattle.std.proofs.Common.{◌≡◌, ℕ, ◌<◌, length, get_or, false}
use Rattle.board_bus.specs.Seen.{bus_by}
use Rattle.board_bus.specs.Slots.{is_occupied}
use Rattle.board_player.proofs.order.occupied.Given as goal

-- the slots so far
abbrev pub invariant-loop-slot : goal.invariant-loop-slot
invariant-loop-slot g l =
    let seen = bus_by (λ d. (goal.Device-dyn g (d.vtable, d.value)).kind_of d.value) (λ d. (goal.Device-dyn g (d.vtable, d.value)).words_of d.value) in
    record {
      size : length l.full ≡ 16;
      done : (j : ℕ) → j < l.slot → get_or l.full j false ≡ is_occupied (seen l.bus).slots j;
    }
