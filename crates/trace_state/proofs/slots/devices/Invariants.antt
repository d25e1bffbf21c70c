use Rattle.std.proofs.Common.{◌≡◌}
use Rattle.wind_outside.specs.Devices.{slots_of}
use Rattle.trace_state.specs.Modules.{slots_below}
use Rattle.trace_state.specs.Held.{items_in}
use Rattle.trace_state.proofs.slots.devices.Given as goal

-- the devices of the first slots are items
abbrev pub invariant-loop-slot : goal.invariant-loop-slot
invariant-loop-slot g l =
    let slots = slots_of (λ d. (goal.Device-dyn g (d.vtable, d.value)).kind_of d.value) (λ d. (goal.Device-dyn g (d.vtable, d.value)).words_of d.value) l.slots.items in
    items_in l.items ≡ slots_below l.irqs slots l.slot
