use Rattle.std.proofs.Common.{◌<◌, ◌≤◌, ◌++◌, ◌∷◌, [], length, ap, sym, ◌∙◌, arith}
use Rattle.std.proofs.lemmas.Result.{on_ok_weaker}
use Rattle.trace_state.specs.Held.{items_in}
use Rattle.trace_state.specs.Modules.{device_data, slot_data}
use Rattle.trace_state.proofs.Devices.{device_here, no_device, none_kind, slot_kept, some_kind}
use Rattle.trace_state.proofs.slots.add_slot.Goals as goal

-- there are fewer slots
pub returns-then-slot-len : goal.returns-then-slot-len
returns-then-slot-len g c =
    let past : length c.args.slots.now.items ≤ c.args.slot = omega (arith, c.len.ensures, c.if-slot-len.true) in
    slot_kept (items_in c.args.items.now) c.args.irqs.now c.args.slot _ (no_device (λ d. (goal.Device-dyn g (d.vtable, d.value)).kind_of d.value) (λ d. (goal.Device-dyn g (d.vtable, d.value)).words_of d.value) c.args.slots.now.items c.args.slot past)

-- the slot has no device
pub returns-in_default : goal.returns-in_default
returns-in_default g c =
    let less : c.args.slot < length c.args.slots.now.items = omega (arith, c.len.ensures, c.if-slot-len.false) in
    slot_kept (items_in c.args.items.now) c.args.irqs.now c.args.slot _
    (device_here (λ d. (goal.Device-dyn g (d.vtable, d.value)).kind_of d.value) (λ d. (goal.Device-dyn g (d.vtable, d.value)).words_of d.value) c.args.slots.now.items c.args.slot c.index.result.now less c.index.ensures ∙ none_kind _ (sym c.kind_in.ensures ∙ c.in_default.is))

pub returns : goal.returns
returns g c =
    let less : c.args.slot < length c.args.slots.now.items = omega (arith, c.len.ensures, c.if-slot-len.false) in
    let items = items_in c.args.items.now in
    let here = device_here (λ d. (goal.Device-dyn g (d.vtable, d.value)).kind_of d.value) (λ d. (goal.Device-dyn g (d.vtable, d.value)).words_of d.value) c.args.slots.now.items c.args.slot c.index.result.now less c.index.ensures in
    on_ok_weaker c.add.result
    (λ more. more ∙ ap (λ d. items ++ d ∷ []) (c.in_ok-device_value.ensures ∙ ap (device_data c.args.slot c.in-Some.kind) c.pending-pending.ensures)
    ∙ ap (λ ds. items ++ ds) (some_kind c.args.irqs.now c.args.slot c.in-Some.kind _ (sym c.kind_in.ensures ∙ c.in-Some.is) ∙ ap (slot_data c.args.irqs.now c.args.slot) (sym here)))
    c.add.ensures
