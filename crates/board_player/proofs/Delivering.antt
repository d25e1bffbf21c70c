-- When an interrupt of a device is due.
use Rattle.std.proofs.Common.{◌≡◌, ℕ, ◌+◌, ◌<◌, Bool, true, false, cond, not, List, length, get_or, map, set, Option, None, Some, refl, sym, ap, ◌∙◌, arith, inl, inr}
use Rattle.std.specs.Prelude.{◌&&◌, is_some}
use Rattle.std.specs.List.{list_any, range_with_len}
use Rattle.std.proofs.lemmas.Bool.{cases_eq}
use Rattle.std.proofs.lemmas.List.{get_or-set_same, get_or-set_other, ext_get_or}
use Rattle.std.proofs.lemmas.List.FromFn.{get_or-map-range_with_len, length-map-range_with_len}
use Rattle.wind_base.specs.Limits.{most_slots}
use Rattle.wind_base.specs.declared.regs.Regs.{Regs}
use Rattle.wind_outside.specs.Devices.{DeviceState}
use Rattle.board_bus.specs.Slots.{is_occupied}
use Rattle.wind_core.specs.Orders.{running}
use Rattle.dev_irq.specs.State.{line_of, is_waiting, next as next_delivery}
use Rattle.dev_irq.proofs.Nexts.{nexts}
use Rattle.wind_machine.specs.State.{State}
use Rattle.wind_machine.specs.Next.{holds_back, is_open, is_active, occupied, due_delivery}
use Rattle.wind_machine.proofs.SlotRuns.{due_line}
use Rattle.board_player.specs.Knowing.{may_deliver}

-- ---- which slots hold devices, slot by slot
pub one_more_slot : (slots : List (Option DeviceState)) (full : List Bool) (slot : ℕ) (b : Bool) → slot < length full → b ≡ is_occupied slots slot → ((j : ℕ) → j < slot → get_or full j false ≡ is_occupied slots j)
    → (j : ℕ) → j < slot + 1 → get_or (set full slot b) j false ≡ is_occupied slots j
one_more_slot slots full slot b within here before j h =
    elim (cases_eq j slot) [
      | inl e ↦ ap (λ k. get_or (set full slot b) k false) e ∙ get_or-set_same full slot b false within ∙ here ∙ ap (is_occupied slots) (sym e)
      | inr apart ↦ get_or-set_other full slot j b false apart ∙ before j (omega (arith, h, apart))
    ]

pub occupied_is : (slots : List (Option DeviceState)) (full : List Bool) → length full ≡ most_slots → ((j : ℕ) → j < most_slots → get_or full j false ≡ is_occupied slots j) → full ≡ occupied slots
unfolding occupied
occupied_is slots full size each =
    ext_get_or false full (map (is_occupied slots) (range_with_len 0 16)) (size ∙ sym (length-map-range_with_len (is_occupied slots) 0 16))
    (λ i h. let within : i < 16 = omega (arith, h, size) in each i within ∙ sym (get_or-map-range_with_len (is_occupied slots) 0 16 i i false within (omega arith)))

-- ---- whether one is due
-- if none can come, none is due
pub none_due : (s : State) → false ≡ may_deliver s → None ≡ due_delivery s
none_due s e =
    elim (is_open s) as (λ b. false ≡ (b && list_any is_waiting s.world.irqs) → None ≡ cond b (next_delivery (occupied s.world.slots) s.world.irqs) None) [
      | true ↦ λ q. sym ((nexts (occupied s.world.slots) s.world.irqs).idle (sym q))
      | false ↦ λ q. refl
    ] e

-- else the least slot decides
pub found_due : (s : State) (o : Option ℕ) → true ≡ may_deliver s → o ≡ next_delivery (occupied s.world.slots) s.world.irqs → o ≡ due_delivery s
found_due s o e found =
    elim (is_open s) as (λ b. true ≡ (b && list_any is_waiting s.world.irqs) → o ≡ cond b (next_delivery (occupied s.world.slots) s.world.irqs) None) [
      | true ↦ λ q. found
      | false ↦ λ q. absurd (cc)
    ] e

-- ---- if one is due
pub slot_due : (s : State) (i : ℕ) → due_delivery s ≡ Some i → i < most_slots
slot_due s i due = (due_line s i due).slot

pub line_due : (s : State) (i : ℕ) → due_delivery s ≡ Some i → is_waiting (line_of s.world.irqs i) ≡ true
line_due s i due = (due_line s i due).waits

-- no routine is active
no_level : (o : Option Regs) → is_some o ≡ false → o ≡ None
no_level None e = refl
no_level (Some r) e = absurd (cc)

pub idle_due : (s : State) (i : ℕ) → due_delivery s ≡ Some i → s.world.watch.level ≡ None
idle_due s i due =
    elim (is_active s.world) as (λ b. is_active s.world ≡ b → cond (not b && not (holds_back (running s.world.kern))) (next_delivery (occupied s.world.slots) s.world.irqs) None ≡ Some i → s.world.watch.level ≡ None) [
      | true ↦ λ active q. absurd (cc)
      | false ↦ λ idle q. no_level s.world.watch.level idle
    ] refl due
