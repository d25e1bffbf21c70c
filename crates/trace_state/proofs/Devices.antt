-- The device in a slot.
use Rattle.std.proofs.Common.{◌≡◌, ℕ, ◌<◌, ◌≤◌, List, [], ◌∷◌, ◌++◌, length, get_or, Option, None, Some, refl, ap, sym, ◌∙◌}
use Rattle.std.specs.Prelude.{option_and_then}
use Rattle.std.specs.Option.{option_map}
use Rattle.std.proofs.lemmas.List.{append-nil, get_or-map, length-map}
use Rattle.std.proofs.lemmas.Option.{slice_get-get_or, slice_get_past}
use Rattle.wind_outside.specs.Devices.{DeviceState, slots_of}
use Rattle.wind_outside.specs.declared.device.DeviceKind.{DeviceKind}
use Rattle.board_bus.specs.Slots.{device_at, slot_seen}
use Rattle.dev_irq.specs.State.{pending_of}
use Rattle.dev_irq.specs.declared.line.Line.{Line}
use Rattle.serde_json.specs.Data.{Data}
use Rattle.trace_state.specs.Modules.{device_data, slot_data}

-- nothing is added for a slot without a device
pub slot_kept : (items : List Data) (irqs : List Line) (slot : ℕ) (d : Option DeviceState) → d ≡ None → items ≡ items ++ slot_data irqs slot d
slot_kept items irqs slot d none = sym (append-nil items) ∙ ap (λ x. items ++ slot_data irqs slot x) (sym none)

-- what is added for a device, by its kind
pub none_kind : (d : Option DeviceState) → option_map (λ x. x.kind) d ≡ None → d ≡ None
none_kind None e = refl
none_kind (Some x) e = absurd (cc)

pub some_kind : (irqs : List Line) (slot : ℕ) (kind : DeviceKind) (d : Option DeviceState) → option_map (λ x. x.kind) d ≡ Some kind
    → device_data slot kind (pending_of irqs slot) ∷ [] ≡ slot_data irqs slot d
some_kind irqs slot kind None e = absurd (cc)
some_kind irqs slot kind (Some x) e = let same : x.kind ≡ kind = cc in ap (λ k. device_data slot k (pending_of irqs slot) ∷ []) (sym same)

module _ {D : Type 0} (kind_of : D → DeviceKind) (words_of : D → List ℕ) (slots : List (Option D)) (i : ℕ) where
  pub no_device : length slots ≤ i → device_at (slots_of kind_of words_of slots) i ≡ None
  no_device past =
      let many : length (slots_of kind_of words_of slots) ≤ i = simp length-map past in
      ap (option_and_then (λ slot. slot)) (slice_get_past (slots_of kind_of words_of slots) i many)

  pub device_here : (x : Option D) → i < length slots → x ≡ get_or slots i x → device_at (slots_of kind_of words_of slots) i ≡ slot_seen kind_of words_of x
  device_here x less here =
      let within : i < length (slots_of kind_of words_of slots) = simp length-map less in
      ap (option_and_then (λ slot. slot))
      (slice_get-get_or (slots_of kind_of words_of slots) i (slot_seen kind_of words_of x) within
      ∙ ap Some (get_or-map (slot_seen kind_of words_of) slots i x (slot_seen kind_of words_of x) less ∙ ap (slot_seen kind_of words_of) (sym here)))
