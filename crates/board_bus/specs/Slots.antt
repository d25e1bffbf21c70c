-- The device slots by address.
use Rattle.std.specs.Prelude.{ℕ, ◌+◌, ◌-◌, ◌*◌, ◌/◌, ◌%◌, Bool, ◌&&◌, ◌==◌, nat_le, nat_lt, List, Option, Some, None, is_some, slice_get, slice_set, option_and_then, option_map, if◌then◌else◌}
use Rattle.wind_base.specs.Limits.{most_slots, slots_start, slot_bytes}
use Rattle.wind_outside.specs.declared.device.DeviceKind.{DeviceKind}
use Rattle.wind_outside.specs.Devices.{DeviceState, load_answer, after_load, after_store}

-- whether an access of n bytes is one of a whole word at a multiple of 4, in the range of the slots
abbrev pub is_slot_word : ℕ → ℕ → Bool
is_slot_word n at = n == 4 && at % 4 == 0 && nat_le slots_start at && nat_lt at (slots_start + most_slots * slot_bytes)

-- the number of the slot with an address
abbrev pub slot_number : ℕ → ℕ
slot_number at = (at - slots_start) / slot_bytes

-- the offset of an address from the start of its slot
abbrev pub slot_offset : ℕ → ℕ
slot_offset at = (at - slots_start) % slot_bytes

-- the device in a slot; none if the slot is empty or doesn't exist
abbrev pub device_at : List (Option DeviceState) → ℕ → Option DeviceState
device_at slots i = option_and_then (λ slot. slot) (slice_get slots i)

-- a slot holds a device
abbrev pub is_occupied : List (Option DeviceState) → ℕ → Bool
is_occupied slots i = is_some (device_at slots i)

-- the slots with one of them empty; unchanged if there is none with this number
abbrev pub without_device : List (Option DeviceState) → ℕ → List (Option DeviceState)
without_device slots i = slice_set slots i None

-- the slots with another device in one slot; unchanged if there is none
abbrev pub with_device : List (Option DeviceState) → ℕ → Option DeviceState → List (Option DeviceState)
with_device slots i None = slots
with_device slots i (Some d) = slice_set slots i (Some d)

-- the device that an access reaches, or none
abbrev pub reached : List (Option DeviceState) → ℕ → ℕ → Option DeviceState
reached slots n at = if is_slot_word n at then device_at slots (slot_number at) else None

-- the result of a load from a device
abbrev pub answer_of : Option DeviceState → ℕ → Option ℕ
answer_of device off = option_map (λ d. load_answer d.kind d.words off) device

-- a device after a load
abbrev pub loaded_from : ℕ → DeviceState → DeviceState
loaded_from off d = record d { words = after_load d.kind d.words off }

-- a device after a store
abbrev pub stored_to : ℕ → ℕ → DeviceState → DeviceState
stored_to off v d = record d { words = after_store d.kind d.words off v }

-- a device after a load, if there is a device
abbrev pub device_loaded : Option DeviceState → ℕ → Option DeviceState
device_loaded device off = option_map (loaded_from off) device

-- a device after a store, if there is a device
abbrev pub device_stored : Option DeviceState → ℕ → ℕ → Option DeviceState
device_stored device off v = option_map (stored_to off v) device

-- the slots after a load of n bytes at an address: only the device that it reaches can change
abbrev pub slots_loaded : List (Option DeviceState) → ℕ → ℕ → List (Option DeviceState)
slots_loaded slots n at = with_device slots (slot_number at) (device_loaded (reached slots n at) (slot_offset at))

-- the slots after a store in n bytes at an address: only the device that it reaches can change
abbrev pub slots_stored : List (Option DeviceState) → ℕ → ℕ → ℕ → List (Option DeviceState)
slots_stored slots n at v = with_device slots (slot_number at) (device_stored (reached slots n at) (slot_offset at) v)

-- the content of a slot, with a device seen through these functions
abbrev pub slot_seen : {D : Type 0} → (D → DeviceKind) → (D → List ℕ) → Option D → Option DeviceState
slot_seen kind_of words_of slot = option_map (λ d. record { kind = kind_of d; words = words_of d }) slot
