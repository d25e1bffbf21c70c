-- The modules, the symbols and the devices as JSON.
use Rattle.std.specs.Prelude.{ℕ, zero, suc, List, [], ◌∷◌, ◌++◌, map, Option, None, Some, slice_index, codes}
use Rattle.serde_json.specs.Data.{Data, boolean, string, array}
use Rattle.serde_json.specs.View.{items_of}
use Rattle.wind_outside.specs.Devices.{DeviceState}
use Rattle.wind_outside.specs.declared.device.DeviceKind.{DeviceKind}
use Rattle.wind_outside.specs.declared.device.DeviceKind.TheVariants.{Latch, ByteFifo, EventCounter}
use Rattle.wind_base.specs.Limits.{most_slots}
use Rattle.board_bus.specs.Slots.{device_at}
use Rattle.dev_irq.specs.State.{pending_of}
use Rattle.dev_irq.specs.declared.line.Line.{Line}
use Rattle.symbol_table.specs.declared.symbol.Symbol.{Symbol}
use Rattle.module_loader.specs.declared.module.LoadedModule.{LoadedModule}
use Rattle.trace_state.specs.Json.{number_of, object_of, text_of}

-- the address of a segment of a module: 0 is text, 1 is data, 2 is bss
abbrev pub segment_address : LoadedModule → ℕ → ℕ
segment_address m place = slice_index (map (λ g. g.addr) m.segments) place

-- a module with its id
abbrev pub module_data : ℕ → LoadedModule → Data
module_data id m = object_of (
    (codes "id", number_of id)
    ∷ (codes "name", text_of m.name)
    ∷ (codes "text", number_of (segment_address m 0))
    ∷ (codes "data", number_of (segment_address m 1))
    ∷ (codes "bss", number_of (segment_address m 2))
    ∷ [])

-- a symbol
abbrev pub symbol_data : Symbol → Data
symbol_data s = object_of (
    (codes "name", text_of s.name)
    ∷ (codes "value", number_of s.value)
    ∷ (codes "global", boolean s.global)
    ∷ (codes "group", number_of s.group)
    ∷ [])

-- the word for a kind of device
abbrev pub kind_word : DeviceKind → List ℕ
kind_word Latch = codes "latch"
kind_word ByteFifo = codes "byte fifo"
kind_word EventCounter = codes "event counter"

-- a device: its slot, its kind, and how many interrupts of it are pending
abbrev pub device_data : ℕ → DeviceKind → ℕ → Data
device_data slot kind pending =
    object_of ((codes "slot", number_of slot) ∷ (codes "kind", string (kind_word kind)) ∷ (codes "pending", number_of pending) ∷ [])

-- a slot, if it has a device
abbrev pub slot_data : List Line → ℕ → Option DeviceState → List Data
slot_data irqs slot None = []
slot_data irqs slot (Some d) = device_data slot d.kind (pending_of irqs slot) ∷ []

-- the first slots that have a device, by number
abbrev pub slots_below : List Line → List (Option DeviceState) → ℕ → List Data
slots_below irqs slots zero = []
slots_below irqs slots (suc n) = slots_below irqs slots n ++ slot_data irqs n (device_at slots n)

-- the slots that have a device, by number
unfoldable pub devices_data : List Line → List (Option DeviceState) → Data
devices_data irqs slots = array (items_of (slots_below irqs slots most_slots))
