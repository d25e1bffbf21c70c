-- Slots from which a device was removed, and slots under loads and stores.
use Rattle.std.proofs.Common.{◌≡◌, ◌≢◌, ℕ, zero, suc, Bool, true, false, List, [], ◌∷◌, Option, Some, None, refl, sym, ap, ◌∙◌}
use Rattle.std.specs.Prelude.{slice_set, option_map, is_some, not, ◌&&◌, if◌then◌else◌}
use Rattle.board_mem.specs.Memory.{has}
use Rattle.wind_outside.specs.Devices.{DeviceState}
use Rattle.board_bus.specs.BusState.{BusState}
use Rattle.board_bus.specs.Slots.{device_at, is_occupied, with_device, without_device, is_slot_word, slot_number, slot_offset, reached, loaded_from, stored_to}
use Rattle.board_bus.specs.Access.{faults_at}
use Rattle.board_bus.specs.Laws.{RemovalLaw}

empty : (slots : List (Option DeviceState)) (i : ℕ) → is_occupied (without_device slots i) i ≡ false
empty [] i = refl
empty (x ∷ xs) zero = refl
empty (x ∷ xs) (suc i) = empty xs i

others : (slots : List (Option DeviceState)) (i j : ℕ) → j ≢ i → device_at (without_device slots i) j ≡ device_at slots j
others [] i j apart = refl
others (x ∷ xs) zero zero apart = absurd (apart refl)
others (x ∷ xs) zero (suc j) apart = refl
others (x ∷ xs) (suc i) zero apart = refl
others (x ∷ xs) (suc i) (suc j) apart = others xs i j (λ e. apart (ap suc e))

faults : (b : BusState) (n at : ℕ) → has b.ram at n ≡ false → is_occupied b.slots (slot_number at) ≡ false → faults_at b n at ≡ true
faults b n at outside gone = ap (λ t. not t && not (is_some (reached b.slots n at))) outside ∙ ap not (go (is_slot_word n at)) where
  go : (t : Bool) → is_some (if t then device_at b.slots (slot_number at) else None) ≡ false
  go true = gone
  go false = refl

-- another device in the place of one
replaced : (slots : List (Option DeviceState)) (k i : ℕ) (d x : DeviceState) → device_at slots k ≡ Some d → is_occupied (slice_set slots k (Some x)) i ≡ is_occupied slots i
replaced [] k i d x e = refl
replaced (y ∷ ys) zero zero d x e = sym (ap is_some e)
replaced (y ∷ ys) zero (suc i) d x e = refl
replaced (y ∷ ys) (suc k) zero d x e = refl
replaced (y ∷ ys) (suc k) (suc i) d x e = replaced ys k i d x e

-- an access of the device that it reaches, if it reaches one
accessed : (h : DeviceState → DeviceState) (slots : List (Option DeviceState)) (n at i : ℕ) → is_occupied (with_device slots (slot_number at) (option_map h (reached slots n at))) i ≡ is_occupied slots i
accessed h slots n at i = go (is_slot_word n at) where
  there : (o : Option DeviceState) → device_at slots (slot_number at) ≡ o → is_occupied (with_device slots (slot_number at) (option_map h o)) i ≡ is_occupied slots i
  there None e = refl
  there (Some d) e = replaced slots (slot_number at) i d (h d) e

  go : (t : Bool) → is_occupied (with_device slots (slot_number at) (option_map h (if t then device_at slots (slot_number at) else None))) i ≡ is_occupied slots i
  go true = there (device_at slots (slot_number at)) refl
  go false = refl

pub removals : RemovalLaw
removals = record {
  empty = empty;
  others = others;
  faults = faults;
  loading = λ slots n at i. accessed (loaded_from (slot_offset at)) slots n at i;
  storing = λ slots n at v i. accessed (stored_to (slot_offset at) v) slots n at i;
}
