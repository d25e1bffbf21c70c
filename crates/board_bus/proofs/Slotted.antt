-- A change of one slot, seen as plain data.
use Rattle.std.proofs.Common.{◌≡◌, ℕ, Bool, ◌≤◌, ◌<◌, List, Option, Some, None, length, map, ◌∙◌, ap, arith, sym, get_or, [], ◌∷◌, zero, suc, refl}
use Rattle.std.specs.Prelude.{slice_set, option_map, is_some}
use Rattle.std.proofs.lemmas.List.{map-set, length-map}
use Rattle.wind_outside.specs.Devices.{DeviceState}
use Rattle.board_bus.specs.Slots.{device_at, is_occupied, with_device, without_device}

-- the content of slot i
pub device_seen : {D : Type 0} (f : D → DeviceState) (xs : List (Option D)) (i : ℕ) (d : Option D) → i < length xs → option_map f (get_or xs i d) ≡ device_at (map (option_map f) xs) i
device_seen f [] i d h = absurd (omega arith)
device_seen f (x ∷ xs) zero d h = refl
device_seen f (x ∷ xs) (suc i) d h = device_seen f xs i d (omega arith)

-- an empty slot stays empty
none_stays : (xs : List (Option DeviceState)) (i : ℕ) → device_at xs i ≡ None → i < length xs → slice_set xs i None ≡ xs
none_stays [] i e h = absurd (omega arith)
none_stays (x ∷ xs) zero e h = ap (λ (y : Option DeviceState). y ∷ xs) (sym e)
none_stays (x ∷ xs) (suc i) e h = ap (λ (ys : List (Option DeviceState)). x ∷ ys) (none_stays xs i e (omega arith))

set_is : (xs : List (Option DeviceState)) (i : ℕ) (h : DeviceState → DeviceState) (o : Option DeviceState) → device_at xs i ≡ o → i < length xs → slice_set xs i (option_map h o) ≡ with_device xs i (option_map h o)
set_is xs i h None e lt = none_stays xs i e lt
set_is xs i h (Some d) e lt = refl

-- a change of the content of slot i changes only that slot
pub slot_changed : {D : Type 0} (f : D → DeviceState) (h : DeviceState → DeviceState) (xs : List (Option D)) (i : ℕ) (old new d : Option D) → i < length xs → length (map (option_map f) xs) ≡ length xs → old ≡ get_or xs i d → option_map f new ≡ option_map h (option_map f old)
    → map (option_map f) (slice_set xs i new) ≡ with_device (map (option_map f) xs) i (option_map h (device_at (map (option_map f) xs) i))
slot_changed f h xs i old new d lt same e p =
    map-set (option_map f) xs i new ∙ ap (slice_set (map (option_map f) xs) i) (p ∙ ap (λ o. option_map h (option_map f o)) e ∙ ap (option_map h) (device_seen f xs i d lt)) ∙ set_is (map (option_map f) xs) i h (device_at (map (option_map f) xs) i) refl (omega (arith, lt, same))

-- ---- removals
-- a device is there however it is seen
is_there : {D : Type 0} (f : D → DeviceState) (o : Option D) → is_some (option_map f o) ≡ is_some o
is_there f None = refl
is_there f (Some x) = refl

pub slot_taken : {D : Type 0} (f : D → DeviceState) (xs : List (Option D)) (i : ℕ) (slot taken d : Option D) (there : Bool) → i < length xs → there ≡ is_some taken → taken ≡ slot → slot ≡ get_or xs i d → there ≡ is_occupied (map (option_map f) xs) i
slot_taken f xs i slot taken d there lt was same e =
    was ∙ ap is_some (same ∙ e) ∙ sym (is_there f (get_or xs i d)) ∙ ap is_some (device_seen f xs i d lt)

-- a slot that is emptied
pub slot_emptied : {D : Type 0} (f : D → DeviceState) (xs : List (Option D)) (i : ℕ) (new : Option D) → new ≡ None → map (option_map f) (slice_set xs i new) ≡ without_device (map (option_map f) xs) i
slot_emptied f xs i new e = map-set (option_map f) xs i new ∙ ap (λ o. slice_set (map (option_map f) xs) i (option_map f o)) e

-- there is no slot to empty
none_emptied : (xs : List (Option DeviceState)) (i : ℕ) → length xs ≤ i → without_device xs i ≡ xs
none_emptied [] i h = refl
none_emptied (x ∷ xs) zero h = absurd (omega arith)
none_emptied (x ∷ xs) (suc i) h = ap (λ (ys : List (Option DeviceState)). x ∷ ys) (none_emptied xs i (omega arith))

pub none_there : {D : Type 0} (f : D → DeviceState) (xs : List (Option D)) (i : ℕ) → length xs ≤ i → map (option_map f) xs ≡ without_device (map (option_map f) xs) i
none_there f xs i h = sym (none_emptied (map (option_map f) xs) i (omega (arith, length-map xs (option_map f), h)))
