-- The laws of the board's bus, proved: an access in RAM never faults, and no access changes the size of RAM.
use Rattle.std.specs.Prelude.{◌≡◌, ℕ, ◌<◌, Bool, true, false, not, ◌&&◌, length, nat_lt, is_some, if◌then◌else◌}
use Rattle.std.proofs.Common.{refl, sym, ap, ◌∙◌}
use Rattle.board_mem.specs.Memory.{has, with_number}
use Rattle.board_mem.proofs.Sizes.{length-with_number}
use Rattle.ppc_core.specs.Buses.{IsLawful, all_ram}
use Rattle.ppc_core.proofs.RamRanges.{all_ram-below}
use Rattle.board_bus.specs.BusState.{BusState}
use Rattle.board_bus.specs.Slots.{reached, slots_loaded, slots_stored}
use Rattle.board_bus.specs.Access.{board_meaning, faults_at, loaded_at, stored_at}

-- a range is in RAM exactly if all its bytes are
pub has-all_ram : (b : BusState) (at n : ℕ) → has b.ram at n ≡ all_ram board_meaning b at n
has-all_ram b at n = sym (all_ram-below board_meaning b (length b.ram) at n (λ a. refl))

in_ram : (b : BusState) (n at : ℕ) → all_ram board_meaning b at n ≡ true → has b.ram at n ≡ true
in_ram b n at h = has-all_ram b at n ∙ h

never_faults : (b : BusState) (n at : ℕ) → 0 < n → all_ram board_meaning b at n ≡ true → faults_at b n at ≡ false
never_faults b n at some h = ap (λ t. not t && not (is_some (reached b.slots n at))) (in_ram b n at h)

load_keeps : (b : BusState) (n at a : ℕ) → nat_lt a (length (loaded_at b n at).ram) ≡ nat_lt a (length b.ram)
load_keeps b n at a = go (has b.ram at n) where
  go : (t : Bool) → nat_lt a (length (if t then b else record b { slots = slots_loaded b.slots n at }).ram) ≡ nat_lt a (length b.ram)
  go true = refl
  go false = refl

store_keeps : (b : BusState) (n at v a : ℕ) → nat_lt a (length (stored_at b n at v).ram) ≡ nat_lt a (length b.ram)
store_keeps b n at v a = go (has b.ram at n) refl where
  go : (t : Bool) → has b.ram at n ≡ t → nat_lt a (length (if t then record b { ram = with_number n b.ram at v } else record b { slots = slots_stored b.slots n at v }).ram) ≡ nat_lt a (length b.ram)
  go true h = ap (nat_lt a) (length-with_number n b.ram at v h)
  go false h = refl

-- the board's bus meets the laws of buses
pub board_lawful : IsLawful board_meaning
board_lawful =
    record {
      ram_never_faults = never_faults;
      load_keeps = λ b n at a h. load_keeps b n at a;
      store_keeps = λ b n at v a h. store_keeps b n at v a;
    }
