-- What no load and no store of a bus breaks, no instruction does.
use Rattle.std.proofs.Common.{◌≡◌, ℕ, zero, suc, ◌+◌, ◌-◌, ◌*◌, ◌%◌, Bool, true, false, cond, eqb, Option, None, Some, length, refl, ◌∙◌}
use Rattle.std.specs.Prelude.{if◌then◌else◌}
use Rattle.wind_base.specs.declared.regs.Regs.{Regs}
use Rattle.ppc_word.specs.declared.row.Row.{Row}
use Rattle.ppc_word.specs.declared.row.Row.TheVariants as row
use Rattle.ppc_word.specs.Rows.{row_of}
use Rattle.ppc_core.specs.declared.trap.Trap.TheVariants as trap
use Rattle.ppc_core.specs.declared.storage.Load.{Load}
use Rattle.ppc_core.specs.declared.storage.Load.TheVariants as load
use Rattle.ppc_core.specs.declared.storage.Store.{Store}
use Rattle.ppc_core.specs.declared.storage.Store.TheVariants as store
use Rattle.ppc_core.specs.declared.storage.Address.{Address}
use Rattle.ppc_core.specs.declared.storage.Address.TheVariants as address
use Rattle.ppc_core.specs.Buses.{Meaning, all_ram}
use Rattle.ppc_core.specs.Outcomes.{Outcome, Done, Trapped}
use Rattle.ppc_core.specs.Fields.{rt, si}
use Rattle.ppc_core.specs.Conditions.{traps}
use Rattle.ppc_core.specs.Registers.{gpr, in_rs, in_ra, in_rb}
use Rattle.ppc_core.specs.Storage.{offset, indexed, load_width, store_width, given, address_of, load_of, store_of}
use Rattle.ppc_core.specs.Multiples.{is_reserved, words_loaded, words_stored, in_ram, load_multiple_of, store_multiple_of, load_and_reserve_of, store_conditional_of}
use Rattle.ppc_core.specs.Instructions.{trap_where, effect_of, row_effect, exec_of}
use Rattle.board_mem.specs.Memory.{has, with_number}
use Rattle.board_mem.proofs.Sizes.{length-with_number}
use Rattle.board_bus.specs.BusState.{BusState}
use Rattle.board_bus.specs.Slots.{slots_loaded, slots_stored}
use Rattle.board_bus.specs.Access.{board_meaning, loaded_at, stored_at}

-- no load and no store breaks P
pub record Lasts {B : Type 0} (m : Meaning B) (P : B → Type 0) : Type 0 where
  pub loads : (b : B) (n at : ℕ) → P b → P (m.loaded b n at)
  pub stores : (b : B) (n at v : ℕ) → P b → P (m.stored b n at v)

-- the bus that an instruction leaves has P, unless the instruction traps
abbrev pub IfDone : {B : Type 0} → (B → Type 0) → Outcome B → Type 0
IfDone P (Done r b) = P b
IfDone P (Trapped t) = Unit {0}

module _ {B : Type 0} (m : Meaning B) (P : B → Type 0) (lasts : Lasts m P) where
  guarded : (t : Bool) (r : Regs) (b : B) → P b → IfDone P (if t then Trapped trap.Access else Done r b)
  guarded true r b p = tt
  guarded false r b p = p

  loads_last : (l : Load) (a : Address) (r : Regs) (w : ℕ) (b : B) → P b → IfDone P (load_of m l a r w b)
  unfolding load_of
  loads_last l a r w b p = guarded (m.faults b (load_width l) (address_of a r w)) _ _ (lasts.loads b (load_width l) (address_of a r w) p)

  stores_last : (s : Store) (a : Address) (r : Regs) (w : ℕ) (b : B) → P b → IfDone P (store_of m s a r w b)
  unfolding store_of
  stores_last s a r w b p = guarded (m.faults b (store_width s) (address_of a r w)) _ _ (lasts.stores b (store_width s) (address_of a r w) (given s (in_rs r w)) p)

  words_loaded_last : (b : B) (at n : ℕ) → P b → P (words_loaded m b at n)
  words_loaded_last b at zero p = p
  words_loaded_last b at (suc k) p = lasts.loads (words_loaded m b at k) 4 (at + 4 * k) (words_loaded_last b at k p)

  words_stored_last : (r : Regs) (b : B) (t at n : ℕ) → P b → P (words_stored m r b t at n)
  words_stored_last r b t at zero p = p
  words_stored_last r b t at (suc k) p = lasts.stores (words_stored m r b t at k) 4 (at + 4 * k) (gpr r (t + k)) (words_stored_last r b t at k p)

  in_ram_last : (b : B) (at n : ℕ) (r : Regs) (c : B) → P c → IfDone P (in_ram m b at n (Done r c))
  in_ram_last b at n r c p =
      elim (eqb (at % 4) 0) as (λ t. IfDone P (cond t (cond (all_ram m b at n) (Done r c) (Trapped trap.Access)) (Trapped trap.Align))) [
        | true ↦ elim (all_ram m b at n) as (λ t. IfDone P (cond t (Done r c) (Trapped trap.Access))) [ true ↦ p | false ↦ tt ]
        | false ↦ tt
      ]

  load_multiple_last : (r : Regs) (w : ℕ) (b : B) (at : ℕ) → P b → IfDone P (load_multiple_of m r w b at)
  unfolding load_multiple_of
  load_multiple_last r w b at p = in_ram_last b at (4 * (32 - rt w)) _ _ (words_loaded_last b at (32 - rt w) p)

  store_multiple_last : (r : Regs) (w : ℕ) (b : B) (at : ℕ) → P b → IfDone P (store_multiple_of m r w b at)
  unfolding store_multiple_of
  store_multiple_last r w b at p = in_ram_last b at (4 * (32 - rt w)) _ _ (words_stored_last r b (rt w) at (32 - rt w) p)

  load_and_reserve_last : (r : Regs) (w : ℕ) (b : B) (at : ℕ) → P b → IfDone P (load_and_reserve_of m r w b at)
  unfolding load_and_reserve_of
  load_and_reserve_last r w b at p = in_ram_last b at 4 _ _ (lasts.loads b 4 at p)

  store_conditional_last : (r : Regs) (w : ℕ) (b : B) (at : ℕ) → P b → IfDone P (store_conditional_of m r w b at)
  unfolding store_conditional_of
  store_conditional_last r w b at p = in_ram_last b at 4 _ _ (go (is_reserved r.reserve at)) where
    go : (t : Bool) → P (if t then m.stored b 4 at (in_rs r w) else b)
    go true = lasts.stores b 4 at (in_rs r w) p
    go false = p

  traps_last : (t : Bool) (r : Regs) (b : B) → P b → IfDone P (trap_where t r b)
  traps_last true r b p = tt
  traps_last false r b p = p

  effects_last : (i : Row) (r : Regs) (w : ℕ) (b : B) → P b → IfDone P (effect_of m i r w b)
  unfolding effect_of
  effects_last row.Sc r w b p = tt
  effects_last row.Lbz r w b p = loads_last load.Byte address.Offset r w b p
  effects_last row.Lbzx r w b p = loads_last load.Byte address.Indexed r w b p
  effects_last row.Lbzu r w b p = loads_last load.Byte address.OffsetUpdate r w b p
  effects_last row.Lbzux r w b p = loads_last load.Byte address.IndexedUpdate r w b p
  effects_last row.Lhz r w b p = loads_last load.Half address.Offset r w b p
  effects_last row.Lhzx r w b p = loads_last load.Half address.Indexed r w b p
  effects_last row.Lhzu r w b p = loads_last load.Half address.OffsetUpdate r w b p
  effects_last row.Lhzux r w b p = loads_last load.Half address.IndexedUpdate r w b p
  effects_last row.Lha r w b p = loads_last load.HalfSigned address.Offset r w b p
  effects_last row.Lhax r w b p = loads_last load.HalfSigned address.Indexed r w b p
  effects_last row.Lhau r w b p = loads_last load.HalfSigned address.OffsetUpdate r w b p
  effects_last row.Lhaux r w b p = loads_last load.HalfSigned address.IndexedUpdate r w b p
  effects_last row.Lwz r w b p = loads_last load.Word address.Offset r w b p
  effects_last row.Lwzx r w b p = loads_last load.Word address.Indexed r w b p
  effects_last row.Lwzu r w b p = loads_last load.Word address.OffsetUpdate r w b p
  effects_last row.Lwzux r w b p = loads_last load.Word address.IndexedUpdate r w b p
  effects_last row.Stb r w b p = stores_last store.Byte address.Offset r w b p
  effects_last row.Stbx r w b p = stores_last store.Byte address.Indexed r w b p
  effects_last row.Stbu r w b p = stores_last store.Byte address.OffsetUpdate r w b p
  effects_last row.Stbux r w b p = stores_last store.Byte address.IndexedUpdate r w b p
  effects_last row.Sth r w b p = stores_last store.Half address.Offset r w b p
  effects_last row.Sthx r w b p = stores_last store.Half address.Indexed r w b p
  effects_last row.Sthu r w b p = stores_last store.Half address.OffsetUpdate r w b p
  effects_last row.Sthux r w b p = stores_last store.Half address.IndexedUpdate r w b p
  effects_last row.Stw r w b p = stores_last store.Word address.Offset r w b p
  effects_last row.Stwx r w b p = stores_last store.Word address.Indexed r w b p
  effects_last row.Stwu r w b p = stores_last store.Word address.OffsetUpdate r w b p
  effects_last row.Stwux r w b p = stores_last store.Word address.IndexedUpdate r w b p
  effects_last row.Lhbrx r w b p = loads_last load.HalfReversed address.Indexed r w b p
  effects_last row.Lwbrx r w b p = loads_last load.WordReversed address.Indexed r w b p
  effects_last row.Sthbrx r w b p = stores_last store.HalfReversed address.Indexed r w b p
  effects_last row.Stwbrx r w b p = stores_last store.WordReversed address.Indexed r w b p
  effects_last row.Lmw r w b p = load_multiple_last r w b (offset r w) p
  effects_last row.Stmw r w b p = store_multiple_last r w b (offset r w) p
  effects_last row.Twi r w b p = traps_last (traps w (in_ra r w) (si w)) r b p
  effects_last row.Tw r w b p = traps_last (traps w (in_ra r w) (in_rb r w)) r b p
  effects_last row.Lwarx r w b p = load_and_reserve_last r w b (indexed r w) p
  effects_last row.Stwcx r w b p = store_conditional_last r w b (indexed r w) p
  effects_last i r w b p = p

  pub executing_lasts : (r : Regs) (w : ℕ) (b : B) → P b → IfDone P (exec_of m r w b)
  unfolding exec_of
  executing_lasts r w b p = go (row_of w) where
    go : (o : Option Row) → IfDone P (row_effect m o r w b)
    go None = tt
    go (Some i) = effects_last i r w b p

-- so RAM has as many bytes as it had
pub sizes_last : (n : ℕ) → Lasts board_meaning (λ b. length b.ram ≡ n)
sizes_last n = record { loads = loads; stores = stores }
  where
    loads : (b : BusState) (k at : ℕ) → length b.ram ≡ n → length (loaded_at b k at).ram ≡ n
    loads b k at e = elim (has b.ram at k) as (λ t. length (cond t b (record b { slots = slots_loaded b.slots k at })).ram ≡ n) [ true ↦ e | false ↦ e ]

    stores : (b : BusState) (k at v : ℕ) → length b.ram ≡ n → length (stored_at b k at v).ram ≡ n
    stores b k at v e =
        elim (has b.ram at k) as (λ t. has b.ram at k ≡ t → length (cond t (record b { ram = with_number k b.ram at v }) (record b { slots = slots_stored b.slots k at v })).ram ≡ n) [
          | true ↦ λ h. length-with_number k b.ram at v h ∙ e
          | false ↦ λ h. e
        ] refl
