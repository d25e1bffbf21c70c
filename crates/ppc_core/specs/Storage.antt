-- Loads and stores of one datum (Book I 3.3.2 to 3.3.4).
use Rattle.std.specs.Prelude.{ℕ, ◌+◌, ◌*◌, ◌/◌, ◌%◌, ◌^◌, if◌then◌else◌}
use Rattle.wind_base.specs.declared.regs.Regs.{Regs}
use Rattle.ppc_core.specs.declared.trap.Trap.TheVariants as trap
use Rattle.ppc_core.specs.declared.storage.Load.{Load}
use Rattle.ppc_core.specs.declared.storage.Load.TheVariants as load
use Rattle.ppc_core.specs.declared.storage.Store.{Store}
use Rattle.ppc_core.specs.declared.storage.Store.TheVariants as store
use Rattle.ppc_core.specs.declared.storage.Address.{Address}
use Rattle.ppc_core.specs.declared.storage.Address.TheVariants as address
use Rattle.ppc_core.specs.Words.{sign_extended}
use Rattle.ppc_core.specs.Fields.{rt, ra, si}
use Rattle.ppc_core.specs.Registers.{in_rs, in_rb, in_ra_or_0, with_gpr, next}
use Rattle.ppc_core.specs.Buses.{Meaning}
use Rattle.ppc_core.specs.Outcomes.{Outcome, Done, Trapped}

-- the effective address (RA|0) + D
abbrev pub offset : Regs → ℕ → ℕ
offset r w = (in_ra_or_0 r w + si w) % 2 ^ 32

-- the effective address (RA|0) + (RB)
abbrev pub indexed : Regs → ℕ → ℕ
indexed r w = (in_ra_or_0 r w + in_rb r w) % 2 ^ 32

-- a halfword with its bytes reversed
abbrev pub reversed_half : ℕ → ℕ
reversed_half n = n % 2 ^ 8 * 2 ^ 8 + n / 2 ^ 8

-- a word with its bytes reversed
abbrev pub reversed_word : ℕ → ℕ
reversed_word n = reversed_half (n % 2 ^ 16) * 2 ^ 16 + reversed_half (n / 2 ^ 16)

-- the number of bytes that a load reads
abbrev pub load_width : Load → ℕ
load_width load.Byte = 1
load_width load.Word = 4
load_width load.WordReversed = 4
load_width _ = 2

-- the number of bytes that a store writes
abbrev pub store_width : Store → ℕ
store_width store.Byte = 1
store_width store.Word = 4
store_width store.WordReversed = 4
store_width _ = 2

-- the content of the register after a load of a number
abbrev pub taken : Load → ℕ → ℕ
taken load.HalfSigned n = sign_extended 16 n
taken load.HalfReversed n = reversed_half n
taken load.WordReversed n = reversed_word n
taken _ n = n

-- the number that a store writes from a register's word
abbrev pub given : Store → ℕ → ℕ
given store.Byte n = n % 2 ^ 8
given store.Half n = n % 2 ^ 16
given store.HalfReversed n = reversed_half (n % 2 ^ 16)
given store.Word n = n
given store.WordReversed n = reversed_word n

-- the effective address for each form
abbrev pub address_of : Address → Regs → ℕ → ℕ
address_of address.Offset r w = offset r w
address_of address.OffsetUpdate r w = offset r w
address_of address.Indexed r w = indexed r w
address_of address.IndexedUpdate r w = indexed r w

-- the registers after an access: the forms with update set RA to the effective address
abbrev pub with_base : Address → Regs → ℕ → ℕ → Regs
with_base address.Offset r w at = r
with_base address.OffsetUpdate r w at = with_gpr r (ra w) at
with_base address.Indexed r w at = r
with_base address.IndexedUpdate r w at = with_gpr r (ra w) at

module _ {B : Type 0} (m : Meaning B) where
  -- the datum at the effective address is loaded into RT
  unfoldable pub load_of : Load → Address → Regs → ℕ → B → Outcome B
  load_of l a r w b =
      let at = address_of a r w in
      let n = load_width l in
      let after = with_base a (with_gpr r (rt w) (taken l (m.answer b n at))) w at in
      if m.faults b n at then Trapped trap.Access else Done (next after) (m.loaded b n at)

  -- (RS) is stored at the effective address
  unfoldable pub store_of : Store → Address → Regs → ℕ → B → Outcome B
  store_of s a r w b =
      let at = address_of a r w in
      let n = store_width s in
      let after = with_base a r w at in
      if m.faults b n at then Trapped trap.Access else Done (next after) (m.stored b n at (given s (in_rs r w)))
