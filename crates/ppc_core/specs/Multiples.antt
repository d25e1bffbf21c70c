-- Loads and stores of several words (Book I 3.3.5), and reservations (Book II 3.3.2): only in RAM, at multiples of 4.
use Rattle.std.specs.Prelude.{ℕ, zero, suc, ◌+◌, ◌-◌, ◌*◌, ◌%◌, Bool, false, ◌==◌, if◌then◌else◌, Option, Some, None}
use Rattle.wind_base.specs.declared.regs.Regs.{Regs}
use Rattle.ppc_core.specs.declared.trap.Trap.TheVariants as trap
use Rattle.ppc_core.specs.declared.multiple.Direction.{Direction}
use Rattle.ppc_core.specs.declared.multiple.Direction.TheVariants as direction
use Rattle.ppc_core.specs.Words.{bit}
use Rattle.ppc_core.specs.Fields.{rt}
use Rattle.ppc_core.specs.Registers.{gpr, in_rs, so, with_gpr, with_cr_field, next}
use Rattle.ppc_core.specs.Buses.{Meaning, all_ram}
use Rattle.ppc_core.specs.Outcomes.{Outcome, Done, Trapped}

-- whether an address is reserved
abbrev pub is_reserved : Option ℕ → ℕ → Bool
is_reserved None at = false
is_reserved (Some n) at = n == at

module _ {B : Type 0} (m : Meaning B) where
  -- the bus after n words from an address on were loaded, one after the other
  abbrev pub words_loaded : B → ℕ → ℕ → B
  words_loaded b at zero = b
  words_loaded b at (suc k) = m.loaded (words_loaded b at k) 4 (at + 4 * k)

  -- the registers after n of them, from one on, were loaded with these words
  abbrev pub with_words : Regs → B → ℕ → ℕ → ℕ → Regs
  with_words r b t at zero = r
  with_words r b t at (suc k) = with_gpr (with_words r b t at k) (t + k) (m.answer (words_loaded b at k) 4 (at + 4 * k))

  -- the bus after n registers, from one on, were stored from an address on
  abbrev pub words_stored : Regs → B → ℕ → ℕ → ℕ → B
  words_stored r b t at zero = b
  words_stored r b t at (suc k) = m.stored (words_stored r b t at k) 4 (at + 4 * k) (gpr r (t + k))

  -- an access of n bytes: it traps with Align if the address isn't a multiple of 4, otherwise with Access if a byte isn't RAM
  abbrev pub in_ram : B → ℕ → ℕ → Outcome B → Outcome B
  in_ram b at n outcome =
      if at % 4 == 0 then (if all_ram m b at n then outcome else Trapped trap.Access) else Trapped trap.Align

  -- the registers RT to 31 are loaded from the words from an address on
  unfoldable pub load_multiple_of : Regs → ℕ → B → ℕ → Outcome B
  load_multiple_of r w b at =
      let n = 32 - rt w in in_ram b at (4 * n) (Done (next (with_words r b (rt w) at n)) (words_loaded b at n))

  -- the registers RS to 31 are stored to the words from an address on
  unfoldable pub store_multiple_of : Regs → ℕ → B → ℕ → Outcome B
  store_multiple_of r w b at = let n = 32 - rt w in in_ram b at (4 * n) (Done (next r) (words_stored r b (rt w) at n))

  -- the registers RT to 31 are loaded or stored
  abbrev pub multiple_of : Direction → Regs → ℕ → B → ℕ → Outcome B
  multiple_of direction.Load = load_multiple_of
  multiple_of direction.Store = store_multiple_of

  -- the word at an address is loaded into RT, and the address is reserved
  unfoldable pub load_and_reserve_of : Regs → ℕ → B → ℕ → Outcome B
  load_and_reserve_of r w b at =
      in_ram b at 4 (Done (next (record (with_gpr r (rt w) (m.answer b 4 at)) { reserve = Some at })) (m.loaded b 4 at))

  -- (RS) is stored at an address if that is reserved; CR0 says whether it was, and afterwards no address is reserved
  unfoldable pub store_conditional_of : Regs → ℕ → B → ℕ → Outcome B
  store_conditional_of r w b at =
      let stored = is_reserved r.reserve at in
      in_ram b at 4
      (Done
      (next (record (with_cr_field r 0 (2 * bit stored + so r)) { reserve = None }))
      (if stored then m.stored b 4 at (in_rs r w) else b))
