-- The effect of each instruction: one equation for each row, in the order of the books.
use Rattle.std.specs.Prelude.{ℕ, ◌-◌, ◌*◌, ◌%◌, ◌^◌, Bool, true, if◌then◌else◌, Option, Some, None, bit_and, bit_or, bit_xor}
use Rattle.std.specs.Int.{leading_zeros, w32}
use Rattle.ppc_word.specs.declared.row.Row.{Row}
use Rattle.ppc_word.specs.declared.row.Row.TheVariants as row
use Rattle.ppc_word.specs.Rows.{row_of}
use Rattle.wind_base.specs.declared.regs.Regs.{Regs}
use Rattle.ppc_core.specs.declared.trap.Trap.TheVariants as trap
use Rattle.ppc_core.specs.declared.storage.Load.TheVariants as load
use Rattle.ppc_core.specs.declared.storage.Store.TheVariants as store
use Rattle.ppc_core.specs.declared.storage.Address.TheVariants as address
use Rattle.ppc_core.specs.Buses.{Meaning}
use Rattle.ppc_core.specs.Outcomes.{Outcome, Done, Trapped}
use Rattle.ppc_core.specs.Words.{bits, complement, sign_extended}
use Rattle.ppc_core.specs.Fields.{rt, ra, rb, si, ui, high_ui, bf, bfa, spr, li, bd}
use Rattle.ppc_core.specs.Registers.{in_rs, in_ra, in_rb, in_ra_or_0, ca, with_gpr, with_cr0, with_cr_field, with_recorded, with_result, next}
use Rattle.ppc_core.specs.Arithmetic.{sum, with_carrying, with_sum, with_sum_carrying, low_signed, high_signed, high_unsigned, with_product, with_quotient, with_signed_quotient}
use Rattle.ppc_core.specs.Logic.{mask_of, rotated, merged, distance, shifted_left, shifted_right, with_signed_shift}
use Rattle.ppc_core.specs.Conditions.{with_signed_order, with_order, traps, in_ba, in_bb, with_bt, inverted, cr_field, flags, moved_fields, special, with_special}
use Rattle.ppc_core.specs.Branches.{from_here, with_branch, with_test_and_branch}
use Rattle.ppc_core.specs.Storage.{offset, indexed, load_of, store_of}
use Rattle.ppc_core.specs.Multiples.{load_multiple_of, store_multiple_of, load_and_reserve_of, store_conditional_of}

-- the registers are these, and the next instruction follows
abbrev pub done : {B : Type 0} → Regs → B → Outcome B
done r b = Done (next r) b

-- a trap if the condition holds, otherwise nothing but the next instruction
abbrev pub trap_where : {B : Type 0} → Bool → Regs → B → Outcome B
trap_where trapped r b = if trapped then Trapped trap.TrapInsn else done r b

module _ {B : Type 0} (m : Meaning B) where
  unfoldable pub effect_of : Row → Regs → ℕ → B → Outcome B
  -- branches (Book I 2.4.1), system call (2.4.2)
  effect_of row.B r w b = Done (with_branch r w true (from_here r w (li w))) b
  effect_of row.Bc r w b = Done (with_test_and_branch r w (from_here r w (bd w))) b
  effect_of row.Bclr r w b = Done (with_test_and_branch r w r.lr) b
  effect_of row.Bcctr r w b = Done (with_test_and_branch r w r.ctr) b
  effect_of row.Sc r w b = Trapped trap.Sysc
  -- condition register (2.4.3, 2.4.4)
  effect_of row.Crand r w b = done (with_bt r w (bit_and (in_ba r w) (in_bb r w))) b
  effect_of row.Cror r w b = done (with_bt r w (bit_or (in_ba r w) (in_bb r w))) b
  effect_of row.Crxor r w b = done (with_bt r w (bit_xor (in_ba r w) (in_bb r w))) b
  effect_of row.Crnand r w b = done (with_bt r w (inverted (bit_and (in_ba r w) (in_bb r w)))) b
  effect_of row.Crnor r w b = done (with_bt r w (inverted (bit_or (in_ba r w) (in_bb r w)))) b
  effect_of row.Creqv r w b = done (with_bt r w (inverted (bit_xor (in_ba r w) (in_bb r w)))) b
  effect_of row.Crandc r w b = done (with_bt r w (bit_and (in_ba r w) (inverted (in_bb r w)))) b
  effect_of row.Crorc r w b = done (with_bt r w (bit_or (in_ba r w) (inverted (in_bb r w)))) b
  effect_of row.Mcrf r w b = done (with_cr_field r (bf w) (cr_field r (bfa w))) b
  -- loads (3.3.2)
  effect_of row.Lbz r w b = load_of m load.Byte address.Offset r w b
  effect_of row.Lbzx r w b = load_of m load.Byte address.Indexed r w b
  effect_of row.Lbzu r w b = load_of m load.Byte address.OffsetUpdate r w b
  effect_of row.Lbzux r w b = load_of m load.Byte address.IndexedUpdate r w b
  effect_of row.Lhz r w b = load_of m load.Half address.Offset r w b
  effect_of row.Lhzx r w b = load_of m load.Half address.Indexed r w b
  effect_of row.Lhzu r w b = load_of m load.Half address.OffsetUpdate r w b
  effect_of row.Lhzux r w b = load_of m load.Half address.IndexedUpdate r w b
  effect_of row.Lha r w b = load_of m load.HalfSigned address.Offset r w b
  effect_of row.Lhax r w b = load_of m load.HalfSigned address.Indexed r w b
  effect_of row.Lhau r w b = load_of m load.HalfSigned address.OffsetUpdate r w b
  effect_of row.Lhaux r w b = load_of m load.HalfSigned address.IndexedUpdate r w b
  effect_of row.Lwz r w b = load_of m load.Word address.Offset r w b
  effect_of row.Lwzx r w b = load_of m load.Word address.Indexed r w b
  effect_of row.Lwzu r w b = load_of m load.Word address.OffsetUpdate r w b
  effect_of row.Lwzux r w b = load_of m load.Word address.IndexedUpdate r w b
  -- stores (3.3.3)
  effect_of row.Stb r w b = store_of m store.Byte address.Offset r w b
  effect_of row.Stbx r w b = store_of m store.Byte address.Indexed r w b
  effect_of row.Stbu r w b = store_of m store.Byte address.OffsetUpdate r w b
  effect_of row.Stbux r w b = store_of m store.Byte address.IndexedUpdate r w b
  effect_of row.Sth r w b = store_of m store.Half address.Offset r w b
  effect_of row.Sthx r w b = store_of m store.Half address.Indexed r w b
  effect_of row.Sthu r w b = store_of m store.Half address.OffsetUpdate r w b
  effect_of row.Sthux r w b = store_of m store.Half address.IndexedUpdate r w b
  effect_of row.Stw r w b = store_of m store.Word address.Offset r w b
  effect_of row.Stwx r w b = store_of m store.Word address.Indexed r w b
  effect_of row.Stwu r w b = store_of m store.Word address.OffsetUpdate r w b
  effect_of row.Stwux r w b = store_of m store.Word address.IndexedUpdate r w b
  -- byte reversal (3.3.4), many words (3.3.5)
  effect_of row.Lhbrx r w b = load_of m load.HalfReversed address.Indexed r w b
  effect_of row.Lwbrx r w b = load_of m load.WordReversed address.Indexed r w b
  effect_of row.Sthbrx r w b = store_of m store.HalfReversed address.Indexed r w b
  effect_of row.Stwbrx r w b = store_of m store.WordReversed address.Indexed r w b
  effect_of row.Lmw r w b = load_multiple_of m r w b (offset r w)
  effect_of row.Stmw r w b = store_multiple_of m r w b (offset r w)
  -- sums (3.3.8)
  effect_of row.Addi r w b = done (with_gpr r (rt w) (sum (in_ra_or_0 r w) (si w) 0)) b
  effect_of row.Addis r w b = done (with_gpr r (rt w) (sum (in_ra_or_0 r w) (high_ui w) 0)) b
  effect_of row.Addic r w b = done (with_carrying r w (in_ra r w) (si w) 0) b
  effect_of row.AddicDot r w b =
      done (with_cr0 (with_carrying r w (in_ra r w) (si w) 0) (sum (in_ra r w) (si w) 0)) b
  effect_of row.Subfic r w b = done (with_carrying r w (complement (in_ra r w)) (si w) 1) b
  effect_of row.Add r w b = done (with_sum r w (in_ra r w) (in_rb r w) 0) b
  effect_of row.Subf r w b = done (with_sum r w (complement (in_ra r w)) (in_rb r w) 1) b
  effect_of row.Neg r w b = done (with_sum r w (complement (in_ra r w)) 0 1) b
  effect_of row.Addc r w b = done (with_sum_carrying r w (in_ra r w) (in_rb r w) 0) b
  effect_of row.Subfc r w b = done (with_sum_carrying r w (complement (in_ra r w)) (in_rb r w) 1) b
  effect_of row.Adde r w b = done (with_sum_carrying r w (in_ra r w) (in_rb r w) (ca r)) b
  effect_of row.Subfe r w b = done (with_sum_carrying r w (complement (in_ra r w)) (in_rb r w) (ca r)) b
  effect_of row.Addme r w b = done (with_sum_carrying r w (in_ra r w) (2 ^ 32 - 1) (ca r)) b
  effect_of row.Subfme r w b = done (with_sum_carrying r w (complement (in_ra r w)) (2 ^ 32 - 1) (ca r)) b
  effect_of row.Addze r w b = done (with_sum_carrying r w (in_ra r w) 0 (ca r)) b
  effect_of row.Subfze r w b = done (with_sum_carrying r w (complement (in_ra r w)) 0 (ca r)) b
  -- products and quotients (3.3.8)
  effect_of row.Mulli r w b = done (with_gpr r (rt w) (low_signed (in_ra r w) (si w))) b
  effect_of row.Mulhwu r w b = done (with_result r w (rt w) (high_unsigned (in_ra r w) (in_rb r w))) b
  effect_of row.Mulhw r w b = done (with_result r w (rt w) (high_signed (in_ra r w) (in_rb r w))) b
  effect_of row.Mullw r w b = done (with_product r w (in_ra r w) (in_rb r w)) b
  effect_of row.Divwu r w b = done (with_quotient r w (in_ra r w) (in_rb r w)) b
  effect_of row.Divw r w b = done (with_signed_quotient r w (in_ra r w) (in_rb r w)) b
  -- comparisons (3.3.9), traps (3.3.10)
  effect_of row.Cmpi r w b = done (with_signed_order r w (in_ra r w) (si w)) b
  effect_of row.Cmp r w b = done (with_signed_order r w (in_ra r w) (in_rb r w)) b
  effect_of row.Cmpli r w b = done (with_order r w (in_ra r w) (ui w)) b
  effect_of row.Cmpl r w b = done (with_order r w (in_ra r w) (in_rb r w)) b
  effect_of row.Twi r w b = trap_where (traps w (in_ra r w) (si w)) r b
  effect_of row.Tw r w b = trap_where (traps w (in_ra r w) (in_rb r w)) r b
  -- logic (3.3.11)
  effect_of row.Andi r w b = done (with_recorded r (ra w) (bit_and (in_rs r w) (ui w))) b
  effect_of row.Andis r w b = done (with_recorded r (ra w) (bit_and (in_rs r w) (high_ui w))) b
  effect_of row.Ori r w b = done (with_gpr r (ra w) (bit_or (in_rs r w) (ui w))) b
  effect_of row.Oris r w b = done (with_gpr r (ra w) (bit_or (in_rs r w) (high_ui w))) b
  effect_of row.Xori r w b = done (with_gpr r (ra w) (bit_xor (in_rs r w) (ui w))) b
  effect_of row.Xoris r w b = done (with_gpr r (ra w) (bit_xor (in_rs r w) (high_ui w))) b
  effect_of row.And r w b = done (with_result r w (ra w) (bit_and (in_rs r w) (in_rb r w))) b
  effect_of row.Or r w b = done (with_result r w (ra w) (bit_or (in_rs r w) (in_rb r w))) b
  effect_of row.Xor r w b = done (with_result r w (ra w) (bit_xor (in_rs r w) (in_rb r w))) b
  effect_of row.Nand r w b = done (with_result r w (ra w) (complement (bit_and (in_rs r w) (in_rb r w)))) b
  effect_of row.Nor r w b = done (with_result r w (ra w) (complement (bit_or (in_rs r w) (in_rb r w)))) b
  effect_of row.Eqv r w b = done (with_result r w (ra w) (complement (bit_xor (in_rs r w) (in_rb r w)))) b
  effect_of row.Andc r w b = done (with_result r w (ra w) (bit_and (in_rs r w) (complement (in_rb r w)))) b
  effect_of row.Orc r w b = done (with_result r w (ra w) (bit_or (in_rs r w) (complement (in_rb r w)))) b
  effect_of row.Extsb r w b = done (with_result r w (ra w) (sign_extended 8 (in_rs r w % 2 ^ 8))) b
  effect_of row.Extsh r w b = done (with_result r w (ra w) (sign_extended 16 (in_rs r w % 2 ^ 16))) b
  effect_of row.Cntlzw r w b = done (with_result r w (ra w) (leading_zeros w32 (in_rs r w))) b
  -- rotation and shifts (3.3.12)
  effect_of row.Rlwinm r w b = done (with_result r w (ra w) (bit_and (rotated r w (rb w)) (mask_of w))) b
  effect_of row.Rlwnm r w b =
      done (with_result r w (ra w) (bit_and (rotated r w (bits (in_rb r w) 27 31)) (mask_of w))) b
  effect_of row.Rlwimi r w b = done (with_result r w (ra w) (merged (mask_of w) (rotated r w (rb w)) (in_ra r w))) b
  effect_of row.Slw r w b = done (with_result r w (ra w) (shifted_left (in_rs r w) (distance r w))) b
  effect_of row.Srw r w b = done (with_result r w (ra w) (shifted_right (in_rs r w) (distance r w))) b
  effect_of row.Srawi r w b = done (with_signed_shift r w (rb w)) b
  effect_of row.Sraw r w b = done (with_signed_shift r w (distance r w)) b
  -- special registers and the condition register (3.3.13)
  effect_of row.Mtspr r w b = done (with_special r (spr w) (in_rs r w)) b
  effect_of row.Mfspr r w b = done (with_gpr r (rt w) (special r (spr w))) b
  effect_of row.Mtcrf r w b = done (record r { cr = moved_fields r.cr (in_rs r w) w 8 }) b
  effect_of row.Mcrxr r w b = done (record (with_cr_field r (bf w) (flags r * 2)) { xer = 0 }) b
  effect_of row.Mfcr r w b = done (with_gpr r (rt w) r.cr) b
  -- reservations and the order of accesses (Book II 3.3)
  effect_of row.Lwarx r w b = load_and_reserve_of m r w b (indexed r w)
  effect_of row.Stwcx r w b = store_conditional_of m r w b (indexed r w)
  effect_of row.Isync r w b = done r b
  effect_of row.Sync r w b = done r b
  effect_of row.Eieio r w b = done r b

  -- the effect of an optional row: that of the row, or Illegal if there is none
  abbrev pub row_effect : Option Row → Regs → ℕ → B → Outcome B
  row_effect None r w b = Trapped trap.Illegal
  row_effect (Some row) r w b = effect_of row r w b

  unfoldable pub exec_of : Regs → ℕ → B → Outcome B
  exec_of r w b = row_effect (row_of w) r w b
