-- The effect of a row reads only the fields of its form.
use Rattle.std.proofs.Common.{◌≡◌, ℕ, refl, lit<}
use Rattle.ppc_word.specs.declared.row.Row.{Row}
use Rattle.ppc_word.specs.declared.row.Row.TheVariants as row
use Rattle.ppc_word.specs.Words.{field_places}
use Rattle.ppc_word.specs.Table.{table, number, form_of}
use Rattle.wind_base.specs.declared.regs.Regs.{Regs}
use Rattle.ppc_core.specs.Buses.{Meaning}
use Rattle.ppc_core.specs.Registers.{with_result, with_checked_result}
use Rattle.ppc_core.specs.Arithmetic.{with_sum, with_carrying, with_sum_carrying}
use Rattle.ppc_core.specs.Logic.{with_signed_shift}
use Rattle.ppc_core.specs.Conditions.{with_signed_order, with_order, traps, with_bt}
use Rattle.ppc_core.specs.Branches.{with_branch, with_test_and_branch}
use Rattle.ppc_core.specs.Storage.{load_of, store_of}
use Rattle.ppc_core.specs.Multiples.{load_multiple_of, store_multiple_of, load_and_reserve_of, store_conditional_of}
use Rattle.ppc_core.specs.Instructions.{effect_of}
use Rattle.ppc_core.specs.Names.{RT, RS, RA, RB, TO, BO, BI, BT, BA, BB, SH, MB, ME, BF, BFA, SI, UI, D, BD, LI, FXM, SPR, AA, LK, OE, Rc}
use Rattle.ppc_core.proofs.Agreeing.{AreSame}

module _ {B : Type 0} (m : Meaning B) where
  pub effect-same : (row : Row) (r : Regs) (v w : ℕ) (b : B) → AreSame (field_places (form_of row).pieces) v w → effect_of m row r v b ≡ effect_of m row r w b
  unfolding table number effect_of with_result with_checked_result with_sum with_carrying with_sum_carrying with_signed_shift with_signed_order with_order traps with_bt with_branch with_test_and_branch load_of store_of load_multiple_of store_multiple_of load_and_reserve_of store_conditional_of
  effect-same row.Twi r v w b h = rw (h.0 TO refl 0 (lit< tt), h.0 TO refl 1 (lit< tt), h.0 TO refl 2 (lit< tt), h.0 TO refl 3 (lit< tt), h.0 TO refl 4 (lit< tt), h.1.0 RA refl, (h.1.1.0 SI refl).0) refl
  effect-same row.Mulli r v w b h = rw (h.0 RT refl, h.1.0 RA refl, (h.1.1.0 SI refl).0) refl
  effect-same row.Subfic r v w b h = rw (h.0 RT refl, h.1.0 RA refl, (h.1.1.0 SI refl).0) refl
  effect-same row.Cmpli r v w b h = rw (h.0 BF refl, h.1.0 RA refl, (h.1.1.0 UI refl).0) refl
  effect-same row.Cmpi r v w b h = rw (h.0 BF refl, h.1.0 RA refl, (h.1.1.0 SI refl).0) refl
  effect-same row.Addic r v w b h = rw (h.0 RT refl, h.1.0 RA refl, (h.1.1.0 SI refl).0) refl
  effect-same row.AddicDot r v w b h = rw (h.0 RT refl, h.1.0 RA refl, (h.1.1.0 SI refl).0) refl
  effect-same row.Addi r v w b h = rw (h.0 RT refl, h.1.0 RA refl, (h.1.1.0 SI refl).0) refl
  effect-same row.Addis r v w b h = rw (h.0 RT refl, h.1.0 RA refl, (h.1.1.0 SI refl).1) refl
  effect-same row.Bc r v w b h = rw (h.0 BO refl 0 (lit< tt), h.0 BO refl 1 (lit< tt), h.0 BO refl 2 (lit< tt), h.0 BO refl 3 (lit< tt), h.1.0 BI refl, h.1.1.0 BD refl, h.1.1.1.0 AA refl, h.1.1.1.1.0 LK refl) refl
  effect-same row.Sc r v w b h = refl
  effect-same row.B r v w b h = rw (h.0 LI refl, h.1.0 AA refl, h.1.1.0 LK refl) refl
  effect-same row.Rlwimi r v w b h = rw (h.0 RS refl, h.1.0 RA refl, h.1.1.0 SH refl, h.1.1.1.0 MB refl, h.1.1.1.1.0 ME refl, h.1.1.1.1.1.0 Rc refl) refl
  effect-same row.Rlwinm r v w b h = rw (h.0 RS refl, h.1.0 RA refl, h.1.1.0 SH refl, h.1.1.1.0 MB refl, h.1.1.1.1.0 ME refl, h.1.1.1.1.1.0 Rc refl) refl
  effect-same row.Rlwnm r v w b h = rw (h.0 RS refl, h.1.0 RA refl, h.1.1.0 RB refl, h.1.1.1.0 MB refl, h.1.1.1.1.0 ME refl, h.1.1.1.1.1.0 Rc refl) refl
  effect-same row.Ori r v w b h = rw (h.0 RS refl, h.1.0 RA refl, (h.1.1.0 UI refl).0) refl
  effect-same row.Oris r v w b h = rw (h.0 RS refl, h.1.0 RA refl, (h.1.1.0 UI refl).1) refl
  effect-same row.Xori r v w b h = rw (h.0 RS refl, h.1.0 RA refl, (h.1.1.0 UI refl).0) refl
  effect-same row.Xoris r v w b h = rw (h.0 RS refl, h.1.0 RA refl, (h.1.1.0 UI refl).1) refl
  effect-same row.Andi r v w b h = rw (h.0 RS refl, h.1.0 RA refl, (h.1.1.0 UI refl).0) refl
  effect-same row.Andis r v w b h = rw (h.0 RS refl, h.1.0 RA refl, (h.1.1.0 UI refl).1) refl
  effect-same row.Lwz r v w b h = rw (h.0 RT refl, h.1.0 RA refl, h.1.1.0 D refl) refl
  effect-same row.Lwzu r v w b h = rw (h.0 RT refl, h.1.0 RA refl, h.1.1.0 D refl) refl
  effect-same row.Lbz r v w b h = rw (h.0 RT refl, h.1.0 RA refl, h.1.1.0 D refl) refl
  effect-same row.Lbzu r v w b h = rw (h.0 RT refl, h.1.0 RA refl, h.1.1.0 D refl) refl
  effect-same row.Stw r v w b h = rw (h.0 RS refl, h.1.0 RA refl, h.1.1.0 D refl) refl
  effect-same row.Stwu r v w b h = rw (h.0 RS refl, h.1.0 RA refl, h.1.1.0 D refl) refl
  effect-same row.Stb r v w b h = rw (h.0 RS refl, h.1.0 RA refl, h.1.1.0 D refl) refl
  effect-same row.Stbu r v w b h = rw (h.0 RS refl, h.1.0 RA refl, h.1.1.0 D refl) refl
  effect-same row.Lhz r v w b h = rw (h.0 RT refl, h.1.0 RA refl, h.1.1.0 D refl) refl
  effect-same row.Lhzu r v w b h = rw (h.0 RT refl, h.1.0 RA refl, h.1.1.0 D refl) refl
  effect-same row.Lha r v w b h = rw (h.0 RT refl, h.1.0 RA refl, h.1.1.0 D refl) refl
  effect-same row.Lhau r v w b h = rw (h.0 RT refl, h.1.0 RA refl, h.1.1.0 D refl) refl
  effect-same row.Sth r v w b h = rw (h.0 RS refl, h.1.0 RA refl, h.1.1.0 D refl) refl
  effect-same row.Sthu r v w b h = rw (h.0 RS refl, h.1.0 RA refl, h.1.1.0 D refl) refl
  effect-same row.Lmw r v w b h = rw (h.0 RT refl, h.1.0 RA refl, h.1.1.0 D refl) refl
  effect-same row.Stmw r v w b h = rw (h.0 RS refl, h.1.0 RA refl, h.1.1.0 D refl) refl
  effect-same row.Mcrf r v w b h = rw (h.0 BF refl, h.1.0 BFA refl) refl
  effect-same row.Bclr r v w b h = rw (h.0 BO refl 0 (lit< tt), h.0 BO refl 1 (lit< tt), h.0 BO refl 2 (lit< tt), h.0 BO refl 3 (lit< tt), h.1.0 BI refl, h.1.1.0 LK refl) refl
  effect-same row.Bcctr r v w b h = rw (h.0 BO refl 0 (lit< tt), h.0 BO refl 1 (lit< tt), h.0 BO refl 2 (lit< tt), h.0 BO refl 3 (lit< tt), h.1.0 BI refl, h.1.1.0 LK refl) refl
  effect-same row.Crnor r v w b h = rw (h.0 BT refl, h.1.0 BA refl, h.1.1.0 BB refl) refl
  effect-same row.Crandc r v w b h = rw (h.0 BT refl, h.1.0 BA refl, h.1.1.0 BB refl) refl
  effect-same row.Crxor r v w b h = rw (h.0 BT refl, h.1.0 BA refl, h.1.1.0 BB refl) refl
  effect-same row.Crnand r v w b h = rw (h.0 BT refl, h.1.0 BA refl, h.1.1.0 BB refl) refl
  effect-same row.Crand r v w b h = rw (h.0 BT refl, h.1.0 BA refl, h.1.1.0 BB refl) refl
  effect-same row.Creqv r v w b h = rw (h.0 BT refl, h.1.0 BA refl, h.1.1.0 BB refl) refl
  effect-same row.Crorc r v w b h = rw (h.0 BT refl, h.1.0 BA refl, h.1.1.0 BB refl) refl
  effect-same row.Cror r v w b h = rw (h.0 BT refl, h.1.0 BA refl, h.1.1.0 BB refl) refl
  effect-same row.Isync r v w b h = refl
  effect-same row.Cmp r v w b h = rw (h.0 BF refl, h.1.0 RA refl, h.1.1.0 RB refl) refl
  effect-same row.Cmpl r v w b h = rw (h.0 BF refl, h.1.0 RA refl, h.1.1.0 RB refl) refl
  effect-same row.Tw r v w b h = rw (h.0 TO refl 0 (lit< tt), h.0 TO refl 1 (lit< tt), h.0 TO refl 2 (lit< tt), h.0 TO refl 3 (lit< tt), h.0 TO refl 4 (lit< tt), h.1.0 RA refl, h.1.1.0 RB refl) refl
  effect-same row.Subfc r v w b h = rw (h.0 RT refl, h.1.0 RA refl, h.1.1.0 RB refl, h.1.1.1.0 OE refl, h.1.1.1.1.0 Rc refl) refl
  effect-same row.Subf r v w b h = rw (h.0 RT refl, h.1.0 RA refl, h.1.1.0 RB refl, h.1.1.1.0 OE refl, h.1.1.1.1.0 Rc refl) refl
  effect-same row.Addc r v w b h = rw (h.0 RT refl, h.1.0 RA refl, h.1.1.0 RB refl, h.1.1.1.0 OE refl, h.1.1.1.1.0 Rc refl) refl
  effect-same row.Add r v w b h = rw (h.0 RT refl, h.1.0 RA refl, h.1.1.0 RB refl, h.1.1.1.0 OE refl, h.1.1.1.1.0 Rc refl) refl
  effect-same row.Subfe r v w b h = rw (h.0 RT refl, h.1.0 RA refl, h.1.1.0 RB refl, h.1.1.1.0 OE refl, h.1.1.1.1.0 Rc refl) refl
  effect-same row.Adde r v w b h = rw (h.0 RT refl, h.1.0 RA refl, h.1.1.0 RB refl, h.1.1.1.0 OE refl, h.1.1.1.1.0 Rc refl) refl
  effect-same row.Subfze r v w b h = rw (h.0 RT refl, h.1.0 RA refl, h.1.1.0 OE refl, h.1.1.1.0 Rc refl) refl
  effect-same row.Addze r v w b h = rw (h.0 RT refl, h.1.0 RA refl, h.1.1.0 OE refl, h.1.1.1.0 Rc refl) refl
  effect-same row.Subfme r v w b h = rw (h.0 RT refl, h.1.0 RA refl, h.1.1.0 OE refl, h.1.1.1.0 Rc refl) refl
  effect-same row.Addme r v w b h = rw (h.0 RT refl, h.1.0 RA refl, h.1.1.0 OE refl, h.1.1.1.0 Rc refl) refl
  effect-same row.Neg r v w b h = rw (h.0 RT refl, h.1.0 RA refl, h.1.1.0 OE refl, h.1.1.1.0 Rc refl) refl
  effect-same row.Mulhwu r v w b h = rw (h.0 RT refl, h.1.0 RA refl, h.1.1.0 RB refl, h.1.1.1.0 Rc refl) refl
  effect-same row.Mulhw r v w b h = rw (h.0 RT refl, h.1.0 RA refl, h.1.1.0 RB refl, h.1.1.1.0 Rc refl) refl
  effect-same row.Mullw r v w b h = rw (h.0 RT refl, h.1.0 RA refl, h.1.1.0 RB refl, h.1.1.1.0 OE refl, h.1.1.1.1.0 Rc refl) refl
  effect-same row.Divwu r v w b h = rw (h.0 RT refl, h.1.0 RA refl, h.1.1.0 RB refl, h.1.1.1.0 OE refl, h.1.1.1.1.0 Rc refl) refl
  effect-same row.Divw r v w b h = rw (h.0 RT refl, h.1.0 RA refl, h.1.1.0 RB refl, h.1.1.1.0 OE refl, h.1.1.1.1.0 Rc refl) refl
  effect-same row.And r v w b h = rw (h.0 RS refl, h.1.0 RA refl, h.1.1.0 RB refl, h.1.1.1.0 Rc refl) refl
  effect-same row.Andc r v w b h = rw (h.0 RS refl, h.1.0 RA refl, h.1.1.0 RB refl, h.1.1.1.0 Rc refl) refl
  effect-same row.Or r v w b h = rw (h.0 RS refl, h.1.0 RA refl, h.1.1.0 RB refl, h.1.1.1.0 Rc refl) refl
  effect-same row.Orc r v w b h = rw (h.0 RS refl, h.1.0 RA refl, h.1.1.0 RB refl, h.1.1.1.0 Rc refl) refl
  effect-same row.Xor r v w b h = rw (h.0 RS refl, h.1.0 RA refl, h.1.1.0 RB refl, h.1.1.1.0 Rc refl) refl
  effect-same row.Eqv r v w b h = rw (h.0 RS refl, h.1.0 RA refl, h.1.1.0 RB refl, h.1.1.1.0 Rc refl) refl
  effect-same row.Nor r v w b h = rw (h.0 RS refl, h.1.0 RA refl, h.1.1.0 RB refl, h.1.1.1.0 Rc refl) refl
  effect-same row.Nand r v w b h = rw (h.0 RS refl, h.1.0 RA refl, h.1.1.0 RB refl, h.1.1.1.0 Rc refl) refl
  effect-same row.Slw r v w b h = rw (h.0 RS refl, h.1.0 RA refl, h.1.1.0 RB refl, h.1.1.1.0 Rc refl) refl
  effect-same row.Srw r v w b h = rw (h.0 RS refl, h.1.0 RA refl, h.1.1.0 RB refl, h.1.1.1.0 Rc refl) refl
  effect-same row.Sraw r v w b h = rw (h.0 RS refl, h.1.0 RA refl, h.1.1.0 RB refl, h.1.1.1.0 Rc refl) refl
  effect-same row.Srawi r v w b h = rw (h.0 RS refl, h.1.0 RA refl, h.1.1.0 SH refl, h.1.1.1.0 Rc refl) refl
  effect-same row.Cntlzw r v w b h = rw (h.0 RS refl, h.1.0 RA refl, h.1.1.0 Rc refl) refl
  effect-same row.Extsb r v w b h = rw (h.0 RS refl, h.1.0 RA refl, h.1.1.0 Rc refl) refl
  effect-same row.Extsh r v w b h = rw (h.0 RS refl, h.1.0 RA refl, h.1.1.0 Rc refl) refl
  effect-same row.Mfcr r v w b h = rw (h.0 RT refl) refl
  effect-same row.Mtcrf r v w b h = rw (h.0 RS refl, h.1.0 FXM refl 0 (lit< tt), h.1.0 FXM refl 1 (lit< tt), h.1.0 FXM refl 2 (lit< tt), h.1.0 FXM refl 3 (lit< tt), h.1.0 FXM refl 4 (lit< tt), h.1.0 FXM refl 5 (lit< tt), h.1.0 FXM refl 6 (lit< tt), h.1.0 FXM refl 7 (lit< tt)) refl
  effect-same row.Mcrxr r v w b h = rw (h.0 BF refl) refl
  effect-same row.Mfspr r v w b h = rw (h.0 RT refl, h.1.0 SPR refl) refl
  effect-same row.Mtspr r v w b h = rw (h.0 RS refl, h.1.0 SPR refl) refl
  effect-same row.Lwzx r v w b h = rw (h.0 RT refl, h.1.0 RA refl, h.1.1.0 RB refl) refl
  effect-same row.Lbzx r v w b h = rw (h.0 RT refl, h.1.0 RA refl, h.1.1.0 RB refl) refl
  effect-same row.Lhzx r v w b h = rw (h.0 RT refl, h.1.0 RA refl, h.1.1.0 RB refl) refl
  effect-same row.Lhax r v w b h = rw (h.0 RT refl, h.1.0 RA refl, h.1.1.0 RB refl) refl
  effect-same row.Lwzux r v w b h = rw (h.0 RT refl, h.1.0 RA refl, h.1.1.0 RB refl) refl
  effect-same row.Lbzux r v w b h = rw (h.0 RT refl, h.1.0 RA refl, h.1.1.0 RB refl) refl
  effect-same row.Lhzux r v w b h = rw (h.0 RT refl, h.1.0 RA refl, h.1.1.0 RB refl) refl
  effect-same row.Lhaux r v w b h = rw (h.0 RT refl, h.1.0 RA refl, h.1.1.0 RB refl) refl
  effect-same row.Stwx r v w b h = rw (h.0 RS refl, h.1.0 RA refl, h.1.1.0 RB refl) refl
  effect-same row.Stbx r v w b h = rw (h.0 RS refl, h.1.0 RA refl, h.1.1.0 RB refl) refl
  effect-same row.Sthx r v w b h = rw (h.0 RS refl, h.1.0 RA refl, h.1.1.0 RB refl) refl
  effect-same row.Stwux r v w b h = rw (h.0 RS refl, h.1.0 RA refl, h.1.1.0 RB refl) refl
  effect-same row.Stbux r v w b h = rw (h.0 RS refl, h.1.0 RA refl, h.1.1.0 RB refl) refl
  effect-same row.Sthux r v w b h = rw (h.0 RS refl, h.1.0 RA refl, h.1.1.0 RB refl) refl
  effect-same row.Lwbrx r v w b h = rw (h.0 RT refl, h.1.0 RA refl, h.1.1.0 RB refl) refl
  effect-same row.Lhbrx r v w b h = rw (h.0 RT refl, h.1.0 RA refl, h.1.1.0 RB refl) refl
  effect-same row.Stwbrx r v w b h = rw (h.0 RS refl, h.1.0 RA refl, h.1.1.0 RB refl) refl
  effect-same row.Sthbrx r v w b h = rw (h.0 RS refl, h.1.0 RA refl, h.1.1.0 RB refl) refl
  effect-same row.Lwarx r v w b h = rw (h.0 RT refl, h.1.0 RA refl, h.1.1.0 RB refl) refl
  effect-same row.Stwcx r v w b h = rw (h.0 RS refl, h.1.0 RA refl, h.1.1.0 RB refl) refl
  effect-same row.Sync r v w b h = refl
  effect-same row.Eieio r v w b h = refl
