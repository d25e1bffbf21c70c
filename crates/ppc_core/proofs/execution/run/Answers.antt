-- Each arm of the match makes the registers of its row's equation.
use Rattle.std.proofs.Common.{rules}
use Rattle.ppc_core.specs.Instructions.{effect_of}
use Rattle.ppc_core.proofs.execution.run.Goals as goal
use Rattle.ppc_core.proofs.execution.run.Goals.{in-Crand, in-Cror, in-Crxor, in-Crnand, in-Crnor, in-Creqv, in-Crandc, in-Crorc, in-Mcrf, in-Addi, in-Addis, in-Addic, in-AddicDot, in-Subfic, in-Add, in-Subf, in-Neg, in-Addc, in-Subfc, in-Adde, in-Subfe, in-Addme, in-Subfme, in-Addze, in-Subfze, in-Mulli, in-Mulhwu, in-Mulhw, in-Mullw, in-Divwu, in-Divw, in-Cmpi, in-Cmp, in-Cmpli, in-Cmpl, in-Andi, in-Andis, in-Ori, in-Oris, in-Xori, in-Xoris, in-And, in-Or, in-Xor, in-Nand, in-Nor, in-Eqv, in-Andc, in-Orc, in-Extsb, in-Extsh, in-Cntlzw, in-Rlwinm, in-Rlwnm, in-Rlwimi, in-Slw, in-Srw, in-Srawi, in-Sraw, in-Mtspr, in-Mfspr, in-Mtcrf, in-Mcrxr, in-Mfcr, in-Isync, in-Sync, in-Eieio}

pub returns : goal.returns
unfolding effect_of
returns g c =
    elim c.match-row.branch [
      | in-Crand w ↦ search rules
      | in-Cror w ↦ search rules
      | in-Crxor w ↦ search rules
      | in-Crnand w ↦ search rules
      | in-Crnor w ↦ search rules
      | in-Creqv w ↦ search rules
      | in-Crandc w ↦ search rules
      | in-Crorc w ↦ search rules
      | in-Mcrf w ↦ search rules
      | in-Addi w ↦ search rules
      | in-Addis w ↦ search rules
      | in-Addic w ↦ search rules
      | in-AddicDot w ↦ search rules
      | in-Subfic w ↦ search rules
      | in-Add w ↦ search rules
      | in-Subf w ↦ search rules
      | in-Neg w ↦ search rules
      | in-Addc w ↦ search rules
      | in-Subfc w ↦ search rules
      | in-Adde w ↦ search rules
      | in-Subfe w ↦ search rules
      | in-Addme w ↦ search rules
      | in-Subfme w ↦ search rules
      | in-Addze w ↦ search rules
      | in-Subfze w ↦ search rules
      | in-Mulli w ↦ search rules
      | in-Mulhwu w ↦ search rules
      | in-Mulhw w ↦ search rules
      | in-Mullw w ↦ search rules
      | in-Divwu w ↦ search rules
      | in-Divw w ↦ search rules
      | in-Cmpi w ↦ search rules
      | in-Cmp w ↦ search rules
      | in-Cmpli w ↦ search rules
      | in-Cmpl w ↦ search rules
      | in-Andi w ↦ search rules
      | in-Andis w ↦ search rules
      | in-Ori w ↦ search rules
      | in-Oris w ↦ search rules
      | in-Xori w ↦ search rules
      | in-Xoris w ↦ search rules
      | in-And w ↦ search rules
      | in-Or w ↦ search rules
      | in-Xor w ↦ search rules
      | in-Nand w ↦ search rules
      | in-Nor w ↦ search rules
      | in-Eqv w ↦ search rules
      | in-Andc w ↦ search rules
      | in-Orc w ↦ search rules
      | in-Extsb w ↦ search rules
      | in-Extsh w ↦ search rules
      | in-Cntlzw w ↦ search rules
      | in-Rlwinm w ↦ search rules
      | in-Rlwnm w ↦ search rules
      | in-Rlwimi w ↦ search rules
      | in-Slw w ↦ search rules
      | in-Srw w ↦ search rules
      | in-Srawi w ↦ search rules
      | in-Sraw w ↦ search rules
      | in-Mtspr w ↦ search rules
      | in-Mfspr w ↦ search rules
      | in-Mtcrf w ↦ search rules
      | in-Mcrxr w ↦ search rules
      | in-Mfcr w ↦ search rules
      | in-Isync w ↦ search rules
      | in-Sync w ↦ search rules
      | in-Eieio w ↦ search rules
    ]
