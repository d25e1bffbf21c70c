-- Branches (Book I 2.4.1).
use Rattle.std.specs.Prelude.{ℕ, ◌+◌, ◌-◌, ◌*◌, ◌/◌, ◌%◌, ◌^◌, Bool, ◌==◌, ◌&&◌, ◌||◌, if◌then◌else◌}
use Rattle.wind_base.specs.declared.regs.Regs.{Regs}
use Rattle.ppc_core.specs.Words.{bits, bit}
use Rattle.ppc_core.specs.Fields.{ra, aa, lk, bo}

-- CTR, minus 1 if bit 2 of BO is 0
abbrev pub counted : Regs → ℕ → ℕ
counted r w = if bo w 2 == 0 then (r.ctr + (2 ^ 32 - 1)) % 2 ^ 32 else r.ctr

-- whether CTR after the decrement allows the branch: bit 3 of BO says whether it must be 0 or not
abbrev pub ctr_ok : Regs → ℕ → Bool
ctr_ok r w = bo w 2 == 1 || bo w 3 == bit (counted r w == 0)

-- whether CR bit BI allows the branch: it must equal bit 1 of BO, unless bit 0 of BO is set
abbrev pub cond_ok : Regs → ℕ → Bool
cond_ok r w = bo w 0 == 1 || bits r.cr (ra w) (ra w) == bo w 1

-- the target of a branch: an address if AA is set, otherwise a displacement from the branch
abbrev pub from_here : Regs → ℕ → ℕ → ℕ
from_here r w displacement = if aa w then displacement else (r.pc + displacement) % 2 ^ 32

-- a branch: to its target, with the last two bits cleared, if it is taken, otherwise to the next instruction;
-- with LK, LR becomes the address of the next instruction
unfoldable pub with_branch : Regs → ℕ → Bool → ℕ → Regs
with_branch r w taken target =
    let after = (r.pc + 4) % 2 ^ 32 in
    record r { lr = if lk w then after else r.lr; pc = if taken then target / 4 * 4 else after }

-- a branch that tests BO and BI
unfoldable pub with_test_and_branch : Regs → ℕ → ℕ → Regs
with_test_and_branch r w target =
    with_branch (record r { ctr = counted r w }) w (ctr_ok r w && cond_ok r w) target
