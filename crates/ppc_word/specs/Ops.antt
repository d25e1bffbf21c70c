-- Which words an operation stands for, and the immediate operand that is made of a word beforehand.
use Rattle.std.specs.Prelude.{ℕ, Bool, true, not, ◌&&◌, ◌==◌, if◌then◌else◌, List, [], ◌∷◌}
use Rattle.ppc_word.specs.declared.row.Row.{Row}
use Rattle.ppc_word.specs.declared.row.Row.TheVariants as row
use Rattle.ppc_word.specs.declared.op.Op.{Op}
use Rattle.ppc_word.specs.declared.op.Op.TheVariants as op
use Rattle.ppc_word.specs.Bits.{mask}
use Rattle.ppc_word.specs.Fields.{ra, mb, me, oe, rc, li, bd, aa, lk, bo}

-- the row of an operation's words; Empty and Other leave the row open
abbrev pub row_under : Op → Row → Row
row_under op.Empty r = r
row_under op.Other r = r
row_under op.Branch r = row.B
row_under op.BranchLink r = row.B
row_under op.BranchAbsolute r = row.B
row_under op.BranchLinkAbsolute r = row.B
row_under op.BranchTrue r = row.Bc
row_under op.BranchFalse r = row.Bc
row_under op.BranchDecrement r = row.Bc
row_under op.BranchToLink r = row.Bclr
row_under op.BranchToCount r = row.Bcctr
row_under op.LoadImmediate r = row.Addi
row_under op.LoadImmediateShifted r = row.Addis
row_under op.AddImmediate r = row.Addi
row_under op.AddImmediateShifted r = row.Addis
row_under op.AddicDot r = row.AddicDot
row_under op.Mulli r = row.Mulli
row_under op.Add r = row.Add
row_under op.Subf r = row.Subf
row_under op.Neg r = row.Neg
row_under op.Mullw r = row.Mullw
row_under op.Cmpi r = row.Cmpi
row_under op.Cmp r = row.Cmp
row_under op.Cmpli r = row.Cmpli
row_under op.Cmpl r = row.Cmpl
row_under op.Andi r = row.Andi
row_under op.Ori r = row.Ori
row_under op.Oris r = row.Oris
row_under op.Xori r = row.Xori
row_under op.Xoris r = row.Xoris
row_under op.And r = row.And
row_under op.Or r = row.Or
row_under op.OrDot r = row.Or
row_under op.Xor r = row.Xor
row_under op.Nor r = row.Nor
row_under op.Rlwinm r = row.Rlwinm
row_under op.RlwinmDot r = row.Rlwinm
row_under op.Slw r = row.Slw
row_under op.Srw r = row.Srw
row_under op.Srawi r = row.Srawi
row_under op.Mtspr r = row.Mtspr
row_under op.Mfspr r = row.Mfspr
row_under op.LoadWord r = row.Lwz
row_under op.StoreWord r = row.Stw
row_under op.Lbz r = row.Lbz
row_under op.Lbzx r = row.Lbzx
row_under op.Lbzu r = row.Lbzu
row_under op.Lhz r = row.Lhz
row_under op.Lhzx r = row.Lhzx
row_under op.Lha r = row.Lha
row_under op.Lwzx r = row.Lwzx
row_under op.Lwzu r = row.Lwzu
row_under op.Stb r = row.Stb
row_under op.Stbx r = row.Stbx
row_under op.Stbu r = row.Stbu
row_under op.Sth r = row.Sth
row_under op.Sthx r = row.Sthx
row_under op.Stwx r = row.Stwx
row_under op.Stwu r = row.Stwu

-- a branch to a displacement from itself that leaves LR alone
abbrev pub is_plain_branch : ℕ → Bool
is_plain_branch w = not (aa w) && not (lk w)

-- what an operation asks of its words besides the row
unfoldable pub fits : Op → ℕ → Bool
fits op.Branch w = is_plain_branch w
fits op.BranchLink w = not (aa w) && lk w
fits op.BranchAbsolute w = aa w && not (lk w)
fits op.BranchLinkAbsolute w = aa w && lk w
fits op.BranchTrue w = is_plain_branch w && not (bo w 0 == 1) && bo w 1 == 1 && bo w 2 == 1
fits op.BranchFalse w = is_plain_branch w && not (bo w 0 == 1) && bo w 1 == 0 && bo w 2 == 1
fits op.BranchDecrement w = is_plain_branch w && bo w 0 == 1 && bo w 2 == 0 && bo w 3 == 0
fits op.BranchToLink w = not (lk w) && bo w 0 == 1 && bo w 2 == 1
fits op.BranchToCount w = not (lk w) && bo w 0 == 1 && bo w 2 == 1
fits op.LoadImmediate w = ra w == 0
fits op.LoadImmediateShifted w = ra w == 0
fits op.AddImmediate w = not (ra w == 0)
fits op.AddImmediateShifted w = not (ra w == 0)
fits op.LoadWord w = not (ra w == 0)
fits op.StoreWord w = not (ra w == 0)
fits op.Add w = not (oe w) && not (rc w)
fits op.Subf w = not (oe w) && not (rc w)
fits op.And w = not (rc w)
fits op.Or w = not (rc w)
fits op.OrDot w = rc w
fits op.Xor w = not (rc w)
fits op.Nor w = not (rc w)
fits op.Rlwinm w = not (rc w)
fits op.RlwinmDot w = rc w
fits _ w = true

-- the operations of a row's words
abbrev pub ops_of : Row → List Op
ops_of row.B = op.Branch ∷ op.BranchLink ∷ op.BranchAbsolute ∷ op.BranchLinkAbsolute ∷ []
ops_of row.Bc = op.BranchTrue ∷ op.BranchFalse ∷ op.BranchDecrement ∷ []
ops_of row.Bclr = op.BranchToLink ∷ []
ops_of row.Bcctr = op.BranchToCount ∷ []
ops_of row.Addi = op.LoadImmediate ∷ op.AddImmediate ∷ []
ops_of row.Addis = op.LoadImmediateShifted ∷ op.AddImmediateShifted ∷ []
ops_of row.AddicDot = op.AddicDot ∷ []
ops_of row.Mulli = op.Mulli ∷ []
ops_of row.Add = op.Add ∷ []
ops_of row.Subf = op.Subf ∷ []
ops_of row.Neg = op.Neg ∷ []
ops_of row.Mullw = op.Mullw ∷ []
ops_of row.Cmpi = op.Cmpi ∷ []
ops_of row.Cmp = op.Cmp ∷ []
ops_of row.Cmpli = op.Cmpli ∷ []
ops_of row.Cmpl = op.Cmpl ∷ []
ops_of row.Andi = op.Andi ∷ []
ops_of row.Ori = op.Ori ∷ []
ops_of row.Oris = op.Oris ∷ []
ops_of row.Xori = op.Xori ∷ []
ops_of row.Xoris = op.Xoris ∷ []
ops_of row.And = op.And ∷ []
ops_of row.Or = op.Or ∷ op.OrDot ∷ []
ops_of row.Xor = op.Xor ∷ []
ops_of row.Nor = op.Nor ∷ []
ops_of row.Rlwinm = op.Rlwinm ∷ op.RlwinmDot ∷ []
ops_of row.Slw = op.Slw ∷ []
ops_of row.Srw = op.Srw ∷ []
ops_of row.Srawi = op.Srawi ∷ []
ops_of row.Mtspr = op.Mtspr ∷ []
ops_of row.Mfspr = op.Mfspr ∷ []
ops_of row.Lwz = op.LoadWord ∷ []
ops_of row.Stw = op.StoreWord ∷ []
ops_of row.Lbz = op.Lbz ∷ []
ops_of row.Lbzx = op.Lbzx ∷ []
ops_of row.Lbzu = op.Lbzu ∷ []
ops_of row.Lhz = op.Lhz ∷ []
ops_of row.Lhzx = op.Lhzx ∷ []
ops_of row.Lha = op.Lha ∷ []
ops_of row.Lwzx = op.Lwzx ∷ []
ops_of row.Lwzu = op.Lwzu ∷ []
ops_of row.Stb = op.Stb ∷ []
ops_of row.Stbx = op.Stbx ∷ []
ops_of row.Stbu = op.Stbu ∷ []
ops_of row.Sth = op.Sth ∷ []
ops_of row.Sthx = op.Sthx ∷ []
ops_of row.Stwx = op.Stwx ∷ []
ops_of row.Stwu = op.Stwu ∷ []
ops_of _ = []

-- the first of some operations that a word fits, or Other
abbrev pub first_fit : List Op → ℕ → Op
first_fit [] w = op.Other
first_fit (o ∷ os) w = if fits o w then o else first_fit os w

-- the operation of a word of a row
unfoldable pub op_of : Row → ℕ → Op
op_of r w = first_fit (ops_of r) w

-- the operand that is made of a word beforehand: the displacement or target of a branch, or the mask of a rotation; other operations leave it open
abbrev pub immediate_under : Op → ℕ → ℕ → ℕ
immediate_under op.Branch w i = li w
immediate_under op.BranchLink w i = li w
immediate_under op.BranchAbsolute w i = li w
immediate_under op.BranchLinkAbsolute w i = li w
immediate_under op.BranchTrue w i = bd w
immediate_under op.BranchFalse w i = bd w
immediate_under op.BranchDecrement w i = bd w
immediate_under op.Rlwinm w i = mask (mb w) (me w)
immediate_under op.RlwinmDot w i = mask (mb w) (me w)
immediate_under _ w i = i
