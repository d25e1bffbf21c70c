use Rattle.std.proofs.Common.{◌≡◌, refl, sym}
use Rattle.ppc_word.specs.Ops.{op_of}
use Rattle.ppc_word.specs.declared.row.Row.{Row}
use Rattle.ppc_word.specs.declared.row.Row.TheVariants as rows
use Rattle.ppc_word.specs.declared.op.Op.TheVariants as ops
use Rattle.ppc_word.proofs.decoded.op_for.Goals as goal

-- the rows without an arm have no operation of their own
pub returns-in_default-clause-is : goal.returns-in_default-clause-is
unfolding op_of
returns-in_default-clause-is c = other c.args.row refl where
  other : (r : Row) → r ≡ c.args.row → ops.Other ≡ op_of r c.args.word
  other rows.B e = absurd (c.requires.branch (sym e))
  other rows.Bc e = absurd (c.requires.conditional (sym e))
  other rows.Bclr e = absurd (c.in_default.not-Bclr (sym e))
  other rows.Bcctr e = absurd (c.in_default.not-Bcctr (sym e))
  other rows.Addi e = absurd (c.in_default.not-Addi (sym e))
  other rows.Addis e = absurd (c.in_default.not-Addis (sym e))
  other rows.AddicDot e = absurd (c.in_default.not-AddicDot (sym e))
  other rows.Mulli e = absurd (c.in_default.not-Mulli (sym e))
  other rows.Add e = absurd (c.in_default.not-Add (sym e))
  other rows.Subf e = absurd (c.in_default.not-Subf (sym e))
  other rows.Neg e = absurd (c.in_default.not-Neg (sym e))
  other rows.Mullw e = absurd (c.in_default.not-Mullw (sym e))
  other rows.Cmpi e = absurd (c.in_default.not-Cmpi (sym e))
  other rows.Cmp e = absurd (c.in_default.not-Cmp (sym e))
  other rows.Cmpli e = absurd (c.in_default.not-Cmpli (sym e))
  other rows.Cmpl e = absurd (c.in_default.not-Cmpl (sym e))
  other rows.Andi e = absurd (c.in_default.not-Andi (sym e))
  other rows.Ori e = absurd (c.in_default.not-Ori (sym e))
  other rows.Oris e = absurd (c.in_default.not-Oris (sym e))
  other rows.Xori e = absurd (c.in_default.not-Xori (sym e))
  other rows.Xoris e = absurd (c.in_default.not-Xoris (sym e))
  other rows.And e = absurd (c.in_default.not-And (sym e))
  other rows.Or e = absurd (c.in_default.not-Or (sym e))
  other rows.Xor e = absurd (c.in_default.not-Xor (sym e))
  other rows.Nor e = absurd (c.in_default.not-Nor (sym e))
  other rows.Rlwinm e = absurd (c.requires.rotation (sym e))
  other rows.Slw e = absurd (c.in_default.not-Slw (sym e))
  other rows.Srw e = absurd (c.in_default.not-Srw (sym e))
  other rows.Srawi e = absurd (c.in_default.not-Srawi (sym e))
  other rows.Mtspr e = absurd (c.in_default.not-Mtspr (sym e))
  other rows.Mfspr e = absurd (c.in_default.not-Mfspr (sym e))
  other rows.Lwz e = absurd (c.in_default.not-Lwz (sym e))
  other rows.Stw e = absurd (c.in_default.not-Stw (sym e))
  other rows.Lbz e = absurd (c.in_default.not-Lbz (sym e))
  other rows.Lbzx e = absurd (c.in_default.not-Lbzx (sym e))
  other rows.Lbzu e = absurd (c.in_default.not-Lbzu (sym e))
  other rows.Lhz e = absurd (c.in_default.not-Lhz (sym e))
  other rows.Lhzx e = absurd (c.in_default.not-Lhzx (sym e))
  other rows.Lha e = absurd (c.in_default.not-Lha (sym e))
  other rows.Lwzx e = absurd (c.in_default.not-Lwzx (sym e))
  other rows.Lwzu e = absurd (c.in_default.not-Lwzu (sym e))
  other rows.Stb e = absurd (c.in_default.not-Stb (sym e))
  other rows.Stbx e = absurd (c.in_default.not-Stbx (sym e))
  other rows.Stbu e = absurd (c.in_default.not-Stbu (sym e))
  other rows.Sth e = absurd (c.in_default.not-Sth (sym e))
  other rows.Sthx e = absurd (c.in_default.not-Sthx (sym e))
  other rows.Stwx e = absurd (c.in_default.not-Stwx (sym e))
  other rows.Stwu e = absurd (c.in_default.not-Stwu (sym e))
  other r e = refl
