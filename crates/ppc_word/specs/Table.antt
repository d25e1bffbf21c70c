-- The instruction words: one line for each instruction, with its form as in the Power ISA, Book I, from the most significant bit on.
use Rattle.std.specs.Prelude.{ℕ, List, [], ◌∷◌, get_or}
use denote.Enum.Declared.{tag_of}
use Rattle.ppc_word.specs.declared.row.Row.{Row}
use Rattle.ppc_word.specs.declared.row.Row.TheVariants.{Twi, Mulli, Subfic, Cmpli, Cmpi, Addic, AddicDot, Addi, Addis, Bc, Sc, B, Rlwimi, Rlwinm, Rlwnm, Ori, Oris, Xori, Xoris, Andi, Andis, Lwz, Lwzu, Lbz, Lbzu, Stw, Stwu, Stb, Stbu, Lhz, Lhzu, Lha, Lhau, Sth, Sthu, Lmw, Stmw, Mcrf, Bclr, Bcctr, Crnor, Crandc, Crxor, Crnand, Crand, Creqv, Crorc, Cror, Isync, Cmp, Cmpl, Tw, Subfc, Subf, Addc, Add, Subfe, Adde, Subfze, Addze, Subfme, Addme, Neg, Mulhwu, Mulhw, Mullw, Divwu, Divw, And, Andc, Or, Orc, Xor, Eqv, Nor, Nand, Slw, Srw, Sraw, Srawi, Cntlzw, Extsb, Extsh, Mfcr, Mtcrf, Mcrxr, Mfspr, Mtspr, Lwzx, Lbzx, Lhzx, Lhax, Lwzux, Lbzux, Lhzux, Lhaux, Stwx, Stbx, Sthx, Stwux, Stbux, Sthux, Lwbrx, Lhbrx, Stwbrx, Sthbrx, Lwarx, Stwcx, Sync, Eieio}
use Rattle.ppc_word.specs.contracts.row.Row.{the_type}
use Rattle.ppc_word.specs.declared.piece.Piece.{Piece}
use Rattle.ppc_word.specs.declared.piece.Piece.TheVariants.{Fixed}
use Rattle.ppc_word.specs.declared.rule.Rule.{Rule}
use Rattle.ppc_word.specs.declared.rule.Rule.TheVariants.{Any, LoadUpdate, StoreUpdate, LoadMultiple, SpecialRegister, NoCount}
use Rattle.ppc_word.specs.Pieces.{op, xo9, xo, zeros, rt, rs, ra, rb, to, bo, bi, bt, ba, bb, sh, mb, me, bf, bfa, si, ui, d, bd, li, fxm, spr, aa, lk, oe, rc}

-- the form of an instruction: what its words must meet besides the pieces, and the pieces from the most significant bit on
pub record Form : Type 0 where
  pub row : Row
  pub rule : Rule
  pub pieces : List Piece

abbrev pub form : Row → Rule → List Piece → Form
form row rule pieces = record { row = row; rule = rule; pieces = pieces }

-- the table: each instruction, what its words must meet besides the pieces, and the pieces
unfoldable pub table : List Form
table =
    form Twi Any (op 3 ∷ to ∷ ra ∷ si ∷ []) ∷
    form Mulli Any (op 7 ∷ rt ∷ ra ∷ si ∷ []) ∷
    form Subfic Any (op 8 ∷ rt ∷ ra ∷ si ∷ []) ∷
    form Cmpli Any (op 10 ∷ bf ∷ zeros 2 ∷ ra ∷ ui ∷ []) ∷
    form Cmpi Any (op 11 ∷ bf ∷ zeros 2 ∷ ra ∷ si ∷ []) ∷
    form Addic Any (op 12 ∷ rt ∷ ra ∷ si ∷ []) ∷
    form AddicDot Any (op 13 ∷ rt ∷ ra ∷ si ∷ []) ∷
    form Addi Any (op 14 ∷ rt ∷ ra ∷ si ∷ []) ∷
    form Addis Any (op 15 ∷ rt ∷ ra ∷ si ∷ []) ∷
    form Bc Any (op 16 ∷ bo ∷ bi ∷ bd ∷ aa ∷ lk ∷ []) ∷
    form Sc Any (op 17 ∷ Fixed 26 2 ∷ []) ∷
    form B Any (op 18 ∷ li ∷ aa ∷ lk ∷ []) ∷
    form Rlwimi Any (op 20 ∷ rs ∷ ra ∷ sh ∷ mb ∷ me ∷ rc ∷ []) ∷
    form Rlwinm Any (op 21 ∷ rs ∷ ra ∷ sh ∷ mb ∷ me ∷ rc ∷ []) ∷
    form Rlwnm Any (op 23 ∷ rs ∷ ra ∷ rb ∷ mb ∷ me ∷ rc ∷ []) ∷
    form Ori Any (op 24 ∷ rs ∷ ra ∷ ui ∷ []) ∷
    form Oris Any (op 25 ∷ rs ∷ ra ∷ ui ∷ []) ∷
    form Xori Any (op 26 ∷ rs ∷ ra ∷ ui ∷ []) ∷
    form Xoris Any (op 27 ∷ rs ∷ ra ∷ ui ∷ []) ∷
    form Andi Any (op 28 ∷ rs ∷ ra ∷ ui ∷ []) ∷
    form Andis Any (op 29 ∷ rs ∷ ra ∷ ui ∷ []) ∷
    form Lwz Any (op 32 ∷ rt ∷ ra ∷ d ∷ []) ∷
    form Lwzu LoadUpdate (op 33 ∷ rt ∷ ra ∷ d ∷ []) ∷
    form Lbz Any (op 34 ∷ rt ∷ ra ∷ d ∷ []) ∷
    form Lbzu LoadUpdate (op 35 ∷ rt ∷ ra ∷ d ∷ []) ∷
    form Stw Any (op 36 ∷ rs ∷ ra ∷ d ∷ []) ∷
    form Stwu StoreUpdate (op 37 ∷ rs ∷ ra ∷ d ∷ []) ∷
    form Stb Any (op 38 ∷ rs ∷ ra ∷ d ∷ []) ∷
    form Stbu StoreUpdate (op 39 ∷ rs ∷ ra ∷ d ∷ []) ∷
    form Lhz Any (op 40 ∷ rt ∷ ra ∷ d ∷ []) ∷
    form Lhzu LoadUpdate (op 41 ∷ rt ∷ ra ∷ d ∷ []) ∷
    form Lha Any (op 42 ∷ rt ∷ ra ∷ d ∷ []) ∷
    form Lhau LoadUpdate (op 43 ∷ rt ∷ ra ∷ d ∷ []) ∷
    form Sth Any (op 44 ∷ rs ∷ ra ∷ d ∷ []) ∷
    form Sthu StoreUpdate (op 45 ∷ rs ∷ ra ∷ d ∷ []) ∷
    form Lmw LoadMultiple (op 46 ∷ rt ∷ ra ∷ d ∷ []) ∷
    form Stmw Any (op 47 ∷ rs ∷ ra ∷ d ∷ []) ∷
    form Mcrf Any (op 19 ∷ bf ∷ zeros 2 ∷ bfa ∷ zeros 2 ∷ zeros 5 ∷ xo 0 ∷ zeros 1 ∷ []) ∷
    form Bclr Any (op 19 ∷ bo ∷ bi ∷ zeros 5 ∷ xo 16 ∷ lk ∷ []) ∷
    form Bcctr NoCount (op 19 ∷ bo ∷ bi ∷ zeros 5 ∷ xo 528 ∷ lk ∷ []) ∷
    form Crnor Any (op 19 ∷ bt ∷ ba ∷ bb ∷ xo 33 ∷ zeros 1 ∷ []) ∷
    form Crandc Any (op 19 ∷ bt ∷ ba ∷ bb ∷ xo 129 ∷ zeros 1 ∷ []) ∷
    form Crxor Any (op 19 ∷ bt ∷ ba ∷ bb ∷ xo 193 ∷ zeros 1 ∷ []) ∷
    form Crnand Any (op 19 ∷ bt ∷ ba ∷ bb ∷ xo 225 ∷ zeros 1 ∷ []) ∷
    form Crand Any (op 19 ∷ bt ∷ ba ∷ bb ∷ xo 257 ∷ zeros 1 ∷ []) ∷
    form Creqv Any (op 19 ∷ bt ∷ ba ∷ bb ∷ xo 289 ∷ zeros 1 ∷ []) ∷
    form Crorc Any (op 19 ∷ bt ∷ ba ∷ bb ∷ xo 417 ∷ zeros 1 ∷ []) ∷
    form Cror Any (op 19 ∷ bt ∷ ba ∷ bb ∷ xo 449 ∷ zeros 1 ∷ []) ∷
    form Isync Any (op 19 ∷ zeros 15 ∷ xo 150 ∷ zeros 1 ∷ []) ∷
    form Cmp Any (op 31 ∷ bf ∷ zeros 2 ∷ ra ∷ rb ∷ xo 0 ∷ zeros 1 ∷ []) ∷
    form Cmpl Any (op 31 ∷ bf ∷ zeros 2 ∷ ra ∷ rb ∷ xo 32 ∷ zeros 1 ∷ []) ∷
    form Tw Any (op 31 ∷ to ∷ ra ∷ rb ∷ xo 4 ∷ zeros 1 ∷ []) ∷
    form Subfc Any (op 31 ∷ rt ∷ ra ∷ rb ∷ oe ∷ xo9 8 ∷ rc ∷ []) ∷
    form Subf Any (op 31 ∷ rt ∷ ra ∷ rb ∷ oe ∷ xo9 40 ∷ rc ∷ []) ∷
    form Addc Any (op 31 ∷ rt ∷ ra ∷ rb ∷ oe ∷ xo9 10 ∷ rc ∷ []) ∷
    form Add Any (op 31 ∷ rt ∷ ra ∷ rb ∷ oe ∷ xo9 266 ∷ rc ∷ []) ∷
    form Subfe Any (op 31 ∷ rt ∷ ra ∷ rb ∷ oe ∷ xo9 136 ∷ rc ∷ []) ∷
    form Adde Any (op 31 ∷ rt ∷ ra ∷ rb ∷ oe ∷ xo9 138 ∷ rc ∷ []) ∷
    form Subfze Any (op 31 ∷ rt ∷ ra ∷ zeros 5 ∷ oe ∷ xo9 200 ∷ rc ∷ []) ∷
    form Addze Any (op 31 ∷ rt ∷ ra ∷ zeros 5 ∷ oe ∷ xo9 202 ∷ rc ∷ []) ∷
    form Subfme Any (op 31 ∷ rt ∷ ra ∷ zeros 5 ∷ oe ∷ xo9 232 ∷ rc ∷ []) ∷
    form Addme Any (op 31 ∷ rt ∷ ra ∷ zeros 5 ∷ oe ∷ xo9 234 ∷ rc ∷ []) ∷
    form Neg Any (op 31 ∷ rt ∷ ra ∷ zeros 5 ∷ oe ∷ xo9 104 ∷ rc ∷ []) ∷
    form Mulhwu Any (op 31 ∷ rt ∷ ra ∷ rb ∷ zeros 1 ∷ xo9 11 ∷ rc ∷ []) ∷
    form Mulhw Any (op 31 ∷ rt ∷ ra ∷ rb ∷ zeros 1 ∷ xo9 75 ∷ rc ∷ []) ∷
    form Mullw Any (op 31 ∷ rt ∷ ra ∷ rb ∷ oe ∷ xo9 235 ∷ rc ∷ []) ∷
    form Divwu Any (op 31 ∷ rt ∷ ra ∷ rb ∷ oe ∷ xo9 459 ∷ rc ∷ []) ∷
    form Divw Any (op 31 ∷ rt ∷ ra ∷ rb ∷ oe ∷ xo9 491 ∷ rc ∷ []) ∷
    form And Any (op 31 ∷ rs ∷ ra ∷ rb ∷ xo 28 ∷ rc ∷ []) ∷
    form Andc Any (op 31 ∷ rs ∷ ra ∷ rb ∷ xo 60 ∷ rc ∷ []) ∷
    form Or Any (op 31 ∷ rs ∷ ra ∷ rb ∷ xo 444 ∷ rc ∷ []) ∷
    form Orc Any (op 31 ∷ rs ∷ ra ∷ rb ∷ xo 412 ∷ rc ∷ []) ∷
    form Xor Any (op 31 ∷ rs ∷ ra ∷ rb ∷ xo 316 ∷ rc ∷ []) ∷
    form Eqv Any (op 31 ∷ rs ∷ ra ∷ rb ∷ xo 284 ∷ rc ∷ []) ∷
    form Nor Any (op 31 ∷ rs ∷ ra ∷ rb ∷ xo 124 ∷ rc ∷ []) ∷
    form Nand Any (op 31 ∷ rs ∷ ra ∷ rb ∷ xo 476 ∷ rc ∷ []) ∷
    form Slw Any (op 31 ∷ rs ∷ ra ∷ rb ∷ xo 24 ∷ rc ∷ []) ∷
    form Srw Any (op 31 ∷ rs ∷ ra ∷ rb ∷ xo 536 ∷ rc ∷ []) ∷
    form Sraw Any (op 31 ∷ rs ∷ ra ∷ rb ∷ xo 792 ∷ rc ∷ []) ∷
    form Srawi Any (op 31 ∷ rs ∷ ra ∷ sh ∷ xo 824 ∷ rc ∷ []) ∷
    form Cntlzw Any (op 31 ∷ rs ∷ ra ∷ zeros 5 ∷ xo 26 ∷ rc ∷ []) ∷
    form Extsb Any (op 31 ∷ rs ∷ ra ∷ zeros 5 ∷ xo 954 ∷ rc ∷ []) ∷
    form Extsh Any (op 31 ∷ rs ∷ ra ∷ zeros 5 ∷ xo 922 ∷ rc ∷ []) ∷
    form Mfcr Any (op 31 ∷ rt ∷ zeros 10 ∷ xo 19 ∷ zeros 1 ∷ []) ∷
    form Mtcrf Any (op 31 ∷ rs ∷ zeros 1 ∷ fxm ∷ zeros 1 ∷ xo 144 ∷ zeros 1 ∷ []) ∷
    form Mcrxr Any (op 31 ∷ bf ∷ zeros 2 ∷ zeros 10 ∷ xo 512 ∷ zeros 1 ∷ []) ∷
    form Mfspr SpecialRegister (op 31 ∷ rt ∷ spr ∷ xo 339 ∷ zeros 1 ∷ []) ∷
    form Mtspr SpecialRegister (op 31 ∷ rs ∷ spr ∷ xo 467 ∷ zeros 1 ∷ []) ∷
    form Lwzx Any (op 31 ∷ rt ∷ ra ∷ rb ∷ xo 23 ∷ zeros 1 ∷ []) ∷
    form Lbzx Any (op 31 ∷ rt ∷ ra ∷ rb ∷ xo 87 ∷ zeros 1 ∷ []) ∷
    form Lhzx Any (op 31 ∷ rt ∷ ra ∷ rb ∷ xo 279 ∷ zeros 1 ∷ []) ∷
    form Lhax Any (op 31 ∷ rt ∷ ra ∷ rb ∷ xo 343 ∷ zeros 1 ∷ []) ∷
    form Lwzux LoadUpdate (op 31 ∷ rt ∷ ra ∷ rb ∷ xo 55 ∷ zeros 1 ∷ []) ∷
    form Lbzux LoadUpdate (op 31 ∷ rt ∷ ra ∷ rb ∷ xo 119 ∷ zeros 1 ∷ []) ∷
    form Lhzux LoadUpdate (op 31 ∷ rt ∷ ra ∷ rb ∷ xo 311 ∷ zeros 1 ∷ []) ∷
    form Lhaux LoadUpdate (op 31 ∷ rt ∷ ra ∷ rb ∷ xo 375 ∷ zeros 1 ∷ []) ∷
    form Stwx Any (op 31 ∷ rs ∷ ra ∷ rb ∷ xo 151 ∷ zeros 1 ∷ []) ∷
    form Stbx Any (op 31 ∷ rs ∷ ra ∷ rb ∷ xo 215 ∷ zeros 1 ∷ []) ∷
    form Sthx Any (op 31 ∷ rs ∷ ra ∷ rb ∷ xo 407 ∷ zeros 1 ∷ []) ∷
    form Stwux StoreUpdate (op 31 ∷ rs ∷ ra ∷ rb ∷ xo 183 ∷ zeros 1 ∷ []) ∷
    form Stbux StoreUpdate (op 31 ∷ rs ∷ ra ∷ rb ∷ xo 247 ∷ zeros 1 ∷ []) ∷
    form Sthux StoreUpdate (op 31 ∷ rs ∷ ra ∷ rb ∷ xo 439 ∷ zeros 1 ∷ []) ∷
    form Lwbrx Any (op 31 ∷ rt ∷ ra ∷ rb ∷ xo 534 ∷ zeros 1 ∷ []) ∷
    form Lhbrx Any (op 31 ∷ rt ∷ ra ∷ rb ∷ xo 790 ∷ zeros 1 ∷ []) ∷
    form Stwbrx Any (op 31 ∷ rs ∷ ra ∷ rb ∷ xo 662 ∷ zeros 1 ∷ []) ∷
    form Sthbrx Any (op 31 ∷ rs ∷ ra ∷ rb ∷ xo 918 ∷ zeros 1 ∷ []) ∷
    form Lwarx Any (op 31 ∷ rt ∷ ra ∷ rb ∷ xo 20 ∷ zeros 1 ∷ []) ∷
    form Stwcx Any (op 31 ∷ rs ∷ ra ∷ rb ∷ xo 150 ∷ Fixed 1 1 ∷ []) ∷
    form Sync Any (op 31 ∷ zeros 15 ∷ xo 598 ∷ zeros 1 ∷ []) ∷
    form Eieio Any (op 31 ∷ zeros 15 ∷ xo 854 ∷ zeros 1 ∷ []) ∷
    []

-- the form of places after the end of the table
abbrev pub no_form : Form
no_form = form Twi Any []

-- the form at a place of the table
abbrev pub form_at : ℕ → Form
form_at k = get_or table k no_form

-- the place of an instruction among the names
unfoldable pub number : Row → ℕ
number row = tag_of the_type row

-- the form of an instruction
abbrev pub form_of : Row → Form
form_of row = form_at (number row)
