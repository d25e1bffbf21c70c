-- The mnemonics: one line for each instruction and each short form, by their names in the Power ISA, Book I.
use Rattle.std.specs.Prelude.{ℕ, ◌+◌, Bool, true, false, not, ◌==◌, nat_eq, if◌then◌else◌, List, [], ◌∷◌, ◌++◌, length, drop, slice_index_or, replicate, slice_set, Option, Some, None, codes}
use Rattle.std.specs.List.{filter, starts_with, take_while}
use Prim.Native.Char.{code}
use Rattle.ppc_word.specs.Table.{number}
use Rattle.ppc_word.specs.declared.row.Row.{Row}
use Rattle.ppc_word.specs.declared.row.Row.TheVariants.{Twi, Mulli, Subfic, Cmpli, Cmpi, Addic, AddicDot, Addi, Addis, Bc, Sc, B, Rlwimi, Rlwinm, Rlwnm, Ori, Oris, Xori, Xoris, Andi, Andis, Lwz, Lwzu, Lbz, Lbzu, Stw, Stwu, Stb, Stbu, Lhz, Lhzu, Lha, Lhau, Sth, Sthu, Lmw, Stmw, Mcrf, Bclr, Bcctr, Crnor, Crandc, Crxor, Crnand, Crand, Creqv, Crorc, Cror, Isync, Cmp, Cmpl, Tw, Subfc, Subf, Addc, Add, Subfe, Adde, Subfze, Addze, Subfme, Addme, Neg, Mulhwu, Mulhw, Mullw, Divwu, Divw, And, Andc, Or, Orc, Xor, Eqv, Nor, Nand, Slw, Srw, Sraw, Srawi, Cntlzw, Extsb, Extsh, Mfcr, Mtcrf, Mcrxr, Mfspr, Mtspr, Lwzx, Lbzx, Lhzx, Lhax, Lwzux, Lbzux, Lhzux, Lhaux, Stwx, Stbx, Sthx, Stwux, Stbux, Sthux, Lwbrx, Lhbrx, Stwbrx, Sthbrx, Lwarx, Stwcx, Sync, Eieio}
use Rattle.ppc_text.specs.declared.part.Part.{Part}
use Rattle.ppc_text.specs.declared.part.Part.TheVariants.{Comma, Open, Close}
use Rattle.ppc_text.specs.declared.part.Shape.{Shape}
use Rattle.ppc_text.specs.declared.part.Shape.TheVariants.{Immediate, Shifted, LogicalImmediate, CompareImmediate, CompareUnsigned, Compare, TrapImmediate, Trap, Memory, Three, Two, LogicalThree, LogicalTwo, Shift, Rotate, RotateBy, Branch, BranchConditional, BranchRegister, Bits, Fields, Field, One, Mask, FromSpecial, ToSpecial, Nothing, LoadImmediate, LoadShifted, Move, Always, FromLink, ToLink}
use Rattle.ppc_text.specs.declared.mnemonic.Endings.{Endings}
use Rattle.ppc_text.specs.declared.mnemonic.Endings.TheVariants.{Bare, Record, Overflow, Link, LinkAbsolute}
use Rattle.ppc_text.specs.declared.mnemonic.Flags.{Flags}
use Rattle.ppc_text.specs.declared.mnemonic.Spelling.{Spelling}
use Rattle.ppc_text.specs.declared.mnemonic.Mnemonic.{Mnemonic}
use Rattle.ppc_text.specs.Shapes.{parts_of}

-- how an instruction is spelled: its name, its operands, and what may follow the name
pub record Named : Type 0 where
  pub name : List ℕ
  pub row : Row
  pub shape : Shape
  pub endings : Endings

-- the name without the zeros after it
abbrev pub name_of : Mnemonic → List ℕ
name_of m = take_while (λ b. not (b == 0)) m.name

-- an entry of the code's table as the definitions see it
abbrev pub seen : Mnemonic → Named
seen m = record { name = name_of m; row = m.row; shape = m.shape; endings = m.endings }

-- the fields that these bytes set after a name, if they are one of its endings: `.` sets Rc, `o` OE, `l` LK and `a` AA
unfoldable pub ending_of : Endings → List ℕ → Option Flags
ending_of e [] = Some (record { first = 0; second = 0 })
ending_of Bare bs = None
ending_of (Record k) (b ∷ []) = if b == code "." then Some (record { first = 1; second = 0 }) else None
ending_of (Overflow k) (b ∷ []) = if b == code "o" then Some (record { first = 1; second = 0 }) else (if b == code "." then Some (record { first = 0; second = 1 }) else None)
ending_of (Overflow k) (b ∷ c ∷ []) = if b == code "o" then (if c == code "." then Some (record { first = 1; second = 1 }) else None) else None
ending_of (Link k) (b ∷ []) = if b == code "l" then Some (record { first = 1; second = 0 }) else None
ending_of (LinkAbsolute k) (b ∷ []) = if b == code "a" then Some (record { first = 1; second = 0 }) else (if b == code "l" then Some (record { first = 0; second = 1 }) else None)
ending_of (LinkAbsolute k) (b ∷ c ∷ []) = if b == code "l" then (if c == code "a" then Some (record { first = 1; second = 1 }) else None) else None
ending_of e bs = None

-- the fields that a word's ending sets; none if the word isn't this mnemonic
unfoldable pub named : Named → List ℕ → Option Flags
named m word = if starts_with nat_eq word m.name then ending_of m.endings (drop (length m.name) word) else None

-- a branch is absolute if AA is set
unfoldable pub is_absolute : Endings → Flags → Bool
is_absolute (LinkAbsolute k) flags = flags.first == 1
is_absolute e flags = false

-- six fields: an ending sets one or two of them from its place on, and the others are 0
unfoldable pub flagged : Endings → Flags → List ℕ
flagged Bare flags = replicate 6 0
flagged (Record k) flags = slice_set (replicate 6 0) k flags.first
flagged (Link k) flags = slice_set (replicate 6 0) k flags.first
flagged (Overflow k) flags = slice_set (slice_set (replicate 6 0) k flags.first) (k + 1) flags.second
flagged (LinkAbsolute k) flags = slice_set (slice_set (replicate 6 0) k flags.first) (k + 1) flags.second

-- what a mnemonic with these fields of its ending names
unfoldable pub spells : Named → Flags → Spelling
spells m flags = record { row = m.row; shape = m.shape; absolute = is_absolute m.endings flags; fields = flagged m.endings flags }

-- what this mnemonic names, if the word is it, or else the other
abbrev pub spelled_or : Named → Option Flags → Option Spelling → Option Spelling
spelled_or m (Some flags) other = Some (spells m flags)
spelled_or m None other = other

-- what a word names by the first of these mnemonics that it is
abbrev pub spelling_in : List Named → List ℕ → Option Spelling
spelling_in [] word = None
spelling_in (m ∷ ms) word = spelled_or m (named m word) (spelling_in ms word)

-- the part fills a field of the form; the others are marks between the operands
abbrev pub is_field : Part → Bool
is_field Comma = false
is_field Open = false
is_field Close = false
is_field part = true

-- the place of the first field after those of the operands
abbrev pub place_after : Shape → ℕ
place_after shape = length (filter is_field (parts_of shape))

-- no letters may follow the name
abbrev pub bare : ℕ → Endings
bare place = Bare

-- a mnemonic: an ending's fields follow those of the operands
abbrev pub mnemonic : List ℕ → Row → Shape → (ℕ → Endings) → Named
mnemonic name row shape ending = record { name = name; row = row; shape = shape; endings = ending (place_after shape) }

-- a short form, which has no ending
abbrev pub short : List ℕ → Row → Shape → Named
short name row shape = mnemonic name row shape bare

-- the instructions, in the order of their table
unfoldable pub instructions : List Named
instructions =
    mnemonic (codes "twi") Twi TrapImmediate bare ∷
    mnemonic (codes "mulli") Mulli Immediate bare ∷
    mnemonic (codes "subfic") Subfic Immediate bare ∷
    mnemonic (codes "cmplwi") Cmpli CompareUnsigned bare ∷
    mnemonic (codes "cmpwi") Cmpi CompareImmediate bare ∷
    mnemonic (codes "addic") Addic Immediate bare ∷
    mnemonic (codes "addic.") AddicDot Immediate bare ∷
    mnemonic (codes "addi") Addi Immediate bare ∷
    mnemonic (codes "addis") Addis Shifted bare ∷
    mnemonic (codes "bc") Bc BranchConditional LinkAbsolute ∷
    mnemonic (codes "sc") Sc Nothing bare ∷
    mnemonic (codes "b") B Branch LinkAbsolute ∷
    mnemonic (codes "rlwimi") Rlwimi Rotate Record ∷
    mnemonic (codes "rlwinm") Rlwinm Rotate Record ∷
    mnemonic (codes "rlwnm") Rlwnm RotateBy Record ∷
    mnemonic (codes "ori") Ori LogicalImmediate bare ∷
    mnemonic (codes "oris") Oris LogicalImmediate bare ∷
    mnemonic (codes "xori") Xori LogicalImmediate bare ∷
    mnemonic (codes "xoris") Xoris LogicalImmediate bare ∷
    mnemonic (codes "andi.") Andi LogicalImmediate bare ∷
    mnemonic (codes "andis.") Andis LogicalImmediate bare ∷
    mnemonic (codes "lwz") Lwz Memory bare ∷
    mnemonic (codes "lwzu") Lwzu Memory bare ∷
    mnemonic (codes "lbz") Lbz Memory bare ∷
    mnemonic (codes "lbzu") Lbzu Memory bare ∷
    mnemonic (codes "stw") Stw Memory bare ∷
    mnemonic (codes "stwu") Stwu Memory bare ∷
    mnemonic (codes "stb") Stb Memory bare ∷
    mnemonic (codes "stbu") Stbu Memory bare ∷
    mnemonic (codes "lhz") Lhz Memory bare ∷
    mnemonic (codes "lhzu") Lhzu Memory bare ∷
    mnemonic (codes "lha") Lha Memory bare ∷
    mnemonic (codes "lhau") Lhau Memory bare ∷
    mnemonic (codes "sth") Sth Memory bare ∷
    mnemonic (codes "sthu") Sthu Memory bare ∷
    mnemonic (codes "lmw") Lmw Memory bare ∷
    mnemonic (codes "stmw") Stmw Memory bare ∷
    mnemonic (codes "mcrf") Mcrf Fields bare ∷
    mnemonic (codes "bclr") Bclr BranchRegister Link ∷
    mnemonic (codes "bcctr") Bcctr BranchRegister Link ∷
    mnemonic (codes "crnor") Crnor Bits bare ∷
    mnemonic (codes "crandc") Crandc Bits bare ∷
    mnemonic (codes "crxor") Crxor Bits bare ∷
    mnemonic (codes "crnand") Crnand Bits bare ∷
    mnemonic (codes "crand") Crand Bits bare ∷
    mnemonic (codes "creqv") Creqv Bits bare ∷
    mnemonic (codes "crorc") Crorc Bits bare ∷
    mnemonic (codes "cror") Cror Bits bare ∷
    mnemonic (codes "isync") Isync Nothing bare ∷
    mnemonic (codes "cmpw") Cmp Compare bare ∷
    mnemonic (codes "cmplw") Cmpl Compare bare ∷
    mnemonic (codes "tw") Tw Trap bare ∷
    mnemonic (codes "subfc") Subfc Three Overflow ∷
    mnemonic (codes "subf") Subf Three Overflow ∷
    mnemonic (codes "addc") Addc Three Overflow ∷
    mnemonic (codes "add") Add Three Overflow ∷
    mnemonic (codes "subfe") Subfe Three Overflow ∷
    mnemonic (codes "adde") Adde Three Overflow ∷
    mnemonic (codes "subfze") Subfze Two Overflow ∷
    mnemonic (codes "addze") Addze Two Overflow ∷
    mnemonic (codes "subfme") Subfme Two Overflow ∷
    mnemonic (codes "addme") Addme Two Overflow ∷
    mnemonic (codes "neg") Neg Two Overflow ∷
    mnemonic (codes "mulhwu") Mulhwu Three Record ∷
    mnemonic (codes "mulhw") Mulhw Three Record ∷
    mnemonic (codes "mullw") Mullw Three Overflow ∷
    mnemonic (codes "divwu") Divwu Three Overflow ∷
    mnemonic (codes "divw") Divw Three Overflow ∷
    mnemonic (codes "and") And LogicalThree Record ∷
    mnemonic (codes "andc") Andc LogicalThree Record ∷
    mnemonic (codes "or") Or LogicalThree Record ∷
    mnemonic (codes "orc") Orc LogicalThree Record ∷
    mnemonic (codes "xor") Xor LogicalThree Record ∷
    mnemonic (codes "eqv") Eqv LogicalThree Record ∷
    mnemonic (codes "nor") Nor LogicalThree Record ∷
    mnemonic (codes "nand") Nand LogicalThree Record ∷
    mnemonic (codes "slw") Slw LogicalThree Record ∷
    mnemonic (codes "srw") Srw LogicalThree Record ∷
    mnemonic (codes "sraw") Sraw LogicalThree Record ∷
    mnemonic (codes "srawi") Srawi Shift Record ∷
    mnemonic (codes "cntlzw") Cntlzw LogicalTwo Record ∷
    mnemonic (codes "extsb") Extsb LogicalTwo Record ∷
    mnemonic (codes "extsh") Extsh LogicalTwo Record ∷
    mnemonic (codes "mfcr") Mfcr One bare ∷
    mnemonic (codes "mtcrf") Mtcrf Mask bare ∷
    mnemonic (codes "mcrxr") Mcrxr Field bare ∷
    mnemonic (codes "mfspr") Mfspr FromSpecial bare ∷
    mnemonic (codes "mtspr") Mtspr ToSpecial bare ∷
    mnemonic (codes "lwzx") Lwzx Three bare ∷
    mnemonic (codes "lbzx") Lbzx Three bare ∷
    mnemonic (codes "lhzx") Lhzx Three bare ∷
    mnemonic (codes "lhax") Lhax Three bare ∷
    mnemonic (codes "lwzux") Lwzux Three bare ∷
    mnemonic (codes "lbzux") Lbzux Three bare ∷
    mnemonic (codes "lhzux") Lhzux Three bare ∷
    mnemonic (codes "lhaux") Lhaux Three bare ∷
    mnemonic (codes "stwx") Stwx Three bare ∷
    mnemonic (codes "stbx") Stbx Three bare ∷
    mnemonic (codes "sthx") Sthx Three bare ∷
    mnemonic (codes "stwux") Stwux Three bare ∷
    mnemonic (codes "stbux") Stbux Three bare ∷
    mnemonic (codes "sthux") Sthux Three bare ∷
    mnemonic (codes "lwbrx") Lwbrx Three bare ∷
    mnemonic (codes "lhbrx") Lhbrx Three bare ∷
    mnemonic (codes "stwbrx") Stwbrx Three bare ∷
    mnemonic (codes "sthbrx") Sthbrx Three bare ∷
    mnemonic (codes "lwarx") Lwarx Three bare ∷
    mnemonic (codes "stwcx.") Stwcx Three bare ∷
    mnemonic (codes "sync") Sync Nothing bare ∷
    mnemonic (codes "eieio") Eieio Nothing bare ∷
    []

-- the short forms
unfoldable pub short_forms : List Named
short_forms =
    short (codes "li") Addi LoadImmediate ∷
    short (codes "lis") Addis LoadShifted ∷
    short (codes "mr") Or Move ∷
    short (codes "blr") Bclr Always ∷
    short (codes "bctr") Bcctr Always ∷
    short (codes "mflr") Mfspr FromLink ∷
    short (codes "mtlr") Mtspr ToLink ∷
    short (codes "nop") Ori Nothing ∷
    []

-- all mnemonics
unfoldable pub mnemonics : List Named
mnemonics = instructions ++ short_forms

-- the answer past the end of the table
abbrev pub no_name : Named
no_name = mnemonic [] Twi Nothing bare

-- how an instruction is spelled
unfoldable pub named_as : Row → Named
named_as row = slice_index_or instructions (number row) no_name

-- what a mnemonic names
unfoldable pub spelling_of : List ℕ → Option Spelling
spelling_of word = spelling_in mnemonics word
