-- The code's table of mnemonics is that of the definitions.
use Rattle.std.proofs.Common.{◌≡◌, map, length, refl}
use Rattle.ppc_text.specs.declared.mnemonic.TheConstants.{TABLE}
use Rattle.ppc_text.specs.Mnemonics.{seen, mnemonics, instructions, short_forms}

pub table_seen : map seen TABLE ≡ mnemonics
unfolding mnemonics instructions short_forms
table_seen = refl

pub length-instructions : length instructions ≡ 110
unfolding instructions
length-instructions = refl

pub length-table : length TABLE ≡ 118
length-table = refl
