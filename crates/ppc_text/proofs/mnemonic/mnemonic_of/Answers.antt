use Rattle.std.proofs.Common.{◌<◌, length, get_or, sym, ap, ◌∙◌, arith}
use Rattle.std.proofs.lemmas.List.{get_or-map}
use Rattle.std.proofs.Math.ListN.{get_or-append}
use Rattle.ppc_word.specs.Table.{number}
use Rattle.ppc_word.proofs.Whole.{number-below}
use Rattle.ppc_text.specs.Mnemonics.{seen, mnemonics, instructions, short_forms, no_name, named_as}
use Rattle.ppc_text.specs.declared.mnemonic.TheConstants.{TABLE}
use Rattle.ppc_text.proofs.Spellings.{table_seen, length-instructions, length-table}
use Rattle.ppc_text.proofs.mnemonic.mnemonic_of.Goals as goal

pub returns : goal.returns
unfolding number named_as mnemonics
returns c =
    let low : number c.args.row < length instructions = omega (arith, number-below c.args.row, length-instructions) in
    let below : number c.args.row < length TABLE = omega (arith, number-below c.args.row, length-table) in
    sym (get_or-map seen TABLE (number c.args.row) _ no_name below) ∙ ap (λ ms. get_or ms (number c.args.row) no_name) table_seen ∙ get_or-append instructions short_forms no_name (number c.args.row) low
