use Rattle.std.proofs.Common.{◌++◌, append_assoc, ap, ◌∙◌, arith}
use Rattle.ppc_text.specs.Mnemonics.{Named}
use Rattle.ppc_text.specs.Shapes.{parts_of}
use Rattle.ppc_text.specs.Shown.{operands_text, ending_text, text_with, text_of}
use Rattle.ppc_text.proofs.Widths.{short_fields}
use Rattle.ppc_text.proofs.showing.show.Goals as goal

pub put_operands-requires-clause-short : goal.put_operands-requires-clause-short
put_operands-requires-clause-short c = short_fields c.args.insn.now

pub returns : goal.returns
unfolding text_of
returns c =
    let mnemonic = c.mnemonic_of-mnemonic.result.now in
    let fields = c.args.insn.now.fields in
    let before = c.args.out.now.bytes in
    let name = c.name_of.result.now in
    let ending = ending_text fields mnemonic.endings in
    let operands = operands_text fields (parts_of mnemonic.shape) in
    record {
      bytes = c.put_operands.ensures.bytes
          ∙ ap (λ t. t ++ operands) (c.put_ending.ensures.bytes ∙ ap (λ t. t ++ ending) c.add.ensures.bytes ∙ append_assoc before name ending)
          ∙ append_assoc before (name ++ ending) operands
          ∙ ap (λ t. before ++ t) (ap (λ t. (t ++ ending) ++ operands) c.name_of.ensures.value ∙ ap (λ (m : Named). text_with m fields) c.mnemonic_of-mnemonic.ensures);
      room = omega (arith, c.name_of.ensures.within, c.add.ensures.room, c.put_ending.ensures.room, c.put_operands.ensures.room);
      space = omega (arith, c.add.ensures.space, c.put_ending.ensures.space, c.put_operands.ensures.space);
    }
