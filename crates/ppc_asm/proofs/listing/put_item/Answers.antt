use Rattle.std.proofs.Common.{◌++◌, codes, append_assoc, ap, ◌∙◌, arith, Option}
use Rattle.ppc_word.specs.declared.row.Row.{Row}
use Rattle.wind_base.specs.Texts.{hex_places}
use Rattle.ppc_asm.specs.Listing.{item_text}
use Rattle.ppc_asm.proofs.listing.put_item.Goals as goal

pub returns-in-None : goal.returns-in-None
returns-in-None c =
    let before = c.args.line.now.bytes in
    let digits = hex_places 8 c.args.word in
    record {
      bytes = c.put_hex.ensures.bytes ∙ ap (λ t. t ++ hex_places 8 c.from.result) c.add.ensures.bytes ∙ ap (λ n. (before ++ codes ".long 0x") ++ hex_places 8 n) c.from.ensures
          ∙ append_assoc before (codes ".long 0x") digits ∙ ap (λ (o : Option Row). before ++ item_text o c.args.word) c.in-None.ensures.row;
      room = omega (arith, c.add.ensures.room, c.put_hex.ensures.room);
      space = omega (arith, c.add.ensures.space, c.put_hex.ensures.space);
    }
