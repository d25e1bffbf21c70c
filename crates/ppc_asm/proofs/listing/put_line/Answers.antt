use Rattle.std.proofs.Common.{◌≡◌, ◌++◌, codes, ap, ◌∙◌, arith}
use Rattle.ppc_word.specs.Rows.{row_of}
use Rattle.wind_base.specs.Texts.{hex_places}
use Rattle.ppc_asm.specs.Listing.{item_text, line_text}
use Rattle.ppc_asm.proofs.Listed.{then_piece}
use Rattle.ppc_asm.proofs.listing.put_line.Goals as goal

pub returns : goal.returns
unfolding line_text
returns c =
    let w = c.args.word in
    let x = c.args.line.now.bytes in
    let p = hex_places 8 c.args.offset in
    let q = codes " " in
    let r = hex_places 8 w in
    let i = item_text (row_of w) w in
    let n = codes "\n" in
    let b0 = c.put_hex.new.line.bytes in
    let b1 = c.add.new.out.bytes in
    let b2 = c.put_hex-2.new.line.bytes in
    let b3 = c.add-2.new.out.bytes in
    let b4 = c.put_item.new.line.bytes in
    let word : b2 ≡ b1 ++ r = c.put_hex-2.ensures.bytes ∙ ap (λ k. b1 ++ hex_places 8 k) c.from.ensures in
    record {
      bytes = then_piece x ((((p ++ q) ++ r) ++ q) ++ i) n b4 c.add-3.new.out.bytes
          (then_piece x (((p ++ q) ++ r) ++ q) i b3 b4 (then_piece x ((p ++ q) ++ r) q b2 b3 (then_piece x (p ++ q) r b1 b2 (then_piece x p q b0 b1 c.put_hex.ensures.bytes c.add.ensures.bytes) word) c.add-2.ensures.bytes) c.put_item.ensures.bytes)
          c.add-3.ensures.bytes;
      room = omega (arith, c.put_hex.ensures.room, c.add.ensures.room, c.put_hex-2.ensures.room, c.add-2.ensures.room, c.put_item.ensures.room, c.add-3.ensures.room);
      space = omega (arith, c.put_hex.ensures.space, c.add.ensures.space, c.put_hex-2.ensures.space, c.add-2.ensures.space, c.put_item.ensures.space, c.add-3.ensures.space);
    }
