use Rattle.std.proofs.Common.{◌<◌, get_or, refl, sym, arith}
use Rattle.board_mem.specs.Pages.{page_of}
use Rattle.board_mem.proofs.Codes.{decoded_elsewhere}
use Rattle.board_mem.proofs.Stores.{made_of-again}
use Rattle.board_mem.proofs.store.number_to_write.Goals as goal

pub returns-then-number-ne0 : goal.returns-then-number-ne0
returns-then-number-ne0 c =
    let page = page_of c.args.at in
    let some : 0 < get_or c.args.writes.now page 0 = omega (arith, c.if-number-ne0.true) in
    let same = c.requires.writable.number page some in
    let numbered : 0 < get_or c.args.index.now page 0 = omega (arith, same) in
    record {
      made = record {
        stored = c.requires.stored;
        numbered = numbered;
        made = sym (made_of-again c.args.index.now page c.requires.there numbered);
        numbers = λ other h. refl;
        bytes = λ size fits. refl;
      };
      number = sym same;
      writable = c.requires.writable;
      slotted = c.requires.slotted;
      decoded = λ before after same decoded. decoded_elsewhere c.args.code.now.slots.items c.args.code.now.entries.items before after c.args.at c.args.n c.requires.whole (c.requires.writable.plain page some) same decoded;
    }
