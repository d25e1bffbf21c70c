use Rattle.std.proofs.Common.{◌<◌, get_or, refl, sym, arith}
use Rattle.board_mem.proofs.Stores.{made_of-again}
use Rattle.board_mem.proofs.store.number_made.Goals as goal

pub returns-then-number-ne0-clause-made : goal.returns-then-number-ne0-clause-made
returns-then-number-ne0-clause-made c =
    let some : 0 < get_or c.args.index.now c.args.page 0 = omega (arith, c.if-number-ne0.true) in
    record { stored = c.requires.stored; numbered = some; made = sym (made_of-again c.args.index.now c.args.page c.requires.there some); numbers = λ other h. refl; bytes = λ size fits. refl }
