use Rattle.std.proofs.Common.{◌≡◌, length, sym, arith}
use Rattle.std.proofs.lemmas.Bool.Decides.{nat_tests}
use Rattle.std.proofs.lemmas.List.{nil_from_length}
use Rattle.board_mem.specs.Memory.{has}
use Rattle.board_mem.proofs.Writings.{written_or-none}
use Rattle.board_mem.proofs.pages.Pages.write.Goals as goal

pub returns-then-is_empty-clause-pages : goal.returns-then-is_empty-clause-pages
returns-then-is_empty-clause-pages c =
    let none : length c.args.src.now ≡ 0 = grind (arith, nat_tests) in
    rw (nil_from_length c.args.src.now none) (sym (written_or-none c.args.self.now c.args.at (has c.args.self.now.bytes c.args.at 0)))
