use Rattle.std.proofs.Common.{sym}
use Rattle.board_mem.specs.Memory.{has}
use Rattle.board_mem.proofs.Writings.{written_or-none}
use Rattle.board_mem.proofs.pages.Pages.fill.Goals as goal

pub returns-then-n-eq0-clause-pages : goal.returns-then-n-eq0-clause-pages
returns-then-n-eq0-clause-pages c =
    rw c.if-n-eq0.true (sym (written_or-none c.args.self.now c.args.at (has c.args.self.now.bytes c.args.at 0)))
