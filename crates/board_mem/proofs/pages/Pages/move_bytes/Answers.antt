use Rattle.std.proofs.Common.{sym}
use Rattle.board_mem.proofs.Writings.{written_at-none}
use Rattle.board_mem.proofs.pages.Pages.move_bytes.Goals as goal

pub returns-then-n-eq0 : goal.returns-then-n-eq0
returns-then-n-eq0 c = rw c.if-n-eq0.true (sym (written_at-none c.args.self.now c.args.to))
