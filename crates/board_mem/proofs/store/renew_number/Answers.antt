use Rattle.std.proofs.Common.{get_or, refl}
use Rattle.board_mem.proofs.Codes.{writable_renewed}
use Rattle.board_mem.proofs.store.renew_number.Goals as goal

pub returns-then-slots-page-eq0 : goal.returns-then-slots-page-eq0
returns-then-slots-page-eq0 c =
    writable_renewed c.args.index.now c.args.writes.now c.args.slots.now c.args.page (get_or c.args.index.now c.args.page 0) c.requires.there c.if-slots-page-eq0.true refl c.requires.writable
