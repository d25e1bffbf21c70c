use Rattle.std.proofs.Common.{length, sym, ap, ◌∙◌}
use Rattle.board_mem.specs.Pages.{PagesState}
use Rattle.board_mem.proofs.Stores.{length-bytes_of}
use Rattle.board_mem.proofs.pages.Pages.size.Goals as goal

pub returns : goal.returns
returns c =
    sym (length-bytes_of c.self.inside.size c.self.inside.index.items c.self.inside.store.items) ∙ ap (λ (s : PagesState). length s.bytes) c.self.view_is
