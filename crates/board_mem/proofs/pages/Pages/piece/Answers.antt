use Rattle.std.proofs.Common.{◌≡◌, ◌+◌, ◌-◌, length, take, drop, ap, ap₂, ◌∙◌, arith}
use Rattle.std.specs.Prelude.{vec_capacity}
use Rattle.board_mem.specs.Memory.{bytes_at}
use Rattle.board_mem.specs.Pages.{PagesState}
use Rattle.board_mem.specs.Store.{offset_of}
use Rattle.board_mem.proofs.Stores.{length-bytes_of}
use Rattle.board_mem.proofs.Windows.{IsWindow, window_in, bytes_at-window}
use Rattle.board_mem.proofs.pages.Pages.piece.Goals as goal

pub offset-start-requires : goal.offset-start-requires
offset-start-requires c =
    let size = ap (λ (s : PagesState). length s.bytes) c.self.view_is in
    record { there = omega (arith, c.self.invariant.0.cover, size, length-bytes_of c.self.inside.size c.self.inside.index.items c.self.inside.store.items) }

-- the range in the store
window : (c : goal.After-result-1) → IsWindow c.self.inside.size c.self.inside.index.items c.self.inside.store.items (vec_capacity c.self.inside.store) c.args.at c.args.n
window c = window_in c.args.self.now c.self.invariant.0 c.self.view_is c.requires.some c.requires.page c.requires.there

pub returns : goal.returns
returns c =
    let index = c.self.inside.index.items in let store = c.self.inside.store.items in
    let start : c.offset-start.result ≡ offset_of index c.args.at = c.offset-start.ensures ∙ ap (λ i. offset_of i c.args.at) c.deref.ensures.value in
    let count : c.offset-start.result + c.args.n - c.offset-start.result ≡ c.args.n = omega arith in
    ap₂ take count (ap₂ drop start c.deref-2.ensures.value) ∙ bytes_at-window (window c) ∙ ap (λ (s : PagesState). bytes_at s.bytes c.args.at c.args.n) c.self.view_is
