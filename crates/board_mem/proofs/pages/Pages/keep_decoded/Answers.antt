use Rattle.std.proofs.Common.{◌≡◌, ℕ, ◌+◌, ◌*◌, ◌/◌, ◌%◌, ◌<◌, length, Some, inr, subst, ap, sym, arith}
use Rattle.board_mem.specs.Memory.{read}
use Rattle.board_mem.specs.Pages.{PagesState}
use Rattle.board_mem.specs.Store.{bytes_of}
use Rattle.board_mem.proofs.Codes.{read_inside, writable_given}
use Rattle.board_mem.proofs.Stores.{length-bytes_of}
use Rattle.board_mem.proofs.pages.Pages.keep_decoded.Goals as goal

pub keep-requires-clause-there : goal.keep-requires-clause-there
keep-requires-clause-there c =
    let size = ap (λ (s : PagesState). length s.bytes) c.self.view_is in
    omega (arith, read_inside c.args.self.now.bytes c.args.at c.args.decoded.word c.requires.word, c.self.invariant.0.cover, c.self.invariant.1.writable.slotted, size, length-bytes_of c.self.inside.size c.self.inside.index.items c.self.inside.store.items)

pub invariant_of-self : goal.invariant_of-self
invariant_of-self c =
    let now = c.self.inside in
    let size = ap (λ (s : PagesState). length s.bytes) c.self.view_is in
    let there : c.args.at / 4096 < length now.index.items = omega (arith, read_inside c.args.self.now.bytes c.args.at c.args.decoded.word c.requires.word, c.self.invariant.0.cover, size, length-bytes_of now.size now.index.items now.store.items) in
    let bytes = bytes_of now.size now.index.items now.store.items in
    let place : c.args.at ≡ 4096 * (c.args.at / 4096) + 4 * (c.args.at % 4096 / 4) = omega (arith, c.requires.aligned) in
    let word = subst (λ (s : PagesState). read 4 s.bytes c.args.at ≡ Some c.args.decoded.word) (sym c.self.view_is) c.requires.word in (
      c.self.invariant.0,
      record {
        writable = writable_given now.index.items now.writes.items now.code.slots.items c.keep.new.self.slots.items (c.args.at / 4096) c.keep.ensures.kept.0 there c.keep.ensures.kept.1 c.self.invariant.1.writable;
        slotted = c.keep.ensures.slots;
        decoded = c.keep.ensures.decoded bytes (inr (subst (λ (a : ℕ). read 4 bytes a ≡ Some c.args.decoded.word) place word)) c.self.invariant.1.decoded;
      },
    )
