use Rattle.std.proofs.Common.{◌≡◌, ◌+◌, ◌*◌, ◌%◌, ◌≤◌, get_or, length, refl, ap, ◌∙◌, arith}
use Rattle.std.specs.Prelude.{vec_capacity}
use Rattle.byteorder.specs.Endian.{big_bytes}
use Rattle.std.specs.Vec.{with_items}
use Rattle.std.proofs.lemmas.List.{get_or_read, with_items_is}
use Rattle.board_mem.specs.Pages.{PagesState, page_bytes, page_of}
use Rattle.board_mem.specs.Store.{offset_of}
use Rattle.board_mem.proofs.Puts.{IsPut, IsStore-after, code_over, put_pages, put_there}
use Rattle.board_mem.proofs.Stores.{length-bytes_of}
use Rattle.board_mem.proofs.Windows.{IsWindow, window_in, window_page}
use Rattle.board_mem.proofs.pages.Pages.put_instruction.Goals as goal

pub index-requires : goal.index-requires
index-requires c =
    let size = ap (λ (s : PagesState). length s.bytes) c.self.view_is in
    omega (arith, c.self.invariant.0.cover, size, length-bytes_of c.self.inside.size c.self.inside.index.items c.self.inside.store.items)

pub entry_at-requires-clause-there : goal.entry_at-requires-clause-there
entry_at-requires-clause-there c =
    let size = ap (λ (s : PagesState). length s.bytes) c.self.view_is in
    omega (arith, c.self.invariant.0.cover, c.self.invariant.1.writable.slotted, size, length-bytes_of c.self.inside.size c.self.inside.index.items c.self.inside.store.items)

-- the written bytes and their place
put_is : (c : goal.After-self-2-1) → IsPut c.self.inside.size c.self.inside.index.items c.self.inside.store.items c.self.inside.index.items c.self.inside.store.items c.self.inside.index.items (with_items c.self.inside.store c.put_word_in.new.store).items (vec_capacity c.self.inside.store) (vec_capacity c.self.inside.store) c.args.at (big_bytes 4 c.args.v)
put_is c =
    let now = c.self.inside in
    let page : c.args.at % page_bytes + 4 ≤ page_bytes = omega (arith, c.requires.aligned) in
    let w : IsWindow now.size now.index.items now.store.items (vec_capacity now.store) c.args.at 4 = window_in c.args.self.now c.self.invariant.0 c.self.view_is (omega arith) page c.requires.there in
    let number : c.index.result.now ≡ get_or now.index.items (page_of c.args.at) 0 = get_or_read now.index.items (page_of c.args.at) c.index.result.now (window_page w) c.index.ensures 0 in
    let start : c.index.result.now * page_bytes + c.args.at % page_bytes ≡ offset_of now.index.items c.args.at = omega (arith, number) in
    put_there w (omega (arith, number)) (with_items_is now.store c.put_word_in.new.store (omega arith) ∙ c.put_word_in.ensures) c.deref_mut.ensures.value start

pub invariant_of-self : goal.invariant_of-self
invariant_of-self c =
    let now = c.self.inside in let entry = c.in-Some.ensures.slot in (
      IsStore-after (put_is c) _ refl,
      code_over (put_is c) now.writes.items now.code.slots.items now.code.owners.items now.code.entries.items now.code.used now.code.oldest (vec_capacity now.code.entries) entry.0 c.in-Some.entry c.in-Some-decode_word.decoded c.self.invariant.1 c.requires.aligned
          entry.1 entry.2 c.in-Some-decode_word.ensures.word (omega arith),
    )

pub returns : goal.returns
returns c = put_pages (put_is c) c.args.self.now c.self.view_is
