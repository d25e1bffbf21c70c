use Rattle.std.proofs.Common.{◌≡◌, ◌+◌, ◌*◌, ◌%◌, ◌≤◌, ◌<◌, get_or, length, refl, ap, ◌∙◌, arith}
use Rattle.std.specs.Prelude.{vec_capacity}
use Rattle.byteorder.specs.Endian.{big_bytes}
use Rattle.std.specs.Vec.{with_items}
use Rattle.std.proofs.lemmas.List.{get_or_read, with_items_is}
use Rattle.board_mem.specs.Pages.{PagesState, page_bytes, page_of}
use Rattle.board_mem.specs.Store.{offset_of}
use Rattle.board_mem.proofs.Codes.{decoded_elsewhere}
use Rattle.board_mem.proofs.Puts.{IsPut, IsStore-after, code_put, put_pages, put_there}
use Rattle.board_mem.proofs.Stores.{length-bytes_of}
use Rattle.board_mem.proofs.Windows.{IsWindow, window_end, window_in, window_page}
use Rattle.board_mem.proofs.pages.Pages.put_plain_word.Goals as goal

pub index-requires : goal.index-requires
index-requires c =
    let size = ap (λ (s : PagesState). length s.bytes) c.self.view_is in
    omega (arith, c.self.invariant.0.cover, c.self.invariant.1.writable.pages, size, length-bytes_of c.self.inside.size c.self.inside.index.items c.self.inside.store.items)

pub put_word_in-requires : goal.put_word_in-requires
put_word_in-requires c =
    let now = c.self.inside in let page = page_of c.args.at in
    let in_page : c.args.at % page_bytes + 4 ≤ page_bytes = omega (arith, c.requires.aligned) in
    let w : IsWindow now.size now.index.items now.store.items (vec_capacity now.store) c.args.at 4 = window_in c.args.self.now c.self.invariant.0 c.self.view_is (omega arith) in_page c.requires.there in
    let within : page < length now.writes.items = omega (arith, window_page w, c.self.invariant.1.writable.pages) in
    let number : c.index.result.now ≡ get_or now.writes.items page 0 = get_or_read now.writes.items page c.index.result.now within c.index.ensures 0 in
    let same : get_or now.writes.items page 0 ≡ get_or now.index.items page 0 = c.self.invariant.1.writable.number page (omega (arith, number, c.if-number-eq0.false)) in
    let size = ap length c.deref_mut.ensures.value in
    omega (arith, window_end w, number, same, size)

-- the word is all in its page
in_page : (c : goal.After-self-1) → c.args.at % page_bytes + 4 ≤ page_bytes
in_page c = omega (arith, c.requires.aligned)

-- the range in the store
window : (c : goal.After-self-1) → IsWindow c.self.inside.size c.self.inside.index.items c.self.inside.store.items (vec_capacity c.self.inside.store) c.args.at 4
window c = window_in c.args.self.now c.self.invariant.0 c.self.view_is (omega arith) (in_page c) c.requires.there

-- the page has a number for writing
some : (c : goal.After-self-1) → 0 < get_or c.self.inside.writes.items (page_of c.args.at) 0
some c =
    let within : page_of c.args.at < length c.self.inside.writes.items = omega (arith, window_page (window c), c.self.invariant.1.writable.pages) in
    omega (arith, get_or_read c.self.inside.writes.items (page_of c.args.at) c.index.result.now within c.index.ensures 0, c.if-number-eq0.false)

-- the written bytes and their place
put_is : (c : goal.After-self-1) → IsPut c.self.inside.size c.self.inside.index.items c.self.inside.store.items c.self.inside.index.items c.self.inside.store.items c.self.inside.index.items (with_items c.self.inside.store c.put_word_in.new.store).items (vec_capacity c.self.inside.store) (vec_capacity c.self.inside.store) c.args.at (big_bytes 4 c.args.v)
put_is c =
    let now = c.self.inside in let page = page_of c.args.at in
    let within : page < length now.writes.items = omega (arith, window_page (window c), c.self.invariant.1.writable.pages) in
    let number : c.index.result.now ≡ get_or now.writes.items page 0 = get_or_read now.writes.items page c.index.result.now within c.index.ensures 0 in
    let same : get_or now.writes.items page 0 ≡ get_or now.index.items page 0 = c.self.invariant.1.writable.number page (some c) in
    let start : c.index.result.now * page_bytes + c.args.at % page_bytes ≡ offset_of now.index.items c.args.at = omega (arith, number, same) in
    put_there (window c) (omega (arith, some c, same)) (with_items_is now.store c.put_word_in.new.store (omega arith) ∙ c.put_word_in.ensures) c.deref_mut.ensures.value start

pub invariant_of-self : goal.invariant_of-self
invariant_of-self c =
    let now = c.self.inside in let code = now.code in (
      IsStore-after (put_is c) _ refl,
      code_put (put_is c) now.writes.items now.writes.items code.slots.items code.owners.items code.entries.items code.used code.oldest (vec_capacity code.entries) code.entries.items code.slots.items refl
          c.self.invariant.1.writable c.self.invariant.1.slotted
          (λ before after same decoded. decoded_elsewhere code.slots.items code.entries.items before after c.args.at 4 (in_page c) (c.self.invariant.1.writable.plain (page_of c.args.at) (some c)) same decoded) c.self.invariant.1.decoded,
    )

pub returns : goal.returns
returns c = put_pages (put_is c) c.args.self.now c.self.view_is
