use Rattle.std.proofs.Common.{length, refl, ap, ◌∙◌, arith}
use Rattle.std.specs.Prelude.{vec_capacity}
use Rattle.byteorder.specs.Endian.{big_bytes}
use Rattle.std.specs.Vec.{with_items}
use Rattle.std.proofs.lemmas.List.{with_items_is}
use Rattle.board_mem.specs.Pages.{PagesState}
use Rattle.board_mem.proofs.Puts.{IsPut, IsStore-after, code_put, put_made, put_pages}
use Rattle.board_mem.proofs.Stores.{length-bytes_of}
use Rattle.board_mem.proofs.Windows.{IsWindow, window_in}
use Rattle.board_mem.proofs.pages.Pages.put_word.Goals as goal

pub offset_to_write-start-requires-clause-there : goal.offset_to_write-start-requires-clause-there
offset_to_write-start-requires-clause-there c =
    let size = ap (λ (s : PagesState). length s.bytes) c.self.view_is in
    omega (arith, c.self.invariant.0.cover, size, length-bytes_of c.self.inside.size c.self.inside.index.items c.self.inside.store.items)

-- the range in the store
window : (c : goal.After-self-3-1) → IsWindow c.self.inside.size c.self.inside.index.items c.self.inside.store.items (vec_capacity c.self.inside.store) c.args.at 4
window c = window_in c.args.self.now c.self.invariant.0 c.self.view_is (omega arith) c.requires.page c.requires.there

-- the written bytes and their place
put_is : (c : goal.After-self-3-1) → IsPut c.self.inside.size c.self.inside.index.items c.self.inside.store.items c.offset_to_write-start.new.index c.offset_to_write-start.new.store.items (with_items c.self.inside.index c.offset_to_write-start.new.index).items (with_items c.offset_to_write-start.new.store c.put_word_in.new.store).items (vec_capacity c.self.inside.store) (vec_capacity c.offset_to_write-start.new.store) c.args.at (big_bytes 4 c.args.v)
put_is c = put_made (window c) (rw c.deref_mut.ensures.value at c.offset_to_write-start.ensures.made) (omega arith) (with_items_is c.self.inside.index c.offset_to_write-start.new.index (omega arith)) (with_items_is c.offset_to_write-start.new.store c.put_word_in.new.store (omega arith) ∙ c.put_word_in.ensures) c.deref_mut-3.ensures.value c.offset_to_write-start.ensures.offset

pub invariant_of-self : goal.invariant_of-self
invariant_of-self c =
    let o = c.offset_to_write-start in let code = o.new.code in let now = c.self.inside in (
      IsStore-after (put_is c) _ refl,
      code_put (put_is c) o.new.writes (with_items now.writes o.new.writes).items code.slots.items code.owners.items code.entries.items code.used code.oldest (vec_capacity code.entries) now.code.entries.items now.code.slots.items (with_items_is now.writes o.new.writes (omega arith))
          o.ensures.writable o.ensures.slotted o.ensures.decoded c.self.invariant.1.decoded,
    )

pub returns : goal.returns
returns c = put_pages (put_is c) c.args.self.now c.self.view_is
