use Rattle.std.proofs.Common.{◌+◌, ◌%◌, get_or, length, List, ap, ◌∙◌, arith, inl, inr}
use Rattle.std.specs.Prelude.{vec_capacity}
use Rattle.std.specs.Vec.{with_items}
use Rattle.std.proofs.lemmas.List.{with_items_is, get_or_read}
use Rattle.ppc_word.specs.declared.decoded.Decoded.{Decoded}
use Rattle.board_mem.proofs.Codes.{IsFreeing, slots_freed, is_freed, decoded_freed}
use Rattle.board_mem.proofs.code.CodePages.free_oldest.Goals as goal

-- the oldest slot is taken from its page
freeing : (c : goal.After-self-3-1) → IsFreeing c.args.self.now.slots.items (with_items c.args.self.now.slots c.take_slot.new.slots).items c.args.self.now.owners.items c.args.self.now.entries.items (with_items c.args.self.now.entries c.empty_entries.new.entries).items c.args.self.now.used c.args.self.now.oldest (vec_capacity c.args.self.now.entries) c.index.result.now
freeing c =
    let old = c.args.self.now in
    let slots = with_items_is old.slots c.take_slot.new.slots (omega arith) in
    let items = with_items_is old.entries c.empty_entries.new.entries (omega arith) in
    record {
      before = c.requires.slots;
      all = c.requires.all;
      owner_is = get_or_read old.owners.items old.oldest c.index.result.now (omega (arith, c.requires.slots.pages, c.requires.slots.next)) c.index.ensures 0;
      size = ap length slots ∙ omega arith;
      taken = ap (λ xs. get_or xs c.index.result.now 0) slots ∙ c.take_slot.ensures.taken;
      others = λ page other. ap (λ xs. get_or xs page 0) slots ∙ c.take_slot.ensures.others page other ∙ ap (λ xs. get_or xs page 0) c.deref_mut.ensures.value;
      same_size = ap length items ∙ omega arith;
      gone = λ i d lo hi. ap (λ (xs : List Decoded). (get_or xs i d).op) items ∙ c.empty_entries.ensures.emptied i d (omega arith) (omega arith);
      stay = λ i d out. ap (λ xs. get_or xs i d) items ∙ c.empty_entries.ensures.others i d (elim out [ inl l ↦ inl (omega arith) | inr g ↦ inr (omega arith) ]) ∙ ap (λ xs. get_or xs i d) c.deref_mut-2.ensures.value;
    }

pub returns-clause-slots : goal.returns-clause-slots
returns-clause-slots c = slots_freed (freeing c) ((c.args.self.now.oldest + 1) % 64) (omega arith)

pub returns-clause-free : goal.returns-clause-free
returns-clause-free c = is_freed (freeing c)

pub returns-clause-decoded : goal.returns-clause-decoded
returns-clause-decoded c = decoded_freed (freeing c)
