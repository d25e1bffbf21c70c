use Rattle.std.proofs.Common.{◌≡◌, ◌+◌, ◌*◌, get_or, set, ap, ◌∙◌, arith}
use Rattle.std.specs.Prelude.{vec_capacity}
use Rattle.std.proofs.lemmas.List.{get_or-set_same}
use Rattle.board_mem.proofs.Codes.{decoded_kept}
use Rattle.board_mem.proofs.code.CodePages.keep.Goals as goal

pub overflow_mul-slot : goal.overflow_mul-slot
overflow_mul-slot c =
    let own = ((c.slot_for-slot.ensures.slots).owned c.args.page c.slot_for-slot.result c.slot_for-slot.ensures.given.given).0 in record { fits = omega (arith, own, c.slot_for-slot.ensures.slots.few) }

pub overflow_add-slot : goal.overflow_add-slot
overflow_add-slot c =
    let own = ((c.slot_for-slot.ensures.slots).owned c.args.page c.slot_for-slot.result c.slot_for-slot.ensures.given.given).0 in record { fits = omega (arith, own, c.slot_for-slot.ensures.slots.few, c.requires.word) }

pub index_mut-requires : goal.index_mut-requires
index_mut-requires c =
    let own = ((c.slot_for-slot.ensures.slots).owned c.args.page c.slot_for-slot.result c.slot_for-slot.ensures.given.given).0 in omega (arith, own, c.slot_for-slot.ensures.slots.exact, c.requires.word)

pub returns-clause-decoded : goal.returns-clause-decoded
returns-clause-decoded c = λ bytes agrees decoded.
    let n = c.slot_for-slot.new.self in
    decoded_kept n.slots.items n.owners.items n.entries.items n.used n.oldest (vec_capacity n.entries) c.args.page c.slot_for-slot.result c.args.k c.args.decoded bytes
    c.slot_for-slot.ensures.slots c.slot_for-slot.ensures.given.given c.requires.word agrees (c.slot_for-slot.ensures.decoded bytes decoded)

pub returns-clause-kept : goal.returns-clause-kept
returns-clause-kept c =
    let n = c.slot_for-slot.new.self in
    let slot = c.slot_for-slot.result in
    let own = (c.slot_for-slot.ensures.slots.owned c.args.page slot c.slot_for-slot.ensures.given.given).0 in
    let entry = slot * 1024 + c.args.k in
    let place : 1024 * slot + c.args.k ≡ entry = omega arith in (
      slot,
      c.slot_for-slot.ensures.given,
      λ d. ap (λ i. get_or (set n.entries.items entry c.args.decoded) i d) place ∙ get_or-set_same n.entries.items entry c.args.decoded d (omega (arith, own, c.slot_for-slot.ensures.slots.exact, c.requires.word)),
    )
