use Rattle.std.proofs.Common.{arith}
use Rattle.std.specs.Prelude.{vec_capacity}
use Rattle.board_mem.proofs.Codes.{slots_given, is_given, decoded_given}
use Rattle.board_mem.proofs.code.CodePages.give_slot.Goals as goal

pub returns-clause-slots : goal.returns-clause-slots
returns-clause-slots c =
    let n = c.free_slot-slot.new.self in let f = c.free_slot-slot.ensures.free in
    slots_given n.slots.items n.owners.items n.entries.items n.used n.oldest (vec_capacity n.entries) c.args.page c.free_slot-slot.result (omega (arith, f.size, c.requires.there)) f.within f.unowned c.free_slot-slot.ensures.slots

pub returns-clause-given : goal.returns-clause-given
returns-clause-given c =
    let n = c.free_slot-slot.new.self in let f = c.free_slot-slot.ensures.free in
    is_given c.args.self.now.slots.items n.slots.items n.entries.items n.used c.args.page c.free_slot-slot.result (omega (arith, f.size, c.requires.there)) f

pub returns-clause-decoded : goal.returns-clause-decoded
returns-clause-decoded c = λ bytes decoded.
    let n = c.free_slot-slot.new.self in let f = c.free_slot-slot.ensures.free in
    decoded_given n.slots.items n.entries.items bytes c.args.page c.free_slot-slot.result (omega (arith, f.size, c.requires.there)) f.empty (c.free_slot-slot.ensures.decoded bytes decoded)
