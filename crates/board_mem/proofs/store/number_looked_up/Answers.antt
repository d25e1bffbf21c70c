use Rattle.std.proofs.Common.{List, ℕ, subst, sym, ◌∙◌, arith}
use Rattle.board_mem.specs.Code.{AreWritable}
use Rattle.board_mem.proofs.Codes.{writable_still}
use Rattle.board_mem.proofs.store.number_looked_up.Goals as goal

pub renew_number-requires-clause-writable : goal.renew_number-requires-clause-writable
renew_number-requires-clause-writable c =
    let same = sym c.drop_words.ensures.same ∙ sym c.deref.ensures.value in
    subst (λ (s : List ℕ). AreWritable c.number_made-number.new.index c.args.writes.now s) same
    (writable_still c.args.index.now c.number_made-number.new.index c.args.writes.now c.args.code.now.slots.items (omega arith) c.number_made-number.ensures.made.numbers c.requires.writable)

pub returns-clause-writable : goal.returns-clause-writable
returns-clause-writable c =
    subst (λ (s : List ℕ). AreWritable c.number_made-number.new.index c.renew_number.new.writes s) c.deref.ensures.value c.renew_number.ensures
